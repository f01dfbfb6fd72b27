-- Whether an element is at the upper bound of its pointer.
use Rattle.std.proofs.Common.{◌≡◌, ℕ, ◌^◌, ◌+◌, ◌≤◌, ◌<◌, ◌==◌, refl, sym, ◌∙◌, ap, subst, arith}
use Rattle.std.specs.Prelude.{Bool, true, false, not, ◌&&◌, if◌then◌else◌, nat_lt, nat_le, Option, Some, None, Result, Ok, Err}
use Rattle.std.proofs.lemmas.Bool.Decides.{nat_tests}
use Rattle.ckc_base.specs.declared.arithmetic.BinOp.TheVariants as binary
use Rattle.ckc_base.specs.declared.runtime_checks.Check.TheVariants as check
use Rattle.ckc_base.specs.Words.{applied, flag}
use Rattle.ckc_base.specs.Memory.{Memory}
use Rattle.ckc_base.specs.Activations.{Values}
use Rattle.ckc_source.specs.declared.expr.Access.{Access}
use Rattle.ckc_source.specs.declared.outcome.Range.{Range}
use Rattle.ckc_source.specs.declared.outcome.Range.TheVariants.{Within, Without}
use Rattle.ckc_source.specs.declared.outcome.Value.{Value}
use Rattle.ckc_source.specs.declared.outcome.Halt.{Halt}
use Rattle.ckc_source.specs.Code as source
use Rattle.ckc_source.specs.Words.{exact, as_address, elements_behind}
use Rattle.ckc_source.specs.Eval.{Store, given, stops, at_address, in_range, exact_element}
use Rattle.ckc_core.specs.Code.{Expr, Local, Bin}
use Rattle.ckc_core.specs.Meaning.{both, value_of}
use Rattle.ckc_checks_operands.specs.code.Pointers.{range_end}
use Rattle.ckc_checks_follow.proofs.Values.{Agree}
use Rattle.ckc_checks_follow.proofs.Ranges.{HasRange}
use Rattle.ckc_checks_follow.proofs.Coming.{HasAt}

pub both_some : (f : ℕ → ℕ → ℕ) (o p : Option ℕ) (a b : ℕ) → o ≡ Some a → p ≡ Some b → both f o p ≡ Some (f a b)
both_some f o p a b e g = ap (λ o. both f o p) e ∙ ap (λ p. both f (Some a) p) g

-- the test that it is not, of a range that is computed, or of one in temporaries
abbrev pub end_test : Bool → source.Expr → ℕ → Expr
end_test b p t = if b then Bin binary.Ne (Local t) (range_end true p) else Bin binary.Ne (Bin binary.Sub (Local t) (Local (t + 1))) (Local (t + 2))

abbrev pub IsEnded : Values → Memory → Expr → Range → ℕ → Type 0
IsEnded l memory test (Within low high) q = value_of l memory test ≡ Some (flag (not (q == high)))
IsEnded l memory test Without q = ⊥

abbrev pub IsFrom : Range → ℕ → Type 0
IsFrom (Within low high) q = low ≤ q
IsFrom Without q = ⊥

-- what is accessed through a pointer with a range is not below it, and the pointer is not null
pub reached_known : (last : Bool) (access : Access) (x : Value) (k q : ℕ) → given (exact_element access x k) (in_range last x.range access.at) ≡ Ok q → ((x.number == 0) ≡ false) × IsFrom x.range q
reached_known last access x k q e = by (x.number == 0) refl e
  where
    fits : (low high a : ℕ) (above below : Bool) → nat_le low a ≡ above → (if above && below then Ok a else stops check.Bounds access.at) ≡ Ok q → low ≤ q
    fits low high a true true z e =
        let s : a ≡ q = ap (λ (r : Result ℕ Halt). elim r [ Ok n ↦ n | Err h ↦ a ]) e in
        grind (arith, nat_tests)
    fits low high a true false z e = absurd cc
    fits low high a false below z e = absurd cc

    inside : (range : Range) (a : ℕ) → in_range last range access.at a ≡ Ok q → IsFrom range q
    inside (Within low high) a e = fits low high a (nat_le low a) (if last then nat_le a high else nat_lt a high) refl e
    inside Without a e = absurd cc

    at_some : (o : Option ℕ) → given (at_address o access.at) (in_range last x.range access.at) ≡ Ok q → IsFrom x.range q
    at_some (Some a) e = inside x.range a e
    at_some None e = absurd cc

    by : (zero : Bool) → (x.number == 0) ≡ zero
        → given (if zero then stops check.Null access.at else at_address (as_address (elements_behind x.number access.size (exact access.index k))) access.at) (in_range last x.range access.at) ≡ Ok q
        → ((x.number == 0) ≡ false) × IsFrom x.range q
    by true z e = absurd cc
    by false z e = (z, at_some (as_address (elements_behind x.number access.size (exact access.index k))) e)

pub end_ranged : (n : ℕ) (s : Store) (memory : Memory) (p : source.Expr) (x : Value) (t q : ℕ) (l : Values) → HasRange n s memory p x → Agree n s.locals l → l t ≡ Some q → IsEnded l memory (end_test true p t) x.range q
end_ranged n s memory p x t q l known agree h =
    subst (λ range. IsEnded l memory (end_test true p t) range q) (sym known.2)
    (both_some (applied binary.Ne) (l t) (value_of l memory (range_end true p)) q known.1 h (known.4 l agree))

far_end : (q low length : ℕ) → low ≤ q → q < 2 ^ 32 → (applied binary.Sub q low == length) ≡ (q == low + length)
far_end q low length h small = from (q == low + length) refl
  where
    from : (b : Bool) → (q == low + length) ≡ b → (applied binary.Sub q low == length) ≡ b
    from true e = grind (arith, nat_tests)
    from false e = grind (arith, nat_tests)

pub end_held : (memory : Memory) (p : source.Expr) (range : Range) (t q : ℕ) (l : Values) → HasAt range t l → IsFrom range q → l t ≡ Some q → q < 2 ^ 32 → IsEnded l memory (end_test false p t) range q
end_held memory p (Within a b) t q l has from h small =
    let low = has.0 in
    let length = has.1 in
    let ends = has.6 in
    both_some (applied binary.Ne) (both (applied binary.Sub) (l t) (l (t + 1))) (l (t + 2)) (applied binary.Sub q low) length (both_some (applied binary.Sub) (l t) (l (t + 1)) q low h has.2) has.3
    ∙ ap (λ m. Some (flag (not m))) (far_end q low length (omega (arith, from, ends.0)) small ∙ ap (λ (c : ℕ). q == c) (sym ends.1))
end_held memory p Without t q l has from h small = absurd from

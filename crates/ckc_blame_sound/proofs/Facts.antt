-- Facts that are true of values stay true of what is added to them and of what is left of them.
use Rattle.std.proofs.Common.{◌⊎◌, inl, inr, ◌||◌, ◌≡◌, ◌≢◌, refl, ℕ, Bool, true, false, List, [], ◌∷◌, ℤ, ◌+ℤ◌, ◌≤ℤ◌, arith}
use Rattle.std.specs.Prelude.{◌==◌, pos, not, cond, nat_lt, ◌^◌, ◌&&◌, ◌+◌, if◌then◌else◌, Option, None, Some, neg_ℤ, ◌++◌}
use Rattle.std.specs.List.{All, filter}
use Rattle.std.proofs.lemmas.Int.{ints}
use Rattle.std.proofs.lemmas.Bool.Decides.{nat_tests}
use Rattle.std.proofs.lemmas.List.Elements.{All-nil, All-cons, All-head, All-tail, All-push}
use Rattle.ckc_linear.specs.declared.facts.Fact.{Fact}
use Rattle.ckc_linear.specs.Facts.{Satisfies, names}
use Rattle.ckc_linear.specs.Chains.{Chain, total}
use Rattle.ckc_linear.proofs.Values.{walk_holds, other_holds}
use Rattle.ckc_bounds.specs.ckc_bounds_known.specs.declared.intervals.Interval.{Interval}
use Rattle.ckc_bounds.specs.ckc_bounds_known.specs.Shown.{Known, is_within, reaches, is_shown}
use Rattle.ckc_bounds.specs.ckc_bounds_known.specs.Ranges.{fits, with_fact, with_range}
use Rattle.ckc_blame_sound.specs.Values.{IsBetween}
use Rattle.ckc_bounds.specs.ckc_bounds_known.proofs.Reaching.{and_cases, chain_found}

pub same : (a b : ℕ) → (a == b) ≡ true → a ≡ b
same a b e = grind (arith, nat_tests)

pub one_of : (a b : Bool) → (a || b) ≡ true → (a ≡ true) ⊎ (b ≡ true)
one_of true b h = inl refl
one_of false b h = inr h

abbrev pub Hold : (ℕ → ℤ) → List Fact → Type 0
Hold value fs = All (Satisfies value) fs

-- what is shown is true
pub shown_true : (facts : Known) (value : ℕ → ℤ) (f : Fact) → Hold value facts.list → is_shown facts f ≡ true → Satisfies value f
shown_true facts value f all shown =
    let r = reaches (facts.vars + 1) facts.list f.x f.y f.c in
    let w = is_within (2 ^ 50) f.c in
    let a = and_cases (nat_lt f.x facts.vars) (nat_lt f.y facts.vars && (w && r)) shown in
    let b = and_cases (nat_lt f.y facts.vars) (w && r) a.1 in
    let c = and_cases w r b.1 in
    let chain : Chain facts.vars facts.list f.x f.y f.c = (chain_found facts.vars facts.list f.x f.y f.c).0 c.1 in
    let holds : value f.x ≤ℤ (value f.y +ℤ total chain.walk) = walk_holds facts.list value all f.x f.y chain.walk chain.leads in
    let sum : total chain.walk ≤ℤ f.c = chain.sum in
    omega (arith, ints)

pub fact_added : (value : ℕ → ℤ) (f : Fact) (facts : Known) → Satisfies value f → Hold value facts.list → Hold value (with_fact f facts).list
fact_added value f facts h all = by (fits facts.vars f)
  where
    by : (b : Bool) → Hold value (if b then record facts { list = facts.list ++ f ∷ [] } else facts).list
    by true = All-push (Satisfies value) facts.list f all h
    by false = all

pub range_added : (value : ℕ → ℤ) (x : ℕ) (r : Option Interval) (facts : Known) → value 0 ≡ pos 0 → IsBetween r (value x) → Hold value facts.list
    → Hold value (with_range x r facts).list
range_added value x None facts zero lies all = all
range_added value x (Some r) facts zero lies all =
    let low = lies.0 in
    let high = lies.1 in
    let f : Fact = record { x = x; y = 0; c = pos r.high } in
    let g : Fact = record { x = 0; y = x; c = neg_ℤ r.low } in
    fact_added value g (with_fact f facts) (omega (arith, ints)) (fact_added value f facts (omega (arith, ints)) all)

module _ (x : ℕ) (before after : ℕ → ℤ) (others : (v : ℕ) → v ≢ x → after v ≡ before v) where
  one_forgotten : (f : Fact) (fs : List Fact) → Satisfies before f → Hold after (filter (λ f. not (names x f)) fs)
      → (b : Bool) → names x f ≡ b → Hold after (cond (not b) (f ∷ filter (λ f. not (names x f)) fs) (filter (λ f. not (names x f)) fs))
  one_forgotten f fs h rest true e = rest
  one_forgotten f fs h rest false e = All-cons (Satisfies after) f _ (other_holds x before after others f e h) rest

  pub rest_holds : (fs : List Fact) → Hold before fs → Hold after (filter (λ f. not (names x f)) fs)
  rest_holds [] h = All-nil (Satisfies after)
  rest_holds (f ∷ fs) h = one_forgotten f fs (All-head (Satisfies before) f fs h) (rest_holds fs (All-tail (Satisfies before) f fs h)) (names x f) refl

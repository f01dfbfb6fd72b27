-- The element that an access goes to through a checked pointer is one that its range reaches.
use Rattle.std.proofs.Common.{◌≡◌, ◌⊎◌, inl, inr, ℕ, suc, ◌+◌, ◌*◌, ◌%◌, ◌^◌, ◌≤◌, ◌<◌, ◌==◌, refl, sym, ◌∙◌, ap, subst, arith}
use Rattle.std.specs.Prelude.{Bool, true, false, ◌&&◌, if◌then◌else◌, nat_le, nat_lt, ℤ, pos, negsuc, ◌+ℤ◌, Some, None, Result, Ok, Err}
use Rattle.std.proofs.lemmas.Bool.{and_parts, cases_eq, leb-true, ltb-true}
use Rattle.std.proofs.lemmas.Int.{ints}
use Rattle.std.proofs.Math.IntN.{neg_ℤ, pos-*ℤ-pos, pos-*ℤ-negsuc}
use Rattle.std.proofs.Math.Nat.{add-mul-mod_self_left, mod-eq_of_lt}
use Rattle.ckc_base.specs.declared.arithmetic.Width.{Width}
use Rattle.ckc_base.specs.declared.places.Pos.{Pos}
use Rattle.ckc_base.specs.declared.runtime_checks.Check.TheVariants as check
use Rattle.ckc_base.specs.Memory.{width_bytes, data_end}
use Rattle.ckc_source.specs.declared.expr.Access.{Access}
use Rattle.ckc_source.specs.declared.expr.Pointee.{Pointee}
use Rattle.ckc_source.specs.declared.expr.Through.TheVariants as through
use Rattle.ckc_source.specs.declared.outcome.Range.{Range}
use Rattle.ckc_source.specs.declared.outcome.Range.TheVariants.{Within}
use Rattle.ckc_source.specs.declared.outcome.Halt.{Halt}
use Rattle.ckc_source.specs.declared.outcome.Value.{Value}
use Rattle.ckc_source.specs.Words.{exact, as_address, elements_behind}
use Rattle.ckc_source.specs.Eval.{given, stops, at_address, exact_element, in_range, element, element_through, place_in}
use Rattle.ckc_blame_sound.specs.Cells.{IsReached}

-- ---- numbers

steps_on : (a n k : ℕ) → pos a ≡ pos n +ℤ pos k → a ≡ n + k
steps_on a n k e = omega (arith, ints)

-- so many elements away, the remainder is the same
away : (a n s : ℕ) (z : ℤ) → pos a ≡ elements_behind n s z → a % s ≡ n % s
away a n s (pos m) e =
    let on = steps_on a n (s * m) (e ∙ ap (λ y. pos n +ℤ y) (pos-*ℤ-pos s m)) in
    ap (λ x. x % s) on ∙ add-mul-mod_self_left n s m
away a n s (negsuc m) e =
    let back = steps_back a n (s * suc m) (e ∙ ap (λ y. pos n +ℤ y) (pos-*ℤ-negsuc s m)) in
    sym (add-mul-mod_self_left a s (suc m)) ∙ ap (λ x. x % s) (sym back)
  where
    steps_back : (a n k : ℕ) → pos a ≡ pos n +ℤ neg_ℤ (pos k) → n ≡ a + k
    steps_back a n k e = omega (arith, ints)

-- ---- accesses

address_there : (z : ℤ) (at : Pos) (a : ℕ) → at_address (as_address z) at ≡ Ok a → z ≡ pos a
address_there (pos n) at a e = by (nat_lt n (2 ^ 32)) e
  where
    by : (b : Bool) → at_address (if b then Some n else None) at ≡ Ok a → pos n ≡ pos a
    by true h = let same : n ≡ a = cc in ap pos same
    by false h = absurd cc
address_there (negsuc n) at a e = absurd cc

exact_there : (access : Access) (v : Value) (i a : ℕ) → exact_element access v i ≡ Ok a → elements_behind v.number access.size (exact access.index i) ≡ pos a
exact_there access v i a e = by (v.number == 0) e
  where
    by : (b : Bool) → (if b then stops check.Null access.at else at_address (as_address (elements_behind v.number access.size (exact access.index i))) access.at) ≡ Ok a
        → elements_behind v.number access.size (exact access.index i) ≡ pos a
    by true h = absurd cc
    by false h = address_there (elements_behind v.number access.size (exact access.index i)) access.at a h

ranged_there : (last : Bool) (low high : ℕ) (at : Pos) (x a : ℕ) → in_range last (Within low high) at x ≡ Ok a
    → (x ≡ a) × (low ≤ a) × ((if last then nat_le a high else nat_lt a high) ≡ true)
ranged_there last low high at x a e = by (nat_le low x && (if last then nat_le x high else nat_lt x high)) refl e
  where
    by : (b : Bool) → (nat_le low x && (if last then nat_le x high else nat_lt x high)) ≡ b → (if b then Ok x else stops check.Bounds at) ≡ Ok a
        → (x ≡ a) × (low ≤ a) × ((if last then nat_le a high else nat_lt a high) ≡ true)
    by true f h =
        let same : x ≡ a = cc in
        let p = and_parts (nat_le low x) (if last then nat_le x high else nat_lt x high) f in
        (same, subst (λ y. low ≤ y) same (leb-true low x p.0), subst (λ y. (if last then nat_le y high else nat_lt y high) ≡ true) same p.1)
    by false f h = absurd cc

pub given_there : {A B : Type 0} (x : Result A Halt) (f : A → Result B Halt) (b : B) → given x f ≡ Ok b → (a : A) × (x ≡ Ok a) × (f a ≡ Ok b)
given_there (Ok a) f b e = (a, refl, e)
given_there (Err h) f b e = absurd cc

module _ (to : Pointee) (access : Access) (v : Value) (i low high a : ℕ) (range : v.range ≡ Within low high) (size : access.size ≡ to.size) where
  reached : (last : Bool) → given (exact_element access v i) (in_range last v.range access.at) ≡ Ok a → (last ≡ true → to.terminated ≡ true)
      → IsReached to v.number low high a
  reached last e h =
      let g = given_there (exact_element access v i) (in_range last v.range access.at) a e in
      let r = ranged_there last low high access.at g.0 a (sym (ap (λ (x : Range). in_range last x access.at g.0) range) ∙ g.2) in
      let far = exact_there access v i g.0 g.1 in
      let is : pos a ≡ elements_behind v.number access.size (exact access.index i) = sym (ap pos r.0) ∙ sym far in
      record {
        away = subst (λ s. a % s ≡ v.number % s) size (away a v.number access.size (exact access.index i) is);
        behind = r.1;
        before = by last r.2 h;
      }
    where
      by : (last : Bool) → (if last then nat_le a high else nat_lt a high) ≡ true → (last ≡ true → to.terminated ≡ true)
          → (a < high) ⊎ ((a ≡ high) × (to.terminated ≡ true))
      by true e h = or_at (leb-true a high e) (h refl)
        where
          or_at : a ≤ high → to.terminated ≡ true → (a < high) ⊎ ((a ≡ high) × (to.terminated ≡ true))
          or_at l t = elim (cases_eq a high) [ inl s ↦ inr (s, t) | inr n ↦ inl (omega arith) ]
      by false e h = inl (ltb-true a high e)

  pub array_reached : access.through ≡ through.Array → element access v i ≡ Ok a → IsReached to v.number low high a
  array_reached t e = reached false (sym (ap (λ x. element_through x access v i) t) ∙ e) (λ f. absurd (different f))
    where
      different : false ≡ true → ⊥
      different f = absurd cc

  pub terminated_reached : access.through ≡ through.Terminated → to.terminated ≡ true → element access v i ≡ Ok a → IsReached to v.number low high a
  terminated_reached t h e = reached true (sym (ap (λ x. element_through x access v i) t) ∙ e) (λ f. h)

-- the element that the pointer itself points to
pub itself_reached : (to : Pointee) (n low high : ℕ) → low ≤ n → n < high → IsReached to n low high n
itself_reached to n low high h k = record { away = refl; behind = h; before = inl k }

-- ---- members

-- an access that ends in the data region does not wrap
pub place_is : (a offset : ℕ) (width : Width) → a + offset + width_bytes width ≤ data_end → place_in a offset ≡ a + offset
place_is a offset width h = mod-eq_of_lt (omega arith)

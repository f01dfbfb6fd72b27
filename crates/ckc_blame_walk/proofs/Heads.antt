-- What is known at the head of a loop is known before it and names nothing that the loop assigns, and what stays known in
-- both branches stays known where they join.
use Rattle.std.proofs.Common.{◌≡◌, ◌⊎◌, inl, inr, ⊎_elim, refl, sym, subst, ◌∙◌, ℕ, ◌+◌, Bool, true, false, List, [], ◌∷◌, ◌++◌, arith}
use Rattle.std.specs.Prelude.{◌&&◌, ◌==◌, ◌^◌, not, if◌then◌else◌, pos, neg_ℤ, slice_index, Option, None, Some, IfSome}
use Rattle.std.specs.List.{All, Contains, list_any}
use Rattle.std.specs.Ordering.{int_eq}
use Rattle.std.proofs.lemmas.Int.{ints}
use Rattle.std.proofs.lemmas.Bool.Decides.{nat_tests, Decides-int_eq}
use Rattle.std.proofs.lemmas.List.Folds.{list_any_at}
use Rattle.std.proofs.lemmas.List.Elements.{All-nil, All-cons, All-head, All-filter, Contains-push_cases}
use Rattle.ckc_linear.specs.declared.facts.Fact.{Fact}
use Rattle.ckc_linear.specs.Facts.{names}
use Rattle.ckc_typed.specs.Types.{is_integer}
use Rattle.ckc_blame_sound.specs.ckc_bounds_known.specs.declared.intervals.Interval.{Interval}
use Rattle.ckc_blame_sound.specs.ckc_bounds_known.specs.Shown.{Known, is_within}
use Rattle.ckc_blame_sound.specs.ckc_bounds_known.specs.Ranges.{range_of, fits, with_fact, with_range, forgotten}
use Rattle.ckc_blame_sound.specs.ckc_bounds_points.specs.declared.frame.Local.{Local}
use Rattle.ckc_blame_sound.specs.ckc_bounds_points.specs.declared.frame.Frame.{Frame}
use Rattle.ckc_blame_sound.specs.ckc_bounds_points.specs.Frames.{local_at}
use Rattle.ckc_blame_sound.specs.ckc_bounds_points.specs.Flow.{State, assigned_facts, widening_names, local_assigned, assigned, less, same_fact, in_both, wide_in_both, joined}
use Rattle.ckc_blame_sound.specs.Values.{value, HoldWords, IsBetween, NamesIntegers}
use Rattle.ckc_blame_sound.proofs.Flow.{word_lies, integer_value, variable_value}
use Rattle.ckc_blame_walk.specs.Walks.{IsSpared, StaysWide, IsAlways, IsLeft, Stays}
use Rattle.ckc_blame_walk.proofs.Flow.{passes_on, was_in, passed_by}

-- ---- the head of a loop

-- what is in the facts after one is added
fact_cases : (f : Fact) (facts : Known) (g : Fact) → Contains (with_fact f facts).list g → Contains facts.list g ⊎ (f ≡ g)
fact_cases f facts g = by (fits facts.vars f)
  where
    by : (b : Bool) → Contains (if b then record facts { list = facts.list ++ f ∷ [] } else facts).list g → Contains facts.list g ⊎ (f ≡ g)
    by true c = Contains-push_cases facts.list f g c
    by false c = inl c

module _ (frame : Frame) where
  -- a fact on the range of the type of a local
  lies_always : (k : ℕ) (l : Local) → local_at frame k ≡ Some l → is_integer l.ctype ≡ true → (locals : List ℕ) → HoldWords frame locals → IsBetween (range_of l.ctype) (value frame locals (k + 1))
  lies_always k l there i locals words =
      subst (IsBetween (range_of l.ctype)) (sym (variable_value frame locals k l there ∙ integer_value l (slice_index locals k) i))
      (word_lies l.ctype (slice_index locals k) i (words k l there))

  range_cases : (x : ℕ) (r : Option Interval) (facts : Known) → ((locals : List ℕ) → HoldWords frame locals → IsBetween r (value frame locals x)) → (g : Fact)
      → Contains (with_range x r facts).list g → Contains facts.list g ⊎ IsAlways frame g
  range_cases x None facts lies g c = inl c
  range_cases x (Some r) facts lies g c =
      ⊎_elim
      (λ d. ⊎_elim (λ e. inl e) (λ e. inr (subst (IsAlways frame) e (λ locals words. let h = (lies locals words).1 in omega (arith, ints)))) (fact_cases high facts g d))
      (λ e. inr (subst (IsAlways frame) e (λ locals words. let h = (lies locals words).0 in omega (arith, ints))))
      (fact_cases low (with_fact high facts) g c)
    where
      high : Fact
      high = record { x = x; y = 0; c = pos r.high }

      low : Fact
      low = record { x = 0; y = x; c = neg_ℤ r.low }

  is_false : (b : Bool) → not b ≡ true → b ≡ false
  is_false true e = absurd (cc)
  is_false false e = refl

  one_left : (k : ℕ) (at : State) → at.reached ≡ true → IsLeft frame (k ∷ []) (assigned frame k None at) at
  one_left k at reached =
      subst (λ (b : Bool). IsLeft frame (k ∷ []) (if b then local_assigned frame k (local_at frame k) None at else at) at) (sym reached) (by_local (local_at frame k) refl)
    where
      spared : (f : Fact) (o : Option Local) → local_at frame k ≡ o → IfSome o (λ (l : Local). is_integer l.ctype ≡ true → names (k + 1) f ≡ false) → All (IsSpared frame f) (k ∷ [])
      spared f o there h =
          All-cons (IsSpared frame f) k [] (subst (λ o. IfSome o (λ (l : Local). is_integer l.ctype ≡ true → names (k + 1) f ≡ false)) (sym there) h) (All-nil (IsSpared frame f))

      by_type : (l : Local) → local_at frame k ≡ Some l → (f : Fact) → (b : Bool) → is_integer l.ctype ≡ b
          → Contains (if b then assigned_facts (k + 1) (range_of l.ctype) None at.facts else at.facts).list f → (Contains at.facts.list f × All (IsSpared frame f) (k ∷ [])) ⊎ IsAlways frame f
      by_type l there f true e c =
          ⊎_elim
          (λ d. inl (was_in (λ f. not (names (k + 1) f)) at.facts.list f d, spared f (Some l) there (λ i. is_false (names (k + 1) f) (passed_by (λ f. not (names (k + 1) f)) at.facts.list f d))))
          (λ d. inr d)
          (range_cases (k + 1) (range_of l.ctype) (forgotten (k + 1) at.facts) (lies_always k l there e) f c)
      by_type l there f false e c = inl (c, spared f (Some l) there (λ i. absurd (cc)))

      wide : (p : ℕ) (o : Option Local) → local_at frame k ≡ o → IfSome o (λ (l : Local). widening_names frame k p ≡ false) → All (StaysWide frame p) (k ∷ [])
      wide p o there h =
          All-cons (StaysWide frame p) k [] (subst (λ o. IfSome o (λ (l : Local). widening_names frame k p ≡ false)) (sym there) h) (All-nil (StaysWide frame p))

      by_local : (o : Option Local) → local_at frame k ≡ o → IsLeft frame (k ∷ []) (local_assigned frame k o None at) at
      by_local None there = record {
        facts = λ f c. inl (c, spared f None there tt);
        widened = λ p c. (c, wide p None there tt);
      }
      by_local (Some l) there = record {
        facts = λ f c. by_type l there f (is_integer l.ctype) refl c;
        widened = λ p c. (
          was_in (λ p. not (widening_names frame k p)) at.widened p c,
          wide p (Some l) there (is_false (widening_names frame k p) (passed_by (λ p. not (widening_names frame k p)) at.widened p c)),
        );
      }

  pub left_less : (ks : List ℕ) (at : State) → at.reached ≡ true → IsLeft frame ks (less frame ks at) at
  left_less [] at reached = record { facts = λ f c. inl (c, All-nil (IsSpared frame f)); widened = λ p c. (c, All-nil (StaysWide frame p)) }
  left_less (k ∷ ks) at reached =
      let before : State = assigned frame k None at in
      let one : IsLeft frame (k ∷ []) before at = one_left k at reached in
      let rest : IsLeft frame ks (less frame ks before) before = left_less ks before (still k at reached) in
      record {
        facts = λ f c. ⊎_elim
            (λ (h : Contains before.facts.list f × All (IsSpared frame f) ks). ⊎_elim
            (λ (g : Contains at.facts.list f × All (IsSpared frame f) (k ∷ [])). inl (g.0, All-cons (IsSpared frame f) k ks (All-head (IsSpared frame f) k [] g.1) h.1))
            (λ g. inr g) (one.facts f h.0))
            (λ h. inr h) (rest.facts f c);
        widened = λ p c.
            let h = rest.widened p c in
            let g = one.widened p h.0 in
            (g.0, All-cons (StaysWide frame p) k ks (All-head (StaysWide frame p) k [] g.1) h.1);
      }
    where
      still : (k : ℕ) (at : State) → at.reached ≡ true → (assigned frame k None at).reached ≡ true
      still k at reached = subst (λ (b : Bool). (if b then local_assigned frame k (local_at frame k) None at else at).reached ≡ true) (sym reached) (by (local_at frame k))
        where
          by : (o : Option Local) → (local_assigned frame k o None at).reached ≡ true
          by None = reached
          by (Some l) = reached

-- ---- where branches join

same_itself : (f : Fact) → same_fact f f ≡ true
same_itself f = all (f.x == f.x) (f.y == f.y) (int_eq f.c f.c) (equal f.x) (equal f.y) ((Decides-int_eq f.c f.c).1 refl)
  where
    equal : (n : ℕ) → (n == n) ≡ true
    equal n = grind (arith, nat_tests)

    all : (a b c : Bool) → a ≡ true → b ≡ true → c ≡ true → (a && (b && c)) ≡ true
    all a b c p q r = cc

number_itself : (n : ℕ) → (n == n) ≡ true
number_itself n = grind (arith, nat_tests)

module _ (frame : Frame) (ks : List ℕ) (at one two : State) (h : Stays frame ks at one) (g : Stays frame ks at two) where
  abbrev chosen : Bool → Bool → State
  chosen a b =
      if a
      then (if b then record one { facts = record one.facts { list = in_both one.facts.list two.facts.list }; widened = wide_in_both one.widened two.widened } else one)
      else two

  -- What stays known in two branches stays known after them.
  pub stays_joined : Stays frame ks at (joined one two)
  stays_joined = by one.reached two.reached refl refl
    where
      by : (a b : Bool) → one.reached ≡ a → two.reached ≡ b → Stays frame ks at (chosen a b)
      by true true p q = record {
        reached = λ r. h.reached p;
        facts = λ r f w s c. passes_on (λ f. list_any (same_fact f) two.facts.list) one.facts.list f (h.facts p f w s c) (there_too f (g.facts q f w s c));
        widened = λ r k s c. passes_on (λ k. list_any (λ q. q == k) two.widened) one.widened k (h.widened p k s c) (wide_too k (g.widened q k s c));
        small = λ s. All-filter (λ f. list_any (same_fact f) two.facts.list) (λ (f : Fact). is_within (2 ^ 50) f.c ≡ true) one.facts.list (h.small s);
        named = λ n. All-filter (λ f. list_any (same_fact f) two.facts.list) (NamesIntegers frame) one.facts.list (h.named n);
      }
        where
          there_too : (f : Fact) → Contains two.facts.list f → list_any (same_fact f) two.facts.list ≡ true
          there_too f c = list_any_at (same_fact f) two.facts.list c.0 f c.1 (subst (λ e. same_fact f e ≡ true) (sym c.2) (same_itself f))

          wide_too : (k : ℕ) → Contains two.widened k → list_any (λ q. q == k) two.widened ≡ true
          wide_too k c = list_any_at (λ q. q == k) two.widened c.0 k c.1 (subst (λ e. (e == k) ≡ true) (sym c.2) (number_itself k))
      by true false p q = h
      by false b p q = g

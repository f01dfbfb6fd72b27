-- One round over the facts, fact by fact.
use Rattle.std.proofs.Common.{◌≡◌, ◌⊎◌, inl, inr, ⊎_elim, refl, sym, ap, subst, ◌∙◌, ℕ, ◌+◌, ◌<◌, List, [], ◌∷◌, ◌++◌, length, get_or, set, take, Bool, true, false, ◌||◌, ℤ, pos, ◌+ℤ◌, ◌≤ℤ◌, ◌<ℤ◌, arith}
use Rattle.std.specs.Bool.{OnFalse}
use Rattle.std.specs.List.{Contains}
use Rattle.std.proofs.lemmas.Bool.{cases_eq}
use Rattle.std.proofs.lemmas.Int.{ints}
use Rattle.std.proofs.lemmas.List.{take_more, get_or-set_same, get_or-set_other}
use Rattle.std.proofs.lemmas.List.Elements.{Contains-append_left, Contains-push, Contains-push_cases}
use Rattle.ckc_linear.specs.declared.facts.Fact.{Fact}
use Rattle.ckc_linear.specs.code.Rows.{IsRound, Lowers, none, sum_at}

-- what one fact makes of a row
record Step (f : Fact) (sums next after : List ℤ) : Type 0 where
  falls : (v : ℕ) → sum_at after v ≤ℤ sum_at next v
  least : sum_at sums f.y <ℤ none → sum_at after f.x ≤ℤ (f.c +ℤ sum_at sums f.y)
  reached : (v : ℕ) → (sum_at after v ≡ sum_at next v)
      ⊎ ((f.x ≡ v) × (sum_at sums f.y <ℤ none) × (sum_at after v ≡ f.c +ℤ sum_at sums f.y))

module _ (f : Fact) (sums next after : List ℤ) (left : f.x < length next) where
  kept_step : after ≡ next → (sum_at sums f.y <ℤ none → sum_at next f.x ≤ℤ (f.c +ℤ sum_at sums f.y)) → Step f sums next after
  kept_step same least =
      let at : (v : ℕ) → sum_at after v ≡ sum_at next v = λ v. ap (λ row. sum_at row v) same in
      record {
        falls = λ v. let e = at v in omega (arith, ints);
        least = λ h. let e = at f.x in let l = least h in omega (arith, ints);
        reached = λ v. inl (at v);
      }

  lowered_step : sum_at sums f.y <ℤ none → (f.c +ℤ sum_at sums f.y) <ℤ sum_at next f.x → after ≡ set next f.x (f.c +ℤ sum_at sums f.y) → Step f sums next after
  lowered_step through less same =
      let sum = f.c +ℤ sum_at sums f.y in
      let here : sum_at after f.x ≡ sum = ap (λ row. sum_at row f.x) same ∙ get_or-set_same next f.x sum (pos 0) left in
      let there : (v : ℕ) → (f.x ≡ v → ⊥) → sum_at after v ≡ sum_at next v =
      λ v ne. ap (λ row. sum_at row v) same ∙ get_or-set_other next f.x v sum (pos 0) (λ e. ne (sym e)) in
      record {
        falls = λ v. ⊎_elim
            (λ e. subst (λ u. sum_at after u ≤ℤ sum_at next u) e (omega (arith, ints, here)))
            (λ ne. let e = there v ne in omega (arith, ints)) (cases_eq f.x v);
        least = λ h. omega (arith, ints, here);
        reached = λ v. ⊎_elim
            (λ e. inr (e, through, subst (λ u. sum_at after u ≡ sum) e here))
            (λ ne. inl (there v ne)) (cases_eq f.x v);
      }

  step_of : (b : Bool) → Lowers f sums next after b → Step f sums next after
  step_of true l = lowered_step l.0 l.1 l.2
  step_of false l = kept_step l.1 l.0

-- the facts so far, and one more
module _ (facts : List Fact) (i : ℕ) (f : Fact) (within : i < length facts) (is : f ≡ get_or facts i f) where
  more : take (i + 1) facts ≡ take i facts ++ f ∷ []
  more = take_more facts i f within ∙ ap (λ g. take i facts ++ g ∷ []) (sym is)

  old_or_new : (g : Fact) → Contains (take (i + 1) facts) g → Contains (take i facts) g ⊎ (f ≡ g)
  old_or_new g h = Contains-push_cases (take i facts) f g (subst (λ fs. Contains fs g) more h)

  grown : (g : Fact) → Contains (take i facts) g → Contains (take (i + 1) facts) g
  grown g h = subst (λ fs. Contains fs g) (sym more) (Contains-append_left (take i facts) (f ∷ []) g h)

  new : Contains (take (i + 1) facts) f
  new = subst (λ fs. Contains fs f) (sym more) (Contains-push (take i facts) f)

-- before the first fact nothing is lowered
pub round_none : (row : List ℤ) → IsRound [] row row
round_none row = record {
  falls = λ v. omega (arith, ints);
  least = λ f h. absurd (omega (arith, h.1));
  reached = λ v. inl refl;
}

next_round : (facts : List Fact) (i : ℕ) (f : Fact) (within : i < length facts) (is : f ≡ get_or facts i f) (sums next after : List ℤ) →
    IsRound (take i facts) sums next → Step f sums next after → IsRound (take (i + 1) facts) sums after
next_round facts i f within is sums next after so_far step = record {
  falls = λ v. let one = step.falls v in let two = so_far.falls v in omega (arith, ints);
  least = λ g h through. ⊎_elim
      (λ old. let one = step.falls g.x in let two = so_far.least g old through in omega (arith, ints))
      (λ e. subst (λ f'. sum_at sums f'.y <ℤ none → sum_at after f'.x ≤ℤ (f'.c +ℤ sum_at sums f'.y)) e step.least through)
      (old_or_new facts i f within is g h);
  reached = λ v. ⊎_elim
      (λ e. ⊎_elim (λ old. inl (e ∙ old)) (λ (g, h, x, through, sum). inr (g, grown facts i f within is g h, x, through, e ∙ sum)) (so_far.reached v))
      (λ (x, through, sum). inr (f, new facts i f within is, x, through, sum))
      (step.reached v);
}

-- one more fact
pub round_more : (facts : List Fact) (i : ℕ) (f : Fact) (b : Bool) (sums next after : List ℤ) → i < length facts → f ≡ get_or facts i f →
    f.x < length next → IsRound (take i facts) sums next → Lowers f sums next after b → IsRound (take (i + 1) facts) sums after
round_more facts i f b sums next after within is left so_far lowers =
    next_round facts i f within is sums next after so_far (step_of f sums next after left b lowers)

-- if no fact has lowered a sum, the row is as it was
pub same_more : (f : Fact) (was b : Bool) (sums next after : List ℤ) → OnFalse was (next ≡ sums) → Lowers f sums next after b →
    OnFalse (was || b) (after ≡ sums)
same_more f true b sums next after same lowers = tt
same_more f false true sums next after same lowers = tt
same_more f false false sums next after same lowers = lowers.1 ∙ same

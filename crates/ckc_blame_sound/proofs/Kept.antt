-- What holds at a point holds at one that control goes to from there.
use Rattle.std.proofs.Common.{◌≡◌, ⊎_elim, refl, sym, subst, ◌∙◌, ℕ, suc, Bool, true, false, List, [], ◌∷◌, arith}
use Rattle.std.specs.Prelude.{◌==◌, Option, None, Some}
use Rattle.std.specs.List.{Contains, list_any}
use Rattle.std.proofs.lemmas.Bool.Decides.{nat_tests}
use Rattle.std.proofs.lemmas.List.Folds.{list_any_at}
use Rattle.ckc_bounds.specs.ckc_bounds_points.specs.declared.frame.Local.{Local}
use Rattle.ckc_bounds.specs.ckc_bounds_points.specs.Frames.{local_at}
use Rattle.ckc_bounds.specs.ckc_bounds_ranges.specs.Rows.{range_by}
use Rattle.ckc_bounds.specs.ckc_bounds_statements.specs.Paths.{Here}
use Rattle.ckc_source.specs.Eval.{Store}
use Rattle.ckc_blame_sound.specs.Settings.{Setting}
use Rattle.ckc_blame_sound.proofs.Facts.{same, one_of}
use Rattle.ckc_blame_sound.specs.Points.{IsReadable, IsBounded, AreBounded, HoldsAt, IsKnown, GoesTo}

itself : (a b : ℕ) → a ≡ b → (a == b) ≡ true
itself a b e = grind (arith, nat_tests)

-- the test for an element tells that it is there
pub among : (k : ℕ) (ps : List ℕ) → list_any (λ p. p == k) ps ≡ true → Contains ps k
among k [] e = absurd (cc)
among k (p ∷ ps) e = ⊎_elim
    (λ h. (0, omega arith, same p k h))
    (λ h. let c = among k ps h in (suc c.0, omega (arith, c.1), c.2))
    (one_of (p == k) (list_any (λ p. p == k) ps) e)

found : (k : ℕ) (ps : List ℕ) → Contains ps k → list_any (λ p. p == k) ps ≡ true
found k ps c = list_any_at (λ p. p == k) ps c.0 k c.1 (itself _ k c.2)

module _ (s : Setting) (store : Store) (k : ℕ) where
  abbrev Reads : Option Local → Bool → Type 0
  Reads (Some l) b = IsReadable s store k l.ctype (range_by (local_at s.frame k) b)
  Reads None b = Unit {0}

  -- whether a local is widened is all that counts
  bounded_as : (o : Option Local) (ps qs : List ℕ) → list_any (λ p. p == k) qs ≡ list_any (λ p. p == k) ps → IsBounded s store ps k o → IsBounded s store qs k o
  bounded_as None ps qs e h = tt
  bounded_as (Some l) ps qs e h = subst (λ b. Reads (Some l) b) (sym e) h

goes_wide : (s : Setting) (store : Store) (here there : Here) → ((k : ℕ) → Contains there.at.widened k → Contains here.at.widened k) → ((k : ℕ) → Contains there.seen k → Contains here.seen k)
    → AreBounded s store [] here.seen → AreBounded s store here.at.widened here.seen → AreBounded s store there.at.widened there.seen
goes_wide s store here there wide seen bounded widened k c = by (list_any (λ p. p == k) there.at.widened) refl
  where
    by : (b : Bool) → list_any (λ p. p == k) there.at.widened ≡ b → IsBounded s store there.at.widened k (local_at s.frame k)
    by true e =
        let is : list_any (λ p. p == k) here.at.widened ≡ true = found k here.at.widened (wide k (among k there.at.widened e)) in
        bounded_as s store k (local_at s.frame k) here.at.widened there.at.widened (e ∙ sym is) (widened k (seen k c))
    by false e = bounded_as s store k (local_at s.frame k) [] there.at.widened e (bounded k (seen k c))

pub point_kept : (s : Setting) (store : Store) (entry : List ℕ) (here there : Here) → GoesTo s.frame here there → HoldsAt s store entry here → HoldsAt s store entry there
point_kept s store entry here there goes h =
    let known : IsKnown s.frame here.at there.at = goes.known h.reached in
    record {
      reached = known.reached;
      counted = h.counted;
      words = h.words;
      facts = known.facts store.locals h.words h.facts;
      bounded = λ k c. h.bounded k (goes.seen k c);
      widened = goes_wide s store here there known.widened goes.seen h.bounded h.widened;
      entered = h.entered;
      kept = h.kept;
    }

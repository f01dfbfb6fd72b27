-- Assignments to locals that are judged as one keep what holds of the pointers in scope.
use Rattle.std.proofs.Common.{◌≡◌, ℕ, ◌==◌, refl, sym, ◌∙◌, ap, subst, List, []}
use Rattle.std.specs.Prelude.{Bool, true, false, slice_index, Option, None, Some}
use Rattle.std.specs.List.{All, Contains, find, list_any}
use Rattle.std.proofs.lemmas.Bool.{eq-eqb}
use Rattle.ckc_linear.specs.declared.forms.Form.{Form}
use Rattle.ckc_bounds.specs.ckc_bounds_points.specs.declared.frame.Bounds.{Bounds}
use Rattle.ckc_bounds.specs.ckc_bounds_points.specs.declared.frame.Bounds.TheVariants as bounds
use Rattle.ckc_bounds.specs.ckc_bounds_points.specs.declared.frame.Local.{Local}
use Rattle.ckc_bounds.specs.ckc_bounds_points.specs.Frames.{local_at}
use Rattle.ckc_bounds.specs.ckc_bounds_points.specs.Flow.{State, in_bounds, in_bounds_of, widening_names}
use Rattle.ckc_bounds.specs.ckc_bounds_ranges.specs.Rows.{range_by, range_of_bounds}
use Rattle.ckc_bounds.specs.ckc_bounds_stores.specs.Stores.{Placed, assigns_local, fault_by_bounds, fault_of_local}
use Rattle.ckc_source.specs.Eval.{Store}
use Rattle.ckc_build_values.specs.Kinds.{size_behind}
use Rattle.ckc_blame_sound.specs.Settings.{Setting}
use Rattle.ckc_blame_sound.specs.Points.{IsReadable, IsBounded, AreBounded}
use Rattle.ckc_blame_sound.specs.Sound.{IsPlaced}
use Rattle.ckc_blame_sound.specs.Valuations.{Valuation, AreFacts, IsValuationOf}
use Rattle.ckc_blame_sound.specs.Ends.{AreEnds, HaveEnds}
use Rattle.ckc_blame_sound.specs.GivenValues.{IsAssigned, AreAssigned, StayTrue}
use Rattle.ckc_blame_sound.proofs.Tests.{left_of, right_of}
use Rattle.ckc_blame_sound.proofs.Ends.{valuation_of, values_are}
use Rattle.ckc_blame_sound.proofs.Faults.{Good, wide_before}
use Rattle.ckc_blame_sound.proofs.KeptBounds.{local_kept, bounds_named}
use Rattle.ckc_blame_sound.proofs.Assigned.{not_assigned, by_find}

module _ (s : Setting) (old now : Store) (v : Valuation) (seen : List ℕ) (at there : State) (ps : List Placed) (result : Bounds) (reached : at.reached ≡ true)
    (ends : HaveEnds s) (are : IsValuationOf s old.locals v) (known : AreFacts v at.facts) (placed : All (IsPlaced s.text) now.blocks) (stay : StayTrue old now)
    (assigned : AreAssigned s old now v at ps) (bounded : AreBounded s old [] seen) (widened : AreBounded s old at.widened seen)
    (stored : Good s.frame result seen ps at there) where
  abbrev will : IsValuationOf s now.locals (valuation_of s now.locals)
  will = values_are s now.locals

  -- one local with known bounds
  known_after : (k : ℕ) (l : Local) → local_at s.frame k ≡ Some l → (low high : Form) → l.bounds ≡ bounds.Known low high → Contains seen k
      → IsReadable s now k l.ctype (range_by (Some l) false)
  known_after k l is low high b c =
      subst (λ r. IsReadable s now k l.ctype (range_of_bounds r)) (sym b)
      (by_find s old now v (valuation_of s now.locals) at ps are will assigned placed stay known k l is low high
      (subst (AreEnds s (size_behind s.text.layout l.ctype)) b (ends k l is).ends) b
      (subst (IsBounded s old at.widened k) is (widened k c)) (subst (IsBounded s old [] k) is (bounded k c))
      (find (assigns_local k) ps) (subst (λ o. IsAssigned s now v at (find (assigns_local k) ps) o (slice_index old.locals k) (slice_index now.locals k)) is (assigned k))
      (sym (ap (fault_of_local s.frame ps at k) is ∙ ap (fault_by_bounds s.frame ps at k) b) ∙ stored.locals k c))

  local_after : (k : ℕ) (l : Local) → local_at s.frame k ≡ Some l → (b : Bounds) → l.bounds ≡ b → Contains seen k → IsReadable s now k l.ctype (range_by (Some l) false)
  local_after k l is bounds.Unknown b c = subst (λ r. IsReadable s now k l.ctype (range_of_bounds r)) (sym b) tt
  local_after k l is (bounds.Known low high) b c = known_after k l is low high b c

  pub bounded_after : AreBounded s now [] seen
  bounded_after k c = by (local_at s.frame k) refl
    where
      by : (o : Option Local) → local_at s.frame k ≡ o → IsBounded s now [] k o
      by None is = tt
      by (Some l) is = subst (λ o. IsReadable s now k l.ctype (range_by o false)) (sym is) (local_after k l is l.bounds refl c)

  -- a local that is widened still
  wide_after : (k : ℕ) (l : Local) → local_at s.frame k ≡ Some l → Contains seen k → list_any (λ p. p == k) there.widened ≡ true
      → IsReadable s now k l.ctype (range_by (Some l) true)
  wide_after k l is c wide =
      local_kept old now stay s v (valuation_of s now.locals) are will k l.ctype l true (ends k l is).ends (kept k l is (left_of (k == k) (in_bounds_of k (local_at s.frame k)) (eq-eqb k k refl)))
      (λ j named. kept_named j named)
      (subst (λ b. IsReadable s old k l.ctype (range_by (Some l) b)) before.0
      (subst (λ o. IsReadable s old k l.ctype (range_by o (list_any (λ p. p == k) at.widened))) is
      (subst (IsBounded s old at.widened k) is (widened k c))))
    where
      before : (list_any (λ p. p == k) at.widened ≡ true)
          × ((j : ℕ) (l : Local) → local_at s.frame j ≡ Some l → widening_names s.frame j k ≡ true → find (assigns_local j) ps ≡ None)
      before = wide_before s.frame at.facts k ps at reached (ap (λ (t : State). list_any (λ p. p == k) t.widened) (sym stored.next) ∙ wide)

      kept : (j : ℕ) (m : Local) → local_at s.frame j ≡ Some m → widening_names s.frame j k ≡ true → slice_index now.locals j ≡ slice_index old.locals j
      kept j m there names = not_assigned s old now v at j (find (assigns_local j) ps) (before.1 j m there names) (local_at s.frame j) (assigned j)

      kept_named : (j : ℕ) → in_bounds j l.bounds ≡ true → slice_index now.locals j ≡ slice_index old.locals j
      kept_named j named =
          let m = bounds_named s (size_behind s.text.layout l.ctype) l.bounds (ends k l is).ends j named in
          kept j m.0 m.1 (right_of (k == j) (in_bounds_of j (local_at s.frame k)) (ap (in_bounds_of j) is ∙ named))

  pub widened_after : AreBounded s now there.widened seen
  widened_after k c = by (local_at s.frame k) refl
    where
      at_wide : (l : Local) → local_at s.frame k ≡ Some l → (b : Bool) → list_any (λ p. p == k) there.widened ≡ b → IsReadable s now k l.ctype (range_by (Some l) b)
      at_wide l is true e = wide_after k l is c e
      at_wide l is false e = local_after k l is l.bounds refl c

      by : (o : Option Local) → local_at s.frame k ≡ o → IsBounded s now there.widened k o
      by None is = tt
      by (Some l) is = subst (λ o. IsReadable s now k l.ctype (range_by o (list_any (λ p. p == k) there.widened))) (sym is) (at_wide l is (list_any (λ p. p == k) there.widened) refl)

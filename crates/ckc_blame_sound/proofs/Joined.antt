-- What is known where branches join, and at the head of a loop, is known before.
use Rattle.std.proofs.Common.{◌≡◌, refl, sym, subst, ℕ, Bool, true, false, List, [], ◌∷◌}
use Rattle.std.specs.Prelude.{◌==◌, if◌then◌else◌, Option, None, Some}
use Rattle.std.specs.List.{Contains, filter, list_any}
use Rattle.std.proofs.lemmas.List.Elements.{All-filter, All-contains, All-contains_itself, filter_passes}
use Rattle.ckc_bounds.specs.ckc_bounds_points.specs.declared.frame.Local.{Local}
use Rattle.ckc_bounds.specs.ckc_bounds_points.specs.declared.frame.Frame.{Frame}
use Rattle.ckc_bounds.specs.ckc_bounds_points.specs.Frames.{local_at}
use Rattle.ckc_bounds.specs.ckc_bounds_points.specs.Flow.{State, in_both, wide_in_both, joined, local_assigned, assigned, less}
use Rattle.ckc_blame_sound.specs.Values.{value}
use Rattle.ckc_blame_sound.specs.Points.{IsKnown}
use Rattle.ckc_blame_sound.proofs.Flow.{first_holds, second_holds, without_local}
use Rattle.ckc_blame_sound.proofs.Kept.{among}

pub left_over : (test : ℕ → Bool) (ps : List ℕ) (k : ℕ) → Contains (filter test ps) k → Contains ps k
left_over test ps k c = All-contains (Contains ps) (filter test ps) k (All-filter test (Contains ps) ps (All-contains_itself ps)) c

passes : (test : ℕ → Bool) (ps : List ℕ) (k : ℕ) → Contains (filter test ps) k → test k ≡ true
passes test ps k c = All-contains (λ p. test p ≡ true) (filter test ps) k (filter_passes test ps) c

module _ (frame : Frame) (at other : State) where
  abbrev chosen : Bool → Bool → State
  chosen a b =
      if a
      then (if b then record at { facts = record at.facts { list = in_both at.facts.list other.facts.list }; widened = wide_in_both at.widened other.widened } else at)
      else other

  first_by : at.reached ≡ true → (b : Bool) → IsKnown frame at (chosen true b)
  first_by reached true = record {
    reached = reached;
    facts = λ locals words h. first_holds (value frame locals) at.facts.list other.facts.list h;
    widened = λ k c. left_over (λ p. list_any (λ q. q == p) other.widened) at.widened k c;
  }
  first_by reached false = record { reached = reached; facts = λ locals words h. h; widened = λ k c. c }

  pub first_known : at.reached ≡ true → IsKnown frame at (joined at other)
  first_known reached = subst (λ a. IsKnown frame at (chosen a other.reached)) (sym reached) (first_by reached other.reached)

  second_by : other.reached ≡ true → (a : Bool) → at.reached ≡ a → IsKnown frame other (chosen a true)
  second_by reached true e = record {
    reached = e;
    facts = λ locals words h. second_holds (value frame locals) at.facts.list other.facts.list h;
    widened = λ k c. among k other.widened (passes (λ p. list_any (λ q. q == p) other.widened) at.widened k c);
  }
  second_by reached false e = record { reached = reached; facts = λ locals words h. h; widened = λ k c. c }

  pub second_known : other.reached ≡ true → IsKnown frame other (joined at other)
  second_known reached = subst (λ b. IsKnown frame other (chosen at.reached b)) (sym reached) (second_by reached at.reached refl)

module _ (frame : Frame) where
  known_of : (k : ℕ) (at : State) → at.reached ≡ true → (o : Option Local) → local_at frame k ≡ o → IsKnown frame at (local_assigned frame k o None at)
  known_of k at reached None there = record { reached = reached; facts = λ locals words h. h; widened = λ p c. c }
  known_of k at reached (Some l) there = record {
    reached = reached;
    facts = λ locals words h. without_local frame locals words k at (Some l) there h;
    widened = λ p c. left_over _ at.widened p c;
  }

  known_one : (k : ℕ) (at : State) → at.reached ≡ true → IsKnown frame at (assigned frame k None at)
  known_one k at reached =
      subst (λ (b : Bool). IsKnown frame at (if b then local_assigned frame k (local_at frame k) None at else at)) (sym reached) (known_of k at reached (local_at frame k) refl)

  known_through : (a b c : State) → IsKnown frame a b → IsKnown frame b c → IsKnown frame a c
  known_through a b c h g = record {
    reached = g.reached;
    facts = λ locals words t. g.facts locals words (h.facts locals words t);
    widened = λ k d. h.widened k (g.widened k d);
  }

  pub less_known : (ks : List ℕ) (at : State) → at.reached ≡ true → IsKnown frame at (less frame ks at)
  less_known [] at reached = record { reached = reached; facts = λ locals words h. h; widened = λ k c. c }
  less_known (k ∷ ks) at reached =
      let one : IsKnown frame at (assigned frame k None at) = known_one k at reached in
      known_through at (assigned frame k None at) (less frame ks (assigned frame k None at)) one (less_known ks (assigned frame k None at) one.reached)

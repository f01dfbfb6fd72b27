-- The runs of a known text up to the first step that stores through an unchecked pointer.
use Rattle.std.proofs.Common.{◌≡◌, ◌⊎◌, ◌∙◌, inl, inr, refl, ap, subst, ℕ, zero, suc, List, [], ◌++◌}
use Rattle.std.specs.Prelude.{◌≢◌, Bool, true, false, if◌then◌else◌, Option, None, Some, IsSome}
use Rattle.ckc_base.specs.declared.arithmetic.Mode.{Mode}
use Rattle.ckc_base.specs.declared.arithmetic.Mode.TheVariants.{Checked, Unchecked}
use Rattle.ckc_base.specs.declared.places.Pos.{Pos}
use Rattle.ckc_base.specs.Lists.{AreBytes}
use Rattle.ckc_base.specs.States.{moved_on, state_after, state_at}
use Rattle.ckc_base.specs.Steps.{Move, Goes, Halts, after, shown}
use Rattle.ckc_base.specs.Traces.{Event, Standing, Going, Stuck}
use Rattle.ckc_typed.specs.declared.typed.Typed.{Typed}
use Rattle.ckc_source.specs.Code.{Program}
use Rattle.ckc_source.specs.Source.{source_system, first_state, source, on_next}
use Rattle.ckc_source.specs.States.{State}
use Rattle.ckc_source.specs.Steps.{source_step, spot_of}
use Rattle.ckc_build_elaborate.specs.Elaborated.{elaborated}
use Rattle.ckc_blame_sound.specs.Sound.{Sound}
use Rattle.ckc_blame_steps.specs.Known.{IsKnown, Begins}
use Rattle.ckc_blame_steps.specs.Unchecked.{stores_unchecked, by_store, first_unchecked_store, unchecked_store_since, mode_after, MovesSoundly}
use Rattle.ckc_blame_steps.proofs.AllSteps.{step_keeps}
use Rattle.ckc_blame_steps.proofs.Promised.{first_sound}

not_going : Going ≢ Stuck
not_going e = cc

module _ (p : Typed) (k : IsKnown p) where
  abbrev q : Program
  q = elaborated p

  abbrev later : ℕ → State → Option Pos
  later n s = first_unchecked_store q n s

  abbrev reached : ℕ → State → State
  reached n s = state_after (source_system q) n 0 s

  abbrev standing : ℕ → List Event → State → Standing
  standing n trace s = (shown (source_system q) n 0 trace s).standing

  -- a step that goes on leads to a sound state, if it stores through no unchecked pointer
  goes_sound : (s t : State) (events : List Event) → Sound p s → stores_unchecked s ≡ false → source_step q s ≡ Goes events t → Sound p t
  goes_sound s t events h safe is = subst (MovesSoundly (spot_of s).mode p) is (step_keeps p k s h (spot_of s).mode refl (λ unchecked. safe))

  -- a step that is stuck has mode Unchecked
  stuck_unchecked : (s : State) (events : List Event) → Sound p s → source_step q s ≡ Halts events Stuck → (spot_of s).mode ≡ Unchecked
  stuck_unchecked s events h is = by (spot_of s).mode refl
    where
      by : (m : Mode) → (spot_of s).mode ≡ m → (spot_of s).mode ≡ Unchecked
      by Unchecked mode = mode
      by Checked mode = absurd (subst (MovesSoundly Checked p) is (step_keeps p k s h Checked mode (λ same. absurd cc)) refl)

  -- a step before stored through an unchecked pointer, or the last one has mode Unchecked
  abbrev IsBlamedStore : Option Pos → State → Type 0
  IsBlamedStore stored last = IsSome stored ⊎ ((spot_of last).mode ≡ Unchecked)

  on_move : (n : ℕ) (trace : List Event) (s : State) → Sound p s → (x : Move Event State) → source_step q s ≡ x
      → ((t : State) (events : List Event) → Sound p t → standing n events t ≡ Stuck → IsBlamedStore (later n t) (reached n t))
      → (after (λ events next. shown (source_system q) n 0 events next) trace x).standing ≡ Stuck
      → IsBlamedStore (on_next (λ next. by_store s (later n next)) x) (moved_on (λ next. reached n next) s x)
  on_move n trace s h (Goes events t) is rest e = by (stores_unchecked s) refl
    where
      by : (b : Bool) → stores_unchecked s ≡ b → IsBlamedStore (if b then Some (spot_of s).at else later n t) (reached n t)
      by true raw = inl refl
      by false safe = rest t (trace ++ events) (goes_sound s t events h safe is) e
  on_move n trace s h (Halts events stands) is rest e = inr (stuck_unchecked s events h (is ∙ ap (Halts events) e))

  pub stores_blamed : (n : ℕ) (trace : List Event) (s : State) → Sound p s → standing n trace s ≡ Stuck → IsBlamedStore (later n s) (reached n s)
  unfolding shown state_after first_unchecked_store
  stores_blamed zero trace s h e = absurd (not_going e)
  stores_blamed (suc n) trace s h e = on_move n trace s h (source_step q s) refl (λ t events sound stuck. stores_blamed n events t sound stuck) e

  -- a state is sound if no step before stored through an unchecked pointer
  on_sound : (n : ℕ) (s : State) → Sound p s → (x : Move Event State) → source_step q s ≡ x → ((t : State) → Sound p t → later n t ≡ None → Sound p (reached n t))
      → on_next (λ next. by_store s (later n next)) x ≡ None → Sound p (moved_on (λ next. reached n next) s x)
  on_sound n s h (Goes events t) is rest none = by (stores_unchecked s) refl none
    where
      by : (b : Bool) → stores_unchecked s ≡ b → (if b then Some (spot_of s).at else later n t) ≡ None → Sound p (reached n t)
      by true raw none = absurd cc
      by false safe none = rest t (goes_sound s t events h safe is) none
  on_sound n s h (Halts events stands) is rest none = h

  pub states_sound : (n : ℕ) (s : State) → Sound p s → later n s ≡ None → Sound p (reached n s)
  unfolding state_after first_unchecked_store
  states_sound zero s h none = h
  states_sound (suc n) s h none = on_sound n s h (source_step q s) refl (λ t sound safe. states_sound n t sound safe) none

module _ (p : Typed) (input : List ℕ) (n : ℕ) (k : IsKnown p) (b : Begins p k) (bytes : AreBytes input) where
  first : Sound p (first_state (elaborated p) input)
  first = first_sound p input k b bytes

  pub run_blamed : (source (elaborated p) input n).standing ≡ Stuck → IsSome (unchecked_store_since (elaborated p) input n) ⊎ (mode_after (elaborated p) input n ≡ Unchecked)
  run_blamed e = stores_blamed p k n [] (first_state (elaborated p) input) first e

  pub run_sound : unchecked_store_since (elaborated p) input n ≡ None → Sound p (state_at (source_system (elaborated p)) (first_state (elaborated p) input) n)
  run_sound none = states_sound p k n (first_state (elaborated p) input) first none

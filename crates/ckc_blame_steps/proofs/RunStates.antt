-- Each state of a run of a known text that is wholly checked is sound, and its step has mode Checked.
use Rattle.std.proofs.Common.{◌≡◌, refl, ℕ, zero, suc, List}
use Rattle.std.specs.Prelude.{Option, None}
use Rattle.ckc_base.specs.declared.arithmetic.Mode.{Mode}
use Rattle.ckc_base.specs.declared.arithmetic.Mode.TheVariants.{Checked, Unchecked}
use Rattle.ckc_base.specs.declared.places.Pos.{Pos}
use Rattle.ckc_base.specs.Lists.{AreBytes}
use Rattle.ckc_base.specs.States.{moved_on, state_after, state_at}
use Rattle.ckc_base.specs.Steps.{Move, Goes, Halts}
use Rattle.ckc_base.specs.Traces.{Event}
use Rattle.ckc_typed.specs.declared.typed.Typed.{Typed}
use Rattle.ckc_source.specs.declared.stmt.Spot.{Spot}
use Rattle.ckc_source.specs.Source.{source_system, first_state, by_mode, on_next, first_unchecked}
use Rattle.ckc_source.specs.States.{State}
use Rattle.ckc_source.specs.Steps.{source_step, spot_of}
use Rattle.ckc_build_elaborate.specs.Elaborated.{elaborated}
use Rattle.ckc_blame.specs.Checked.{WhollyChecked}
use Rattle.ckc_blame_sound.specs.Sound.{Sound}
use Rattle.ckc_blame_sound.specs.Moves.{IsSoundMove}
use Rattle.ckc_blame_sound.proofs.Texts.{runs_checked}
use Rattle.ckc_blame_walk.proofs.Mains.{main_bare}
use Rattle.ckc_blame_steps.specs.Known.{IsKnown, Begins}
use Rattle.ckc_blame_steps.specs.Stores.{PlansLie}
use Rattle.ckc_blame_steps.proofs.KnownStores.{stores_lie}
use Rattle.ckc_blame_steps.proofs.Promised.{stays_sound, first_sound}

-- no unchecked step is found, so the first is checked and none is found later
checked_first : (spot : Spot) (later : Option Pos) (mode : Mode) → by_mode spot later mode ≡ None → mode ≡ Checked
checked_first spot later Checked e = refl
checked_first spot later Unchecked e = absurd cc

none_later : (spot : Spot) (later : Option Pos) (mode : Mode) → by_mode spot later mode ≡ None → later ≡ None
none_later spot later Checked e = e
none_later spot later Unchecked e = absurd cc

abbrev IsGood : Typed → State → Type 0
IsGood p s = Sound p s × ((spot_of s).mode ≡ Checked)

module _ (p : Typed) (k : IsKnown p) where
  -- what a step leads to, if this is so of each sound state from which no unchecked step is found
  on_good : (n : ℕ) (s : State) → IsGood p s → (m : Move Event State) → IsSoundMove p m → ((i : ℕ) → on_next (first_unchecked (elaborated p) i) m ≡ None)
      → ((t : State) → Sound p t → ((i : ℕ) → first_unchecked (elaborated p) i t ≡ None) → IsGood p (state_after (source_system (elaborated p)) n 0 t))
      → IsGood p (moved_on (λ next. state_after (source_system (elaborated p)) n 0 next) s m)
  on_good n s good (Goes events t) sound later rest = rest t sound later
  on_good n s good (Halts events standing) sound later rest = good

  run_good : (n : ℕ) (s : State) → Sound p s → ((i : ℕ) → first_unchecked (elaborated p) i s ≡ None) → IsGood p (state_after (source_system (elaborated p)) n 0 s)
  unfolding state_after first_unchecked
  run_good zero s h none = (h, checked_first (spot_of s) (on_next (first_unchecked (elaborated p) 0) (source_step (elaborated p) s)) (spot_of s).mode (none 1))
  run_good (suc n) s h none =
      let checked : (spot_of s).mode ≡ Checked = checked_first (spot_of s) (on_next (first_unchecked (elaborated p) 0) (source_step (elaborated p) s)) (spot_of s).mode (none 1) in
      on_good n s (h, checked) (source_step (elaborated p) s) (stays_sound p k s h checked)
      (λ i. none_later (spot_of s) (on_next (first_unchecked (elaborated p) i) (source_step (elaborated p) s)) (spot_of s).mode (none (suc i)))
      (λ t sound later. run_good n t sound later)

  module _ (input : List ℕ) (n : ℕ) (b : Begins p k) (bytes : AreBytes input) (w : WhollyChecked p) where
    abbrev there : State
    there = state_at (source_system (elaborated p)) (first_state (elaborated p) input) n

    pub state_good : Sound p there × ((spot_of there).mode ≡ Checked)
    state_good =
        run_good n (first_state (elaborated p) input) (first_sound p input k b bytes) (λ m. runs_checked p input m (main_bare p k.granted.judged).defined w)

pub plans_lie : (p : Typed) (k : IsKnown p) → Begins p k → WhollyChecked p → PlansLie (elaborated p)
plans_lie p k b w input n bytes ws e =
    let good = state_good p k input n b bytes w in
    stores_lie p k (state_at (source_system (elaborated p)) (first_state (elaborated p) input) n) good.0 good.1 ws e

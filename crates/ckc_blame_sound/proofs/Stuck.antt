-- Where a run is stuck, unchecked code ran.
use Rattle.std.proofs.Common.{◌≡◌, ◌≢◌, ℕ, zero, suc, List, ◌++◌, refl, sym, subst}
use Rattle.std.specs.Prelude.{Option, Some, None, IsSome}
use Rattle.ckc_base.specs.declared.arithmetic.Mode.{Mode}
use Rattle.ckc_base.specs.declared.arithmetic.Mode.TheVariants.{Checked, Unchecked}
use Rattle.ckc_base.specs.declared.places.Pos.{Pos}
use Rattle.ckc_base.specs.Steps.{Move, Goes, Halts, System, after, shown}
use Rattle.ckc_base.specs.Traces.{Event, Standing, Going, Stuck}
use Rattle.ckc_typed.specs.declared.typed.Typed.{Typed}
use Rattle.ckc_source.specs.declared.stmt.Spot.{Spot}
use Rattle.ckc_source.specs.Code.{Program}
use Rattle.ckc_source.specs.Source.{source_system, first_unchecked, by_mode, on_next}
use Rattle.ckc_source.specs.States.{State}
use Rattle.ckc_source.specs.Steps.{source_step, spot_of}
use Rattle.ckc_build_elaborate.specs.Elaborated.{elaborated}
use Rattle.ckc_blame_sound.specs.Sound.{Sound}
use Rattle.ckc_blame_sound.specs.Moves.{IsSoundMove, StaysSound}

not_going : Going ≢ Stuck
not_going e = cc

by_step : (spot : Spot) (later : Option Pos) (mode : Mode) → (mode ≡ Checked → IsSome later) → IsSome (by_mode spot later mode)
by_step spot later Checked h = h refl
by_step spot later Unchecked h = refl

module _ (p : Typed) (stays : StaysSound p) where
  abbrev q : Program
  q = elaborated p

  abbrev showing : ℕ → List Event → State → Standing
  showing n trace s = (shown (source_system q) n 0 trace s).standing

  moved : (n : ℕ) (trace : List Event) (m : Move Event State) → IsSoundMove p m
      → ((events : List Event) (t : State) → Sound p t → showing n events t ≡ Stuck → IsSome (first_unchecked q n t))
      → (after (λ events next. shown (source_system q) n 0 events next) trace m).standing ≡ Stuck → IsSome (on_next (first_unchecked q n) m)
  moved n trace (Goes events t) sound go e = go (trace ++ events) t sound e
  moved n trace (Halts events standing) sound go e = absurd (sound e)

  pub stuck_later : (n : ℕ) (trace : List Event) (s : State) → Sound p s → showing n trace s ≡ Stuck → IsSome (first_unchecked q n s)
  unfolding shown first_unchecked
  stuck_later zero trace s sound e = absurd (not_going e)
  stuck_later (suc n) trace s sound e =
      by_step (spot_of s) (on_next (first_unchecked q n) (source_step q s)) (spot_of s).mode
      (λ checked. moved n trace (source_step q s) (stays s sound checked) (λ events t h d. stuck_later n events t h d) e)

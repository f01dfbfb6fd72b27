-- What is asked of the steps of a text, so that nothing but unchecked code is to blame where its runs are stuck.
use Rattle.std.specs.Prelude.{◌≡◌, ◌≢◌}
use Rattle.ckc_base.specs.declared.arithmetic.Mode.TheVariants.{Checked}
use Rattle.ckc_base.specs.Steps.{Move, Goes, Halts}
use Rattle.ckc_base.specs.Traces.{Event, Stuck}
use Rattle.ckc_typed.specs.declared.typed.Typed.{Typed}
use Rattle.ckc_source.specs.States.{State}
use Rattle.ckc_source.specs.Steps.{source_step, spot_of}
use Rattle.ckc_build_elaborate.specs.Elaborated.{elaborated}
use Rattle.ckc_blame_sound.specs.Sound.{Sound}

-- A step goes on to a sound state, or the run ends or stops.
abbrev pub IsSoundMove : Typed → Move Event State → Type 0
IsSoundMove p (Goes events s) = Sound p s
IsSoundMove p (Halts events standing) = standing ≢ Stuck

-- Each step from a sound state that has mode Checked does so.
abbrev pub StaysSound : Typed → Type 0
StaysSound p = (s : State) → Sound p s → (spot_of s).mode ≡ Checked → IsSoundMove p (source_step (elaborated p) s)

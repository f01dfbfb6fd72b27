-- What is promised of a known text.
use Rattle.std.proofs.Common.{◌≡◌, ℕ, List, []}
use Rattle.std.specs.Prelude.{◌≢◌, Option, None, Some, IsSome}
use Rattle.ckc_base.specs.declared.arithmetic.Mode.TheVariants.{Checked}
use Rattle.ckc_base.specs.Lists.{AreBytes}
use Rattle.ckc_base.specs.Steps.{Move, Goes, Halts}
use Rattle.ckc_base.specs.Traces.{Event, Stuck}
use Rattle.ckc_typed.specs.declared.typed.Typed.{Typed}
use Rattle.ckc_source.specs.Source.{first_state, source, unchecked_since}
use Rattle.ckc_source.specs.States.{State}
use Rattle.ckc_source.specs.Steps.{source_step, spot_of}
use Rattle.ckc_build_elaborate.specs.Elaborated.{elaborated}
use Rattle.ckc_blame.specs.Checked.{WhollyChecked}
use Rattle.ckc_blame_sound.specs.Sound.{Sound}
use Rattle.ckc_blame_sound.specs.Moves.{IsSoundMove, StaysSound}
use Rattle.ckc_blame_sound.proofs.Stuck.{stuck_later}
use Rattle.ckc_blame_sound.proofs.Texts.{runs_checked}
use Rattle.ckc_blame_control.proofs.Whole.{steps_sound}
use Rattle.ckc_blame_walk.proofs.Judged.{judged_sound}
use Rattle.ckc_blame_walk.proofs.Mains.{main_bare}
use Rattle.ckc_blame_steps.specs.Known.{IsKnown, Begins}
use Rattle.ckc_blame_steps.proofs.KeptSound.{known_keeps}

pub stays_sound : (p : Typed) → IsKnown p → StaysSound p
stays_sound p k = steps_sound p (known_keeps p k)

not_stuck : (p : Typed) (m : Move Event State) → IsSoundMove p m → (events : List Event) → m ≢ Halts events Stuck
not_stuck p (Goes before s) sound events is = absurd (cc)
not_stuck p (Halts before standing) sound events is = sound (cc)

pub never_stuck : (p : Typed) → IsKnown p → (s : State) → Sound p s → (spot_of s).mode ≡ Checked → (events : List Event) → source_step (elaborated p) s ≢ Halts events Stuck
never_stuck p k s h mode = not_stuck p (source_step (elaborated p) s) (stays_sound p k s h mode)

pub first_sound : (p : Typed) (input : List ℕ) (k : IsKnown p) → Begins p k → AreBytes input → Sound p (first_state (elaborated p) input)
first_sound p input k b bytes = judged_sound p input k.granted.judged b.given b.small k.nested b.laid_out bytes

pub stuck_blamed : (p : Typed) (input : List ℕ) (n : ℕ) (k : IsKnown p) → Begins p k → AreBytes input → (source (elaborated p) input n).standing ≡ Stuck
    → IsSome (unchecked_since (elaborated p) input n)
stuck_blamed p input n k b bytes e = stuck_later p (stays_sound p k) n [] (first_state (elaborated p) input) (first_sound p input k b bytes) e

none : {A : Type 0} (o : Option A) → o ≡ None → IsSome o → ⊥
none None e h = cc
none (Some x) e h = cc

pub wholly_never : (p : Typed) (input : List ℕ) (n : ℕ) (k : IsKnown p) → Begins p k → AreBytes input → WhollyChecked p → (source (elaborated p) input n).standing ≢ Stuck
wholly_never p input n k b bytes checked e =
    none (unchecked_since (elaborated p) input n) (runs_checked p input n (main_bare p k.granted.judged).defined checked) (stuck_blamed p input n k b bytes e)

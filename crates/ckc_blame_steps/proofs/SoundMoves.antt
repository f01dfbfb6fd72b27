-- Moves of code of either mode.
use Rattle.std.proofs.Common.{◌≡◌, sym, ap, subst, List}
use Rattle.std.specs.Prelude.{◌≢◌}
use Rattle.ckc_base.specs.declared.arithmetic.Mode.{Mode}
use Rattle.ckc_base.specs.declared.arithmetic.Mode.TheVariants.{Checked}
use Rattle.ckc_base.specs.Steps.{Move, Goes, Halts}
use Rattle.ckc_base.specs.Traces.{Event, Stuck}
use Rattle.ckc_typed.specs.declared.typed.Typed.{Typed}
use Rattle.ckc_source.specs.States.{State, Work, settled}
use Rattle.ckc_source.specs.Steps.{works, source_step}
use Rattle.ckc_build_elaborate.specs.Elaborated.{elaborated}
use Rattle.ckc_blame_sound.specs.Moves.{IsSoundMove}
use Rattle.ckc_blame_steps.specs.Unchecked.{MovesSoundly}

-- a move that is not stuck is one of code of any mode
pub soundly : (m : Mode) (p : Typed) (x : Move Event State) → IsSoundMove p x → MovesSoundly m p x
soundly m p (Goes events s) h = h
soundly m p (Halts events standing) h = λ e. absurd (h e)

-- in checked code no move is stuck
pub soundly_checked : (p : Typed) (x : Move Event State) → MovesSoundly Checked p x → IsSoundMove p x
soundly_checked p (Goes events s) h = h
soundly_checked p (Halts events standing) h = h

pub sound_unless_stuck : (m : Mode) (p : Typed) (x : Move Event State) → MovesSoundly m p x → ((events : List Event) → x ≢ Halts events Stuck) → IsSoundMove p x
sound_unless_stuck m p (Goes events s) h runs = h
sound_unless_stuck m p (Halts events standing) h runs = λ e. runs events (ap (Halts events) e)

-- the step of a state, by what comes next
pub moves_by : (m : Mode) (p : Typed) (s : State) (next : List Work) → settled s.frame.work ≡ next → MovesSoundly m p (works (elaborated p) s next) → MovesSoundly m p (source_step (elaborated p) s)
unfolding source_step
moves_by m p s next e h = subst (λ w. MovesSoundly m p (works (elaborated p) s w)) (sym e) h

-- What a turn comes to by an operation that is known, it comes to by the one that is given.
use Rattle.std.proofs.Common.{◌≡◌, sym, subst}
use Rattle.ckc_rv.specs.declared.registers.Outcome.{Outcome}
use Rattle.ckc_rv.specs.Machine.{State, by_outcome}
use Rattle.ckc_machine.specs.declared.machine.Turn.{Turn}
use Rattle.ckc_machine.specs.code.Turns.{TurnsBy}

pub turns_by : {A : Type 0} (out : A → Outcome) (given known : A) (s : State) (turn : Turn) → given ≡ known → TurnsBy (out known) s (by_outcome s (out known)) turn → TurnsBy (out given) s (by_outcome s (out given)) turn
turns_by out given known s turn is h = subst (λ op. TurnsBy (out op) s (by_outcome s (out op)) turn) (sym is) h

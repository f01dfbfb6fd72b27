use Rattle.std.proofs.Common.{sym, subst}
use Rattle.ckc_base.specs.Traces.{Event}
use Rattle.ckc_base.specs.Steps.{Move}
use Rattle.ckc_rv.specs.declared.registers.Outcome.TheVariants as outcome
use Rattle.ckc_rv.specs.Machine.{State}
use Rattle.ckc_machine.specs.Runs.{state_of}
use Rattle.ckc_machine.specs.code.Turns.{TurnsBy}
use Rattle.ckc_machine.proofs.Turning.{calls_stop}
use Rattle.ckc_machine.proofs.machine.Machine.call.Goals as goal

pub returns-in-3 : goal.returns-in-3
returns-in-3 c = λ input.
    let s = state_of c.args.self.now input in
    subst (λ (m : Move Event State). TurnsBy outcome.Call s m c.stop.result) (sym (calls_stop s c.in-3.is)) (c.stop.ensures input)

use Rattle.std.proofs.Common.{sym, subst}
use Rattle.ckc_rv.specs.declared.registers.Outcome.{Outcome}
use Rattle.ckc_rv.specs.Machine.{by_outcome}
use Rattle.ckc_machine.specs.Runs.{state_of}
use Rattle.ckc_machine.specs.code.Turns.{TurnsBy}
use Rattle.ckc_machine.proofs.machine.Machine.turn_by.Goals as goal

pub returns-in-Load : goal.returns-in-Load
returns-in-Load c = λ input.
    let s = state_of c.args.self.now input in
    subst (λ (o : Outcome). TurnsBy o s (by_outcome s o) c.load_turn.result) (sym c.in-Load.is) (c.load_turn.ensures input)

pub returns-in-Store : goal.returns-in-Store
returns-in-Store c = λ input.
    let s = state_of c.args.self.now input in
    subst (λ (o : Outcome). TurnsBy o s (by_outcome s o) c.store_turn.result) (sym c.in-Store.is) (c.store_turn.ensures input)

pub returns-in-Call : goal.returns-in-Call
returns-in-Call c = λ input.
    let s = state_of c.args.self.now input in
    subst (λ (o : Outcome). TurnsBy o s (by_outcome s o) c.call.result) (sym c.in-Call.is) (c.call.ensures input)

use Rattle.ckc_rv.specs.declared.registers.Outcome.TheVariants as outcome
use Rattle.ckc_machine.specs.Runs.{state_of}
use Rattle.ckc_machine.proofs.ByOperation.{turns_by}
use Rattle.ckc_machine.proofs.machine.Machine.store_turn.Goals as goal

pub returns-in-Sb : goal.returns-in-Sb
returns-in-Sb c = λ input. turns_by (λ op. outcome.Store op c.args.a c.args.value) c.args.op _ (state_of c.args.self.now input) c.store_turn_as.result c.in-Sb.is (c.store_turn_as.ensures input)

pub returns-in-Sh : goal.returns-in-Sh
returns-in-Sh c = λ input. turns_by (λ op. outcome.Store op c.args.a c.args.value) c.args.op _ (state_of c.args.self.now input) c.store_turn_as-in-Sh.result c.in-Sh.is (c.store_turn_as-in-Sh.ensures input)

pub returns-in-Sw : goal.returns-in-Sw
returns-in-Sw c = λ input. turns_by (λ op. outcome.Store op c.args.a c.args.value) c.args.op _ (state_of c.args.self.now input) c.store_turn_as-in-Sw.result c.in-Sw.is (c.store_turn_as-in-Sw.ensures input)

use Rattle.ckc_rv.specs.declared.registers.Outcome.TheVariants as outcome
use Rattle.ckc_machine.specs.Runs.{state_of}
use Rattle.ckc_machine.proofs.ByOperation.{turns_by}
use Rattle.ckc_machine.proofs.machine.Machine.load_turn.Goals as goal

pub returns-in-Lb : goal.returns-in-Lb
returns-in-Lb c = λ input. turns_by (λ op. outcome.Load op c.args.rd c.args.a) c.args.op _ (state_of c.args.self.now input) c.load_as.result c.in-Lb.is (c.load_as.ensures input)

pub returns-in-Lh : goal.returns-in-Lh
returns-in-Lh c = λ input. turns_by (λ op. outcome.Load op c.args.rd c.args.a) c.args.op _ (state_of c.args.self.now input) c.load_as-in-Lh.result c.in-Lh.is (c.load_as-in-Lh.ensures input)

pub returns-in-Lw : goal.returns-in-Lw
returns-in-Lw c = λ input. turns_by (λ op. outcome.Load op c.args.rd c.args.a) c.args.op _ (state_of c.args.self.now input) c.load_as-in-Lw.result c.in-Lw.is (c.load_as-in-Lw.ensures input)

pub returns-in-Lbu : goal.returns-in-Lbu
returns-in-Lbu c = λ input. turns_by (λ op. outcome.Load op c.args.rd c.args.a) c.args.op _ (state_of c.args.self.now input) c.load_as-in-Lbu.result c.in-Lbu.is (c.load_as-in-Lbu.ensures input)

pub returns-in-Lhu : goal.returns-in-Lhu
returns-in-Lhu c = λ input. turns_by (λ op. outcome.Load op c.args.rd c.args.a) c.args.op _ (state_of c.args.self.now input) c.load_as-in-Lhu.result c.in-Lhu.is (c.load_as-in-Lhu.ensures input)

use Rattle.std.proofs.Common.{length, ap, arith}
use Rattle.ckc_emit.proofs.AddedCode.{over_at}
use Rattle.ckc_emit.specs.code.ProgramLines.{codes_of}
use Rattle.ckc_emit.proofs.program.put_functions.Goals as goal

pub put_function-requires-clause-over : goal.put_function-requires-clause-over
put_function-requires-clause-over c =
    over_at (codes_of c.args.p.now.funcs) c.args.p.now.funcs c.loop-f.f-index c.f-item.result (omega (arith, c.loop-f-test.true, ap length c.as_slice-f-items.ensures)) (cc) c.requires.whole.code.functions

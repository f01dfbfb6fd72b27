use Rattle.std.proofs.Common.{slice_index}
use Rattle.ckc_emit.specs.code.ProgramLines.{codes_of}
use Rattle.ckc_emit.proofs.AddedCode.{callable}
use Rattle.ckc_emit.proofs.ProgramEmitted.{program_emitted}
use Rattle.ckc_emit.proofs.program.lines_of.Goals as goal

pub returns : goal.returns
returns c =
    let p = c.args.p.now in
    let main = callable (codes_of p.funcs) p.funcs p.main 0 c.requires.whole.placed c.requires.whole.code.functions c.requires.whole.code.main in
    program_emitted p (slice_index c.args.labels.now p.main) c.new-out.result.items c.put_start.new.out.items c.put_functions.new.out.items
    c.new-out.ensures.items (c.requires.labelled.are p.main main.below) c.in_ok-put_start.ensures c.in_ok-put_functions.ensures

use Rattle.ckc_source.specs.Code.{program_of}
use Rattle.ckc_build.proofs.Programs.{judging_ends, memory_ends, means}
use Rattle.ckc_build.proofs.meanings.program.Goals as goal

pub returns-in-Err-clause-exact : goal.returns-in-Err-clause-exact
returns-in-Err-clause-exact c = judging_ends c.args.text.now c.in-Err.fault c.in-Err.ensures.exact

pub returns-in-Err-elaborated-clause-exact : goal.returns-in-Err-elaborated-clause-exact
returns-in-Err-elaborated-clause-exact c = memory_ends c.args.text.now

pub returns-in-Ok-elaborated-clause-exact : goal.returns-in-Ok-elaborated-clause-exact
returns-in-Ok-elaborated-clause-exact c =
    means c.args.text.now c.in-Ok.typed (program_of c.in-Ok-elaborated.p) c.in-Ok.ensures.exact c.in-Ok-elaborated.ensures

pub returns-in-Ok-elaborated-clause-laid_out : goal.returns-in-Ok-elaborated-clause-laid_out
returns-in-Ok-elaborated-clause-laid_out c =
    let p = program_of c.in-Ok-elaborated.p in
    c.programs_are_laid_out.ensures c.args.text.now p (means c.args.text.now c.in-Ok.typed p c.in-Ok.ensures.exact c.in-Ok-elaborated.ensures).answers

pub returns-in-Ok-elaborated-clause-well_formed : goal.returns-in-Ok-elaborated-clause-well_formed
returns-in-Ok-elaborated-clause-well_formed c =
    let p = program_of c.in-Ok-elaborated.p in
    c.programs_are_well_formed.ensures c.args.text.now p (means c.args.text.now c.in-Ok.typed p c.in-Ok.ensures.exact c.in-Ok-elaborated.ensures).answers

pub returns-in-Ok-elaborated-clause-caused : goal.returns-in-Ok-elaborated-clause-caused
returns-in-Ok-elaborated-clause-caused c =
    let p = program_of c.in-Ok-elaborated.p in
    c.stuck_runs_have_a_cause.ensures c.args.text.now p (means c.args.text.now c.in-Ok.typed p c.in-Ok.ensures.exact c.in-Ok-elaborated.ensures).answers

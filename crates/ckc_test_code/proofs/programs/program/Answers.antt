use Rattle.ckc_test_code.proofs.FineProgram.{program_formed, program_limited}
use Rattle.ckc_test_code.proofs.programs.program.Goals as goal

pub returns-then-fits-clause-whole : goal.returns-then-fits-clause-whole
returns-then-fits-clause-whole c =
    let fit = c.fits.ensures c.if-fits.true in
    program_formed _ c.as_slice-counts.result.now fit.is c.in_ok-funcs.ensures.same c.in_ok-funcs.ensures.fine

pub returns-then-fits-clause-limits : goal.returns-then-fits-clause-limits
returns-then-fits-clause-limits c = program_limited c.in_ok-funcs.funcs c.as_slice-counts.result.now c.in_ok-funcs.ensures.fine

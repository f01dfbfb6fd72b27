use Rattle.std.proofs.Common.{subst}
use Rattle.ckc_test_code.specs.code.Fine.{IsFitting}
use Rattle.ckc_test_code.proofs.Statements.{call_fine}
use Rattle.ckc_test_code.proofs.stmts.call.Goals as goal

pub returns-then-fits : goal.returns-then-fits
returns-then-fits c = λ looped.
    call_fine c.args.params.now c.args.locals looped c.in_ok-target.target c.number-callee.result c.in_ok-args.args c.place-at.result c.in_ok-target.ensures c.place-at.ensures c.in_ok-args.ensures
    (subst (IsFitting c.args.params.now c.number-callee.result) c.len.ensures (c.fits.ensures c.if-fits.true))

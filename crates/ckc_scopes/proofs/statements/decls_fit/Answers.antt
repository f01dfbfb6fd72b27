use Rattle.ckc_typed.specs.Walk.{spots_of_decl}
use Rattle.ckc_scopes.proofs.Verdicts.{loop_stops, loop_goes}
use Rattle.ckc_scopes.proofs.statements.decls_fit.Goals as goal

pub returns-in_err-decl_fits : goal.returns-in_err-decl_fits
returns-in_err-decl_fits c =
    loop_stops c.args.items.now (spots_of_decl c.args.mode) c.args.decls.now c.loop-decl.decl-index c.decl-item.result _ _ _ c.loop-decl-test.true c.decl-item.is c.loop-decl.invariant c.from_residual.ensures.1 c.in_err-decl_fits.was c.decl_fits.ensures

pub loop-decl-preserved : goal.loop-decl-preserved
loop-decl-preserved c =
    loop_goes c.args.items.now (spots_of_decl c.args.mode) c.args.decls.now c.loop-decl.decl-index c.decl-item.result _ c.loop-decl-test.true c.decl-item.is c.loop-decl.invariant c.in_ok-decl_fits.was c.decl_fits.ensures

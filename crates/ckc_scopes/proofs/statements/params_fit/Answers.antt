use Rattle.ckc_typed.specs.Walk.{spots_of_param}
use Rattle.ckc_scopes.proofs.Verdicts.{loop_stops, loop_goes}
use Rattle.ckc_scopes.proofs.statements.params_fit.Goals as goal

pub returns-in_err-param_fits : goal.returns-in_err-param_fits
returns-in_err-param_fits c =
    loop_stops c.args.items.now (spots_of_param c.args.mode) c.args.params.now c.loop-param.param-index c.param-item.result _ _ _ c.loop-param-test.true c.param-item.is c.loop-param.invariant c.from_residual.ensures.1 c.in_err-param_fits.was c.param_fits.ensures

pub loop-param-preserved : goal.loop-param-preserved
loop-param-preserved c =
    loop_goes c.args.items.now (spots_of_param c.args.mode) c.args.params.now c.loop-param.param-index c.param-item.result _ c.loop-param-test.true c.param-item.is c.loop-param.invariant c.in_ok-param_fits.was c.param_fits.ensures

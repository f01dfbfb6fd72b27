use Rattle.std.proofs.lemmas.Result.{err_from_is_err_and}
use Rattle.ckc_bounds_statements.specs.Paths.{value_judged, values_judged}
use Rattle.ckc_bounds_statements.specs.Walks.{here}
use Rattle.ckc_base.proofs.Ends.{step_stops}
use Rattle.ckc_base.proofs.Sequels.{begin, turn_fault, turn_done, turn_end}
use Rattle.ckc_bounds_statements.proofs.walk.judge_values.Goals as goal

pub loop-e-init : goal.loop-e-init
loop-e-init c = begin (values_judged c.args.frame.now c.args.es.now (here c.args.walk.now)) _ c.new-all.ensures

pub returns-in_err-judged : goal.returns-in_err-judged
returns-in_err-judged c =
    let f = value_judged c.args.frame.now in
    let p = err_from_is_err_and c.from_residual.result c.from_residual.ensures.1 in
    step_stops (f c.e-item.result (here c.loop-e.walk)) _ (values_judged c.args.frame.now c.args.es.now (here c.args.walk.now)) _ c.from_residual.result p.0 c.in_err-judged.field-0.0 p.1 p.2 c.in_err-judged.ensures
    (turn_fault f c.args.es.now c.loop-e.e-index (here c.loop-e.walk) _ _ c.loop-e.invariant c.e-item.result c.loop-e-test.true c.e-item.is)

pub loop-e-preserved : goal.loop-e-preserved
loop-e-preserved c =
    turn_done (value_judged c.args.frame.now) c.args.es.now c.loop-e.e-index (here c.loop-e.walk) _ _ c.loop-e.invariant c.e-item.result c.in_ok-judged.judged _ _ c.loop-e-test.true c.e-item.is c.in_ok-judged.ensures c.in_ok-push.ensures.ok

pub returns : goal.returns
returns c = turn_end (value_judged c.args.frame.now) c.args.es.now c.loop-e.e-index _ _ _ c.loop-e.invariant c.loop-e-test.false

use Rattle.std.proofs.Common.{◌∙◌, map}
use Rattle.std.proofs.lemmas.Result.{err_from_is_err_and}
use Rattle.ckc_base.specs.Outcomes.{Outcome, in_turn}
use Rattle.ckc_typed.specs.Trees.{NotedStmt}
use Rattle.ckc_bounds_statements.specs.Paths.{Here, Path, parts_judged, path}
use Rattle.ckc_bounds_statements.specs.Walks.{here}
use Rattle.ckc_base.proofs.Ends.{step_stops}
use Rattle.ckc_base.proofs.Sequels.{begin, turn_fault, turn_done, turn_end, turned_by}
use Rattle.ckc_bounds_statements.proofs.statements.judge_sides.Goals as goal

pub loop-s-init : goal.loop-s-init
unfolding parts_judged
loop-s-init c =
    let g : Path → Here → Outcome (NotedStmt × Here) = λ s. s.part c.args.frame.now c.args.bundle in
    let f : NotedStmt → Here → Outcome (NotedStmt × Here) = λ s. (path s).part c.args.frame.now c.args.bundle in
    turned_by path g c.args.ss.now (here c.args.walk.now) ∙ begin (in_turn (map f c.args.ss.now) (here c.args.walk.now)) _ c.new-all.ensures

pub returns-in_err-judged : goal.returns-in_err-judged
returns-in_err-judged c =
    let f : NotedStmt → Here → Outcome (NotedStmt × Here) = λ s. (path s).part c.args.frame.now c.args.bundle in
    let p = err_from_is_err_and c.from_residual.result c.from_residual.ensures.1 in
    step_stops (f c.s-item.result (here c.loop-s.walk)) _ (parts_judged c.args.frame.now c.args.bundle (map path c.args.ss.now) (here c.args.walk.now)) _ c.from_residual.result p.0 c.in_err-judged.field-0.0 p.1 p.2 c.in_err-judged.ensures
    (turn_fault f c.args.ss.now c.loop-s.s-index (here c.loop-s.walk) _ _ c.loop-s.invariant c.s-item.result c.loop-s-test.true c.s-item.is)

pub loop-s-preserved : goal.loop-s-preserved
loop-s-preserved c =
    let f : NotedStmt → Here → Outcome (NotedStmt × Here) = λ s. (path s).part c.args.frame.now c.args.bundle in
    turn_done f c.args.ss.now c.loop-s.s-index (here c.loop-s.walk) _ _ c.loop-s.invariant c.s-item.result c.in_ok-judged.judged _ _ c.loop-s-test.true c.s-item.is c.in_ok-judged.ensures c.in_ok-push.ensures.ok

pub returns : goal.returns
returns c =
    let f : NotedStmt → Here → Outcome (NotedStmt × Here) = λ s. (path s).part c.args.frame.now c.args.bundle in
    turn_end f c.args.ss.now c.loop-s.s-index _ _ _ c.loop-s.invariant c.loop-s-test.false

use Rattle.std.proofs.Common.{◌∙◌, map}
use Rattle.std.proofs.lemmas.Result.{err_from_is_err_and}
use Rattle.ckc_base.specs.Outcomes.{Outcome, in_turn}
use Rattle.ckc_typed.specs.Trees.{NotedStmt}
use Rattle.ckc_bounds_statements.specs.Paths.{Here, Path, path, all_judged}
use Rattle.ckc_bounds_statements.specs.Walks.{here}
use Rattle.ckc_base.proofs.Ends.{step_stops}
use Rattle.ckc_base.proofs.Sequels.{begin, turn_fault, turn_done, turn_end, turned_by}
use Rattle.ckc_bounds_statements.proofs.Blocks.{block_goes, block_stops}
use Rattle.ckc_bounds_statements.proofs.statements.+stmt.Goals as goal

pub judge_stmts-loop-s-init : goal.judge_stmts-loop-s-init
unfolding all_judged
judge_stmts-loop-s-init t c =
    let g : Path → Here → Outcome (NotedStmt × Here) = λ s. s.judged c.args.frame.now c.args.head.now in
    let f : NotedStmt → Here → Outcome (NotedStmt × Here) = λ s. (path s).judged c.args.frame.now c.args.head.now in
    turned_by path g c.args.ss.now (here c.args.walk.now) ∙ begin (in_turn (map f c.args.ss.now) (here c.args.walk.now)) _ c.new-all.ensures

pub judge_stmts-returns-in_err-judged : goal.judge_stmts-returns-in_err-judged
judge_stmts-returns-in_err-judged t c =
    let f : NotedStmt → Here → Outcome (NotedStmt × Here) = λ s. (path s).judged c.args.frame.now c.args.head.now in
    let p = err_from_is_err_and c.from_residual.result c.from_residual.ensures.1 in
    step_stops (f c.s-item.result (here c.loop-s.walk)) _ (all_judged c.args.frame.now c.args.head.now (map path c.args.ss.now) (here c.args.walk.now)) _ c.from_residual.result p.0 c.in_err-judged.field-0.0 p.1 p.2 c.in_err-judged.ensures
    (turn_fault f c.args.ss.now c.loop-s.s-index (here c.loop-s.walk) _ _ c.loop-s.invariant c.s-item.result c.loop-s-test.true c.s-item.is)

pub judge_stmts-loop-s-preserved : goal.judge_stmts-loop-s-preserved
judge_stmts-loop-s-preserved t c =
    let f : NotedStmt → Here → Outcome (NotedStmt × Here) = λ s. (path s).judged c.args.frame.now c.args.head.now in
    turn_done f c.args.ss.now c.loop-s.s-index (here c.loop-s.walk) _ _ c.loop-s.invariant c.s-item.result c.in_ok-judged.judged _ _ c.loop-s-test.true c.s-item.is c.in_ok-judged.ensures c.in_ok-push.ensures.ok

pub judge_stmts-returns : goal.judge_stmts-returns
judge_stmts-returns t c =
    let f : NotedStmt → Here → Outcome (NotedStmt × Here) = λ s. (path s).judged c.args.frame.now c.args.head.now in
    turn_end f c.args.ss.now c.loop-s.s-index _ _ _ c.loop-s.invariant c.loop-s-test.false

pub judge_act-returns-in_err-all-in-Block : goal.judge_act-returns-in_err-all-in-Block
judge_act-returns-in_err-all-in-Block t c =
    let p = err_from_is_err_and c.from_residual.result c.from_residual.ensures.1 in
    block_stops c.args.frame.now c.args.head.now c.args.at c.args.note (here c.args.walk.now) c.args.act.now c.in-Block.m c.in-Block.ss _ c.in-Block.is c.as_slice.ensures _ _ c.from_residual.result p.0 c.in_err-all-in-Block.field-0.0 p.1 p.2 c.in_err-all-in-Block.ensures

pub judge_act-returns-in_ok-all-in-Block : goal.judge_act-returns-in_ok-all-in-Block
judge_act-returns-in_ok-all-in-Block t c =
    let w = block_goes c.args.frame.now c.args.head.now c.args.at c.args.note (here c.args.walk.now) c.args.act.now c.in-Block.m c.in-Block.ss _ c.in-Block.is c.as_slice.ensures c.in_ok-all-in-Block.all _ c.in_ok-all-in-Block.ensures in
    cc (w, c.close.ensures, c.stated.ensures, c.len-most.ensures)

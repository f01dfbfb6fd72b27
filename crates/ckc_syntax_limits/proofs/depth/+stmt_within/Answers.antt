use Rattle.std.proofs.Common.{ap, sym, ◌∙◌}
use Rattle.ckc_syntax.specs.Inside.{highest, inside_each}
use Rattle.ckc_syntax_limits.specs.Depth.{depth_of_act, depth_of_stmt}
use Rattle.ckc_syntax_limits.proofs.Depths.{depth_of_block, depth_of_bundle, stopped, turned, within_along}
use Rattle.ckc_syntax_limits.proofs.depth.+stmt_within.Goals as goal

pub stmts_within-returns-then-not-stmt_within : goal.stmts_within-returns-then-not-stmt_within
stmts_within-returns-then-not-stmt_within g t c =
    stopped depth_of_stmt c.args.stmts.now c.loop-stmt.stmt-index c.stmt-item.result c.args.left c.loop-stmt-test.true c.stmt-item.is c.loop-stmt.invariant c.if-not-stmt_within.ensures

pub stmts_within-loop-stmt-preserved : goal.stmts_within-loop-stmt-preserved
stmts_within-loop-stmt-preserved g t c =
    turned depth_of_stmt c.args.stmts.now c.loop-stmt.stmt-index c.stmt-item.result c.args.left c.loop-stmt-test.true c.stmt-item.is c.loop-stmt.invariant c.if-not-stmt_within.ensures

pub act_within-returns-in-Block : goal.act_within-returns-in-Block
act_within-returns-in-Block g t c =
    let e = ap depth_of_act c.in-Block.is ∙ depth_of_block c.in-Block.field-0 c.in-Block.stmts ∙ ap (λ ss. inside_each highest depth_of_stmt ss) (sym c.as_slice.ensures) in
    within_along _ _ _ _ e c.stmts_within.ensures

pub act_within-returns-in-Bundle : goal.act_within-returns-in-Bundle
act_within-returns-in-Bundle g t c =
    let e = ap depth_of_act c.in-Bundle.is ∙ depth_of_bundle c.in-Bundle.stmts ∙ ap (λ ss. inside_each highest depth_of_stmt ss) (sym c.as_slice-in-Bundle.ensures) in
    within_along _ _ _ _ e c.stmts_within-in-Bundle.ensures

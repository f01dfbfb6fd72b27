use Rattle.std.proofs.Common.{ap, sym, ◌∙◌}
use Rattle.ckc_syntax.specs.Inside.{highest, inside_each}
use Rattle.ckc_syntax_limits.specs.Depth.{depth_of_node, depth_of_expr}
use Rattle.ckc_syntax_limits.proofs.Depths.{depth_of_call, stopped, turned, within_along}
use Rattle.ckc_syntax_limits.proofs.depth.+expr_within.Goals as goal

pub node_within-returns-in-Call : goal.node_within-returns-in-Call
node_within-returns-in-Call g t c =
    let e = ap depth_of_node c.in-Call.is ∙ depth_of_call c.in-Call.field-0 c.in-Call.es ∙ ap (λ es. inside_each highest depth_of_expr es) (sym c.as_slice.ensures) in
    within_along _ _ _ _ e c.exprs_within.ensures

pub exprs_within-returns-then-not-expr_within : goal.exprs_within-returns-then-not-expr_within
exprs_within-returns-then-not-expr_within g t c =
    stopped depth_of_expr c.args.es.now c.loop-e.e-index c.e-item.result c.args.left c.loop-e-test.true c.e-item.is c.loop-e.invariant c.if-not-expr_within.ensures

pub exprs_within-loop-e-preserved : goal.exprs_within-loop-e-preserved
exprs_within-loop-e-preserved g t c =
    turned depth_of_expr c.args.es.now c.loop-e.e-index c.e-item.result c.args.left c.loop-e-test.true c.e-item.is c.loop-e.invariant c.if-not-expr_within.ensures

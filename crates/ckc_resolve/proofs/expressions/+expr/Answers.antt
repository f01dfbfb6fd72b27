use Rattle.std.proofs.Common.{refl, sym, ap, ◌∙◌}
use Rattle.ckc_syntax.specs.declared.tree.Limits.TheVariants as limits
use Rattle.ckc_syntax.specs.declared.tree.Node.TheVariants as node
use Rattle.ckc_resolve.specs.Types.{type_named}
use Rattle.ckc_syntax.specs.declared.tree.Limits.{Limits-F}
use Rattle.ckc_syntax.specs.declared.tree.Node.{Node-F}
use Rattle.ckc_base.proofs.Ends.{halts}
use Rattle.ckc_resolve.proofs.Parts.{limits_by, node_by, expr_by, trusted, tested}
use Rattle.ckc_resolve.specs.Expressions.{limits_named, node_named, expr_named, exprs_named, bounds_named}
use Rattle.ckc_base.proofs.Turns.{begin, turn_stops, turn_done, turn_end}
use Rattle.ckc_resolve.proofs.expressions.+expr.Goals as goal

pub named_exprs-loop-e-init : goal.named_exprs-loop-e-init
named_exprs-loop-e-init t c = begin (exprs_named c.args.names.now c.args.scopes.now c.args.es.now) _ c.new-all.ensures

pub named_exprs-returns-in_err-named : goal.named_exprs-returns-in_err-named
named_exprs-returns-in_err-named t c =
    turn_stops (expr_named c.args.names.now c.args.scopes.now) c.args.es.now c.loop-e.e-index _ _ c.loop-e.invariant c.e-item.result c.loop-e-test.true c.e-item.is c.from_residual.result c.in_err-named.field-0.0 c.from_residual.ensures.1 c.in_err-named.ensures

pub named_exprs-loop-e-preserved : goal.named_exprs-loop-e-preserved
named_exprs-loop-e-preserved t c =
    turn_done (expr_named c.args.names.now c.args.scopes.now) c.args.es.now c.loop-e.e-index _ _ c.loop-e.invariant c.e-item.result c.in_ok-named.named _ c.loop-e-test.true c.e-item.is c.in_ok-named.ensures c.in_ok-push.ensures.ok

pub named_exprs-returns : goal.named_exprs-returns
named_exprs-returns t c = turn_end (expr_named c.args.names.now c.args.scopes.now) c.args.es.now c.loop-e.e-index _ _ c.loop-e.invariant c.loop-e-test.false

pub boxed_expr-returns-in_err-named : goal.boxed_expr-returns-in_err-named
boxed_expr-returns-in_err-named t c =
    halts (expr_named c.args.names.now c.args.scopes.now c.args.e.now) (expr_named c.args.names.now c.args.scopes.now c.args.e.now) c.from_residual.result c.in_err-named.field-0.0 c.from_residual.ensures.1 c.in_err-named.ensures (λ f q. q)

pub named_limits-returns-in_err-amount-in-Count : goal.named_limits-returns-in_err-amount-in-Count
named_limits-returns-in_err-amount-in-Count t c =
    halts (expr_named c.args.names.now c.args.scopes.now c.get.result.now) (limits_named c.args.names.now c.args.scopes.now c.args.limits.now) c.from_residual.result c.in_err-amount-in-Count.field-0.0 c.from_residual.ensures.1 c.in_err-amount-in-Count.ensures (λ f q. rw (limits_by c.args.names.now c.args.scopes.now c.args.limits.now (Limits-F.Count c.in-Count.e c.in-Count.pos) (c.in-Count.is ∙ sym (limits.rolls-Count c.in-Count.e c.in-Count.pos)), ← c.get.ensures, q) refl)

pub named_limits-returns-in_ok-amount-in-Count : goal.named_limits-returns-in_ok-amount-in-Count
named_limits-returns-in_ok-amount-in-Count t c =
    rw (limits_by c.args.names.now c.args.scopes.now c.args.limits.now (Limits-F.Count c.in-Count.e c.in-Count.pos) (c.in-Count.is ∙ sym (limits.rolls-Count c.in-Count.e c.in-Count.pos)), ← c.get.ensures, c.in_ok-amount-in-Count.ensures) refl

pub named_limits-returns-in_err-amount-in-ByteCount : goal.named_limits-returns-in_err-amount-in-ByteCount
named_limits-returns-in_err-amount-in-ByteCount t c =
    halts (expr_named c.args.names.now c.args.scopes.now c.get-in-ByteCount.result.now) (limits_named c.args.names.now c.args.scopes.now c.args.limits.now) c.from_residual-in_err-amount-in-ByteCount.result c.in_err-amount-in-ByteCount.field-0.0 c.from_residual-in_err-amount-in-ByteCount.ensures.1 c.in_err-amount-in-ByteCount.ensures (λ f q. rw (limits_by c.args.names.now c.args.scopes.now c.args.limits.now (Limits-F.ByteCount c.in-ByteCount.e c.in-ByteCount.pos) (c.in-ByteCount.is ∙ sym (limits.rolls-ByteCount c.in-ByteCount.e c.in-ByteCount.pos)), ← c.get-in-ByteCount.ensures, q) refl)

pub named_limits-returns-in_ok-amount-in-ByteCount : goal.named_limits-returns-in_ok-amount-in-ByteCount
named_limits-returns-in_ok-amount-in-ByteCount t c =
    rw (limits_by c.args.names.now c.args.scopes.now c.args.limits.now (Limits-F.ByteCount c.in-ByteCount.e c.in-ByteCount.pos) (c.in-ByteCount.is ∙ sym (limits.rolls-ByteCount c.in-ByteCount.e c.in-ByteCount.pos)), ← c.get-in-ByteCount.ensures, c.in_ok-amount-in-ByteCount.ensures) refl

pub named_limits-returns-in_err-low-in-Between : goal.named_limits-returns-in_err-low-in-Between
named_limits-returns-in_err-low-in-Between t c =
    halts (expr_named c.args.names.now c.args.scopes.now c.get-in-Between.result.now) (limits_named c.args.names.now c.args.scopes.now c.args.limits.now) c.from_residual-in_err-low-in-Between.result c.in_err-low-in-Between.field-0.0 c.from_residual-in_err-low-in-Between.ensures.1 c.in_err-low-in-Between.ensures (λ f q. rw (limits_by c.args.names.now c.args.scopes.now c.args.limits.now (Limits-F.Between c.in-Between.e c.in-Between.f c.in-Between.pos) (c.in-Between.is ∙ sym (limits.rolls-Between c.in-Between.e c.in-Between.f c.in-Between.pos)), ← c.get-in-Between.ensures, q) refl)

pub named_limits-returns-in_err-high-in-Between : goal.named_limits-returns-in_err-high-in-Between
named_limits-returns-in_err-high-in-Between t c =
    halts (expr_named c.args.names.now c.args.scopes.now c.get-in-Between-2.result.now) (limits_named c.args.names.now c.args.scopes.now c.args.limits.now) c.from_residual-in_err-high-in-Between.result c.in_err-high-in-Between.field-0.0 c.from_residual-in_err-high-in-Between.ensures.1 c.in_err-high-in-Between.ensures (λ f q. rw (limits_by c.args.names.now c.args.scopes.now c.args.limits.now (Limits-F.Between c.in-Between.e c.in-Between.f c.in-Between.pos) (c.in-Between.is ∙ sym (limits.rolls-Between c.in-Between.e c.in-Between.f c.in-Between.pos)), ← c.get-in-Between.ensures, c.in_ok-low-in-Between.ensures, ← c.get-in-Between-2.ensures, q) refl)

pub named_limits-returns-in_ok-high-in-Between : goal.named_limits-returns-in_ok-high-in-Between
named_limits-returns-in_ok-high-in-Between t c =
    rw (limits_by c.args.names.now c.args.scopes.now c.args.limits.now (Limits-F.Between c.in-Between.e c.in-Between.f c.in-Between.pos) (c.in-Between.is ∙ sym (limits.rolls-Between c.in-Between.e c.in-Between.f c.in-Between.pos)), ← c.get-in-Between.ensures, c.in_ok-low-in-Between.ensures, ← c.get-in-Between-2.ensures, c.in_ok-high-in-Between.ensures) refl

pub named_node-returns-in_err-e-in-Un : goal.named_node-returns-in_err-e-in-Un
named_node-returns-in_err-e-in-Un t c =
    halts (expr_named c.args.names.now c.args.scopes.now c.get.result.now) (node_named c.args.names.now c.args.scopes.now c.args.node.now c.args.pos) c.from_residual.result c.in_err-e-in-Un.field-0.0 c.from_residual.ensures.1 c.in_err-e-in-Un.ensures (λ f q. rw (node_by c.args.names.now c.args.scopes.now c.args.node.now c.args.pos (Node-F.Un c.in-Un.op c.in-Un.e) (c.in-Un.is ∙ sym (node.rolls-Un c.in-Un.op c.in-Un.e)), ← c.get.ensures, q) refl)

pub named_node-returns-in_ok-e-in-Un : goal.named_node-returns-in_ok-e-in-Un
named_node-returns-in_ok-e-in-Un t c =
    rw (node_by c.args.names.now c.args.scopes.now c.args.node.now c.args.pos (Node-F.Un c.in-Un.op c.in-Un.e) (c.in-Un.is ∙ sym (node.rolls-Un c.in-Un.op c.in-Un.e)), ← c.get.ensures, c.in_ok-e-in-Un.ensures) refl

pub named_node-returns-in_err-e-in-Bin : goal.named_node-returns-in_err-e-in-Bin
named_node-returns-in_err-e-in-Bin t c =
    halts (expr_named c.args.names.now c.args.scopes.now c.get-in-Bin.result.now) (node_named c.args.names.now c.args.scopes.now c.args.node.now c.args.pos) c.from_residual-in_err-e-in-Bin.result c.in_err-e-in-Bin.field-0.0 c.from_residual-in_err-e-in-Bin.ensures.1 c.in_err-e-in-Bin.ensures (λ f q. rw (node_by c.args.names.now c.args.scopes.now c.args.node.now c.args.pos (Node-F.Bin c.in-Bin.op c.in-Bin.e c.in-Bin.f) (c.in-Bin.is ∙ sym (node.rolls-Bin c.in-Bin.op c.in-Bin.e c.in-Bin.f)), ← c.get-in-Bin.ensures, q) refl)

pub named_node-returns-in_err-f-in-Bin : goal.named_node-returns-in_err-f-in-Bin
named_node-returns-in_err-f-in-Bin t c =
    halts (expr_named c.args.names.now c.args.scopes.now c.get-in-Bin-2.result.now) (node_named c.args.names.now c.args.scopes.now c.args.node.now c.args.pos) c.from_residual-in_err-f-in-Bin.result c.in_err-f-in-Bin.field-0.0 c.from_residual-in_err-f-in-Bin.ensures.1 c.in_err-f-in-Bin.ensures (λ f q. rw (node_by c.args.names.now c.args.scopes.now c.args.node.now c.args.pos (Node-F.Bin c.in-Bin.op c.in-Bin.e c.in-Bin.f) (c.in-Bin.is ∙ sym (node.rolls-Bin c.in-Bin.op c.in-Bin.e c.in-Bin.f)), ← c.get-in-Bin.ensures, c.in_ok-e-in-Bin.ensures, ← c.get-in-Bin-2.ensures, q) refl)

pub named_node-returns-in_ok-f-in-Bin : goal.named_node-returns-in_ok-f-in-Bin
named_node-returns-in_ok-f-in-Bin t c =
    rw (node_by c.args.names.now c.args.scopes.now c.args.node.now c.args.pos (Node-F.Bin c.in-Bin.op c.in-Bin.e c.in-Bin.f) (c.in-Bin.is ∙ sym (node.rolls-Bin c.in-Bin.op c.in-Bin.e c.in-Bin.f)), ← c.get-in-Bin.ensures, c.in_ok-e-in-Bin.ensures, ← c.get-in-Bin-2.ensures, c.in_ok-f-in-Bin.ensures) refl

pub named_node-returns-in_err-e-in-Pick : goal.named_node-returns-in_err-e-in-Pick
named_node-returns-in_err-e-in-Pick t c =
    halts (expr_named c.args.names.now c.args.scopes.now c.get-in-Pick.result.now) (node_named c.args.names.now c.args.scopes.now c.args.node.now c.args.pos) c.from_residual-in_err-e-in-Pick.result c.in_err-e-in-Pick.field-0.0 c.from_residual-in_err-e-in-Pick.ensures.1 c.in_err-e-in-Pick.ensures (λ f q. rw (node_by c.args.names.now c.args.scopes.now c.args.node.now c.args.pos (Node-F.Pick c.in-Pick.e c.in-Pick.f c.in-Pick.g) (c.in-Pick.is ∙ sym (node.rolls-Pick c.in-Pick.e c.in-Pick.f c.in-Pick.g)), ← c.get-in-Pick.ensures, q) refl)

pub named_node-returns-in_err-f-in-Pick : goal.named_node-returns-in_err-f-in-Pick
named_node-returns-in_err-f-in-Pick t c =
    halts (expr_named c.args.names.now c.args.scopes.now c.get-in-Pick-2.result.now) (node_named c.args.names.now c.args.scopes.now c.args.node.now c.args.pos) c.from_residual-in_err-f-in-Pick.result c.in_err-f-in-Pick.field-0.0 c.from_residual-in_err-f-in-Pick.ensures.1 c.in_err-f-in-Pick.ensures (λ f q. rw (node_by c.args.names.now c.args.scopes.now c.args.node.now c.args.pos (Node-F.Pick c.in-Pick.e c.in-Pick.f c.in-Pick.g) (c.in-Pick.is ∙ sym (node.rolls-Pick c.in-Pick.e c.in-Pick.f c.in-Pick.g)), ← c.get-in-Pick.ensures, c.in_ok-e-in-Pick.ensures, ← c.get-in-Pick-2.ensures, q) refl)

pub named_node-returns-in_err-g-in-Pick : goal.named_node-returns-in_err-g-in-Pick
named_node-returns-in_err-g-in-Pick t c =
    halts (expr_named c.args.names.now c.args.scopes.now c.get-in-Pick-3.result.now) (node_named c.args.names.now c.args.scopes.now c.args.node.now c.args.pos) c.from_residual-in_err-g-in-Pick.result c.in_err-g-in-Pick.field-0.0 c.from_residual-in_err-g-in-Pick.ensures.1 c.in_err-g-in-Pick.ensures (λ f q. rw (node_by c.args.names.now c.args.scopes.now c.args.node.now c.args.pos (Node-F.Pick c.in-Pick.e c.in-Pick.f c.in-Pick.g) (c.in-Pick.is ∙ sym (node.rolls-Pick c.in-Pick.e c.in-Pick.f c.in-Pick.g)), ← c.get-in-Pick.ensures, c.in_ok-e-in-Pick.ensures, ← c.get-in-Pick-2.ensures, c.in_ok-f-in-Pick.ensures, ← c.get-in-Pick-3.ensures, q) refl)

pub named_node-returns-in_ok-g-in-Pick : goal.named_node-returns-in_ok-g-in-Pick
named_node-returns-in_ok-g-in-Pick t c =
    rw (node_by c.args.names.now c.args.scopes.now c.args.node.now c.args.pos (Node-F.Pick c.in-Pick.e c.in-Pick.f c.in-Pick.g) (c.in-Pick.is ∙ sym (node.rolls-Pick c.in-Pick.e c.in-Pick.f c.in-Pick.g)), ← c.get-in-Pick.ensures, c.in_ok-e-in-Pick.ensures, ← c.get-in-Pick-2.ensures, c.in_ok-f-in-Pick.ensures, ← c.get-in-Pick-3.ensures, c.in_ok-g-in-Pick.ensures) refl

pub named_node-returns-in_err-e-in-Index : goal.named_node-returns-in_err-e-in-Index
named_node-returns-in_err-e-in-Index t c =
    halts (expr_named c.args.names.now c.args.scopes.now c.get-in-Index.result.now) (node_named c.args.names.now c.args.scopes.now c.args.node.now c.args.pos) c.from_residual-in_err-e-in-Index.result c.in_err-e-in-Index.field-0.0 c.from_residual-in_err-e-in-Index.ensures.1 c.in_err-e-in-Index.ensures (λ f q. rw (node_by c.args.names.now c.args.scopes.now c.args.node.now c.args.pos (Node-F.Index c.in-Index.e c.in-Index.f) (c.in-Index.is ∙ sym (node.rolls-Index c.in-Index.e c.in-Index.f)), ← c.get-in-Index.ensures, q) refl)

pub named_node-returns-in_err-f-in-Index : goal.named_node-returns-in_err-f-in-Index
named_node-returns-in_err-f-in-Index t c =
    halts (expr_named c.args.names.now c.args.scopes.now c.get-in-Index-2.result.now) (node_named c.args.names.now c.args.scopes.now c.args.node.now c.args.pos) c.from_residual-in_err-f-in-Index.result c.in_err-f-in-Index.field-0.0 c.from_residual-in_err-f-in-Index.ensures.1 c.in_err-f-in-Index.ensures (λ f q. rw (node_by c.args.names.now c.args.scopes.now c.args.node.now c.args.pos (Node-F.Index c.in-Index.e c.in-Index.f) (c.in-Index.is ∙ sym (node.rolls-Index c.in-Index.e c.in-Index.f)), ← c.get-in-Index.ensures, c.in_ok-e-in-Index.ensures, ← c.get-in-Index-2.ensures, q) refl)

pub named_node-returns-in_ok-f-in-Index : goal.named_node-returns-in_ok-f-in-Index
named_node-returns-in_ok-f-in-Index t c =
    rw (node_by c.args.names.now c.args.scopes.now c.args.node.now c.args.pos (Node-F.Index c.in-Index.e c.in-Index.f) (c.in-Index.is ∙ sym (node.rolls-Index c.in-Index.e c.in-Index.f)), ← c.get-in-Index.ensures, c.in_ok-e-in-Index.ensures, ← c.get-in-Index-2.ensures, c.in_ok-f-in-Index.ensures) refl

pub named_node-returns-in_err-e-in-Dot : goal.named_node-returns-in_err-e-in-Dot
named_node-returns-in_err-e-in-Dot t c =
    halts (expr_named c.args.names.now c.args.scopes.now c.get-in-Dot.result.now) (node_named c.args.names.now c.args.scopes.now c.args.node.now c.args.pos) c.from_residual-in_err-e-in-Dot.result c.in_err-e-in-Dot.field-0.0 c.from_residual-in_err-e-in-Dot.ensures.1 c.in_err-e-in-Dot.ensures (λ f q. rw (node_by c.args.names.now c.args.scopes.now c.args.node.now c.args.pos (Node-F.Dot c.in-Dot.e c.in-Dot.n c.in-Dot.at) (c.in-Dot.is ∙ sym (node.rolls-Dot c.in-Dot.e c.in-Dot.n c.in-Dot.at)), ← c.get-in-Dot.ensures, q) refl)

pub named_node-returns-in_ok-e-in-Dot : goal.named_node-returns-in_ok-e-in-Dot
named_node-returns-in_ok-e-in-Dot t c =
    rw (node_by c.args.names.now c.args.scopes.now c.args.node.now c.args.pos (Node-F.Dot c.in-Dot.e c.in-Dot.n c.in-Dot.at) (c.in-Dot.is ∙ sym (node.rolls-Dot c.in-Dot.e c.in-Dot.n c.in-Dot.at)), ← c.get-in-Dot.ensures, c.in_ok-e-in-Dot.ensures) c.dot.ensures

pub named_node-returns-in_err-e-in-Arrow : goal.named_node-returns-in_err-e-in-Arrow
named_node-returns-in_err-e-in-Arrow t c =
    halts (expr_named c.args.names.now c.args.scopes.now c.get-in-Arrow.result.now) (node_named c.args.names.now c.args.scopes.now c.args.node.now c.args.pos) c.from_residual-in_err-e-in-Arrow.result c.in_err-e-in-Arrow.field-0.0 c.from_residual-in_err-e-in-Arrow.ensures.1 c.in_err-e-in-Arrow.ensures (λ f q. rw (node_by c.args.names.now c.args.scopes.now c.args.node.now c.args.pos (Node-F.Arrow c.in-Arrow.e c.in-Arrow.n c.in-Arrow.at) (c.in-Arrow.is ∙ sym (node.rolls-Arrow c.in-Arrow.e c.in-Arrow.n c.in-Arrow.at)), ← c.get-in-Arrow.ensures, q) refl)

pub named_node-returns-in_ok-e-in-Arrow : goal.named_node-returns-in_ok-e-in-Arrow
named_node-returns-in_ok-e-in-Arrow t c =
    rw (node_by c.args.names.now c.args.scopes.now c.args.node.now c.args.pos (Node-F.Arrow c.in-Arrow.e c.in-Arrow.n c.in-Arrow.at) (c.in-Arrow.is ∙ sym (node.rolls-Arrow c.in-Arrow.e c.in-Arrow.n c.in-Arrow.at)), ← c.get-in-Arrow.ensures, c.in_ok-e-in-Arrow.ensures) c.arrow.ensures

pub named_node-returns-in_err-t-in-Cast : goal.named_node-returns-in_err-t-in-Cast
named_node-returns-in_err-t-in-Cast t c =
    halts (type_named c.args.names.now c.in-Cast.t) (node_named c.args.names.now c.args.scopes.now c.args.node.now c.args.pos) c.from_residual-in_err-t-in-Cast.result c.in_err-t-in-Cast.field-0.0 c.from_residual-in_err-t-in-Cast.ensures.1 c.in_err-t-in-Cast.ensures (λ f q. rw (node_by c.args.names.now c.args.scopes.now c.args.node.now c.args.pos (Node-F.Cast c.in-Cast.t c.in-Cast.e) (c.in-Cast.is ∙ sym (node.rolls-Cast c.in-Cast.t c.in-Cast.e)), q) refl)

pub named_node-returns-in_err-e-in-Cast : goal.named_node-returns-in_err-e-in-Cast
named_node-returns-in_err-e-in-Cast t c =
    halts (expr_named c.args.names.now c.args.scopes.now c.get-in-Cast.result.now) (node_named c.args.names.now c.args.scopes.now c.args.node.now c.args.pos) c.from_residual-in_err-e-in-Cast.result c.in_err-e-in-Cast.field-0.0 c.from_residual-in_err-e-in-Cast.ensures.1 c.in_err-e-in-Cast.ensures (λ f q. rw (node_by c.args.names.now c.args.scopes.now c.args.node.now c.args.pos (Node-F.Cast c.in-Cast.t c.in-Cast.e) (c.in-Cast.is ∙ sym (node.rolls-Cast c.in-Cast.t c.in-Cast.e)), c.in_ok-t-in-Cast.ensures, ← c.get-in-Cast.ensures, q) refl)

pub named_node-returns-in_ok-e-in-Cast : goal.named_node-returns-in_ok-e-in-Cast
named_node-returns-in_ok-e-in-Cast t c =
    rw (node_by c.args.names.now c.args.scopes.now c.args.node.now c.args.pos (Node-F.Cast c.in-Cast.t c.in-Cast.e) (c.in-Cast.is ∙ sym (node.rolls-Cast c.in-Cast.t c.in-Cast.e)), c.in_ok-t-in-Cast.ensures, ← c.get-in-Cast.ensures, c.in_ok-e-in-Cast.ensures) refl

pub named_node-returns-in_err-t-in-Trusted : goal.named_node-returns-in_err-t-in-Trusted
named_node-returns-in_err-t-in-Trusted t c =
    halts (type_named c.args.names.now c.in-Trusted.t) (node_named c.args.names.now c.args.scopes.now c.args.node.now c.args.pos) c.from_residual-in_err-t-in-Trusted.result c.in_err-t-in-Trusted.field-0.0 c.from_residual-in_err-t-in-Trusted.ensures.1 c.in_err-t-in-Trusted.ensures (λ f q. rw (trusted c.args.names.now c.args.scopes.now c.args.node.now c.args.pos c.in-Trusted.t c.in-Trusted.e c.in-Trusted.limits c.in-Trusted.is, q) refl)

pub named_node-returns-in_err-e-in-Trusted : goal.named_node-returns-in_err-e-in-Trusted
named_node-returns-in_err-e-in-Trusted t c =
    halts (expr_named c.args.names.now c.args.scopes.now c.get-in-Trusted.result.now) (node_named c.args.names.now c.args.scopes.now c.args.node.now c.args.pos) c.from_residual-in_err-e-in-Trusted.result c.in_err-e-in-Trusted.field-0.0 c.from_residual-in_err-e-in-Trusted.ensures.1 c.in_err-e-in-Trusted.ensures (λ f q. rw (trusted c.args.names.now c.args.scopes.now c.args.node.now c.args.pos c.in-Trusted.t c.in-Trusted.e c.in-Trusted.limits c.in-Trusted.is, c.in_ok-t-in-Trusted.ensures, ← c.get-in-Trusted.ensures, q) refl)

pub named_node-returns-in_err-limits-in-Trusted : goal.named_node-returns-in_err-limits-in-Trusted
named_node-returns-in_err-limits-in-Trusted t c =
    halts (bounds_named c.args.names.now c.args.scopes.now c.in-Trusted.limits) (node_named c.args.names.now c.args.scopes.now c.args.node.now c.args.pos) c.from_residual-in_err-limits-in-Trusted.result c.in_err-limits-in-Trusted.field-0.0 c.from_residual-in_err-limits-in-Trusted.ensures.1 c.in_err-limits-in-Trusted.ensures (λ f q. rw (trusted c.args.names.now c.args.scopes.now c.args.node.now c.args.pos c.in-Trusted.t c.in-Trusted.e c.in-Trusted.limits c.in-Trusted.is, c.in_ok-t-in-Trusted.ensures, ← c.get-in-Trusted.ensures, c.in_ok-e-in-Trusted.ensures, q) refl)

pub named_node-returns-in_ok-limits-in-Trusted : goal.named_node-returns-in_ok-limits-in-Trusted
named_node-returns-in_ok-limits-in-Trusted t c =
    rw (trusted c.args.names.now c.args.scopes.now c.args.node.now c.args.pos c.in-Trusted.t c.in-Trusted.e c.in-Trusted.limits c.in-Trusted.is, c.in_ok-t-in-Trusted.ensures, ← c.get-in-Trusted.ensures, c.in_ok-e-in-Trusted.ensures, c.in_ok-limits-in-Trusted.ensures) refl

pub named_node-returns-in_err-t-in-Tested : goal.named_node-returns-in_err-t-in-Tested
named_node-returns-in_err-t-in-Tested t c =
    halts (type_named c.args.names.now c.in-Tested.t) (node_named c.args.names.now c.args.scopes.now c.args.node.now c.args.pos) c.from_residual-in_err-t-in-Tested.result c.in_err-t-in-Tested.field-0.0 c.from_residual-in_err-t-in-Tested.ensures.1 c.in_err-t-in-Tested.ensures (λ f q. rw (tested c.args.names.now c.args.scopes.now c.args.node.now c.args.pos c.in-Tested.t c.in-Tested.e c.in-Tested.limits c.in-Tested.is, q) refl)

pub named_node-returns-in_err-e-in-Tested : goal.named_node-returns-in_err-e-in-Tested
named_node-returns-in_err-e-in-Tested t c =
    halts (expr_named c.args.names.now c.args.scopes.now c.get-in-Tested.result.now) (node_named c.args.names.now c.args.scopes.now c.args.node.now c.args.pos) c.from_residual-in_err-e-in-Tested.result c.in_err-e-in-Tested.field-0.0 c.from_residual-in_err-e-in-Tested.ensures.1 c.in_err-e-in-Tested.ensures (λ f q. rw (tested c.args.names.now c.args.scopes.now c.args.node.now c.args.pos c.in-Tested.t c.in-Tested.e c.in-Tested.limits c.in-Tested.is, c.in_ok-t-in-Tested.ensures, ← c.get-in-Tested.ensures, q) refl)

pub named_node-returns-in_err-limits-in-Tested : goal.named_node-returns-in_err-limits-in-Tested
named_node-returns-in_err-limits-in-Tested t c =
    halts (bounds_named c.args.names.now c.args.scopes.now c.in-Tested.limits) (node_named c.args.names.now c.args.scopes.now c.args.node.now c.args.pos) c.from_residual-in_err-limits-in-Tested.result c.in_err-limits-in-Tested.field-0.0 c.from_residual-in_err-limits-in-Tested.ensures.1 c.in_err-limits-in-Tested.ensures (λ f q. rw (tested c.args.names.now c.args.scopes.now c.args.node.now c.args.pos c.in-Tested.t c.in-Tested.e c.in-Tested.limits c.in-Tested.is, c.in_ok-t-in-Tested.ensures, ← c.get-in-Tested.ensures, c.in_ok-e-in-Tested.ensures, q) refl)

pub named_node-returns-in_ok-limits-in-Tested : goal.named_node-returns-in_ok-limits-in-Tested
named_node-returns-in_ok-limits-in-Tested t c =
    rw (tested c.args.names.now c.args.scopes.now c.args.node.now c.args.pos c.in-Tested.t c.in-Tested.e c.in-Tested.limits c.in-Tested.is, c.in_ok-t-in-Tested.ensures, ← c.get-in-Tested.ensures, c.in_ok-e-in-Tested.ensures, c.in_ok-limits-in-Tested.ensures) refl

pub named_node-returns-in_err-args-in-Call : goal.named_node-returns-in_err-args-in-Call
named_node-returns-in_err-args-in-Call t c =
    halts (exprs_named c.args.names.now c.args.scopes.now c.as_slice.result.now) (node_named c.args.names.now c.args.scopes.now c.args.node.now c.args.pos) c.from_residual-in_err-args-in-Call.result c.in_err-args-in-Call.field-0.0 c.from_residual-in_err-args-in-Call.ensures.1 c.in_err-args-in-Call.ensures (λ f q. rw (node_by c.args.names.now c.args.scopes.now c.args.node.now c.args.pos (Node-F.Call c.in-Call.n c.in-Call.es) (c.in-Call.is ∙ sym (node.rolls-Call c.in-Call.n c.in-Call.es)), ← c.as_slice.ensures, q) refl)

pub named_node-returns-in_ok-args-in-Call : goal.named_node-returns-in_ok-args-in-Call
named_node-returns-in_ok-args-in-Call t c =
    rw (node_by c.args.names.now c.args.scopes.now c.args.node.now c.args.pos (Node-F.Call c.in-Call.n c.in-Call.es) (c.in-Call.is ∙ sym (node.rolls-Call c.in-Call.n c.in-Call.es)), ← c.as_slice.ensures, c.in_ok-args-in-Call.ensures) c.call.ensures

pub named_node-returns-in_err-t-in-Calloc : goal.named_node-returns-in_err-t-in-Calloc
named_node-returns-in_err-t-in-Calloc t c =
    halts (type_named c.args.names.now c.in-Calloc.t) (node_named c.args.names.now c.args.scopes.now c.args.node.now c.args.pos) c.from_residual-in_err-t-in-Calloc.result c.in_err-t-in-Calloc.field-0.0 c.from_residual-in_err-t-in-Calloc.ensures.1 c.in_err-t-in-Calloc.ensures (λ f q. rw (node_by c.args.names.now c.args.scopes.now c.args.node.now c.args.pos (Node-F.Calloc c.in-Calloc.t c.in-Calloc.e c.in-Calloc.u) (c.in-Calloc.is ∙ sym (node.rolls-Calloc c.in-Calloc.t c.in-Calloc.e c.in-Calloc.u)), q) refl)

pub named_node-returns-in_err-e-in-Calloc : goal.named_node-returns-in_err-e-in-Calloc
named_node-returns-in_err-e-in-Calloc t c =
    halts (expr_named c.args.names.now c.args.scopes.now c.get-in-Calloc.result.now) (node_named c.args.names.now c.args.scopes.now c.args.node.now c.args.pos) c.from_residual-in_err-e-in-Calloc.result c.in_err-e-in-Calloc.field-0.0 c.from_residual-in_err-e-in-Calloc.ensures.1 c.in_err-e-in-Calloc.ensures (λ f q. rw (node_by c.args.names.now c.args.scopes.now c.args.node.now c.args.pos (Node-F.Calloc c.in-Calloc.t c.in-Calloc.e c.in-Calloc.u) (c.in-Calloc.is ∙ sym (node.rolls-Calloc c.in-Calloc.t c.in-Calloc.e c.in-Calloc.u)), c.in_ok-t-in-Calloc.ensures, ← c.get-in-Calloc.ensures, q) refl)

pub named_node-returns-in_ok-e-in-Calloc : goal.named_node-returns-in_ok-e-in-Calloc
named_node-returns-in_ok-e-in-Calloc t c =
    rw (node_by c.args.names.now c.args.scopes.now c.args.node.now c.args.pos (Node-F.Calloc c.in-Calloc.t c.in-Calloc.e c.in-Calloc.u) (c.in-Calloc.is ∙ sym (node.rolls-Calloc c.in-Calloc.t c.in-Calloc.e c.in-Calloc.u)), c.in_ok-t-in-Calloc.ensures, ← c.get-in-Calloc.ensures, c.in_ok-e-in-Calloc.ensures) c.allocation.ensures

pub named_expr-returns-in_err-node : goal.named_expr-returns-in_err-node
named_expr-returns-in_err-node t c =
    halts (node_named c.args.names.now c.args.scopes.now c.args.e.now.node c.args.e.now.pos) (expr_named c.args.names.now c.args.scopes.now c.args.e.now) c.from_residual.result c.in_err-node.field-0.0 c.from_residual.ensures.1 c.in_err-node.ensures (λ f q. rw (expr_by c.args.names.now c.args.scopes.now c.args.e.now, q) refl)

pub named_expr-returns : goal.named_expr-returns
named_expr-returns t c =
    rw (expr_by c.args.names.now c.args.scopes.now c.args.e.now, c.in_ok-node.ensures) refl

pub named_bounds-returns-in_err-named-in-Some : goal.named_bounds-returns-in_err-named-in-Some
named_bounds-returns-in_err-named-in-Some t c =
    halts (limits_named c.args.names.now c.args.scopes.now c.get.result.now) (bounds_named c.args.names.now c.args.scopes.now c.args.bounds.now) c.from_residual.result c.in_err-named-in-Some.field-0.0 c.from_residual.ensures.1 c.in_err-named-in-Some.ensures (λ f q. rw (c.in-Some.is, ← c.get.ensures, q) refl)

pub named_bounds-returns-in-None : goal.named_bounds-returns-in-None
named_bounds-returns-in-None t c =
    ap (bounds_named c.args.names.now c.args.scopes.now) c.in-None.is

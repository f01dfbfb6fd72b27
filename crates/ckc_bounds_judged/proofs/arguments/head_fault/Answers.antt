use Rattle.std.proofs.Common.{◌∙◌, ap}
use Rattle.ckc_bounds_extents.specs.ckc_bounds_views.specs.Parts.{capped}
use Rattle.ckc_bounds_judged.proofs.Passing.{passed}
use Rattle.ckc_bounds_judged.proofs.arguments.head_fault.Goals as goal

pub loop-e-preserved : goal.loop-e-preserved
loop-e-preserved c =
    passed c.args.frame.now c.args.head.now c.args.es.now _ c.loop-e.e-index c.loop-e.n c.loop-e.value c.loop-e.fresh _ _ _ c.e-item.result _ _ c.loop-e-test.true c.e-item.is
    c.in_ok-passes.ensures c.if-not-passes.false c.saturating_add-n.ensures (c.saturating_add-value.ensures ∙ ap (capped c.loop-e.value) c.values.ensures) c.in_ok-fresh.ensures c.loop-e.invariant

use Rattle.std.proofs.Common.{sym, ◌∙◌}
use Rattle.ckc_resolve.specs.Main.{is_main}
use Rattle.ckc_resolve.proofs.Search.{any_here, any_behind, any_nowhere}
use Rattle.ckc_resolve.proofs.mains.has_main.Goals as goal

pub returns-then-is_main : goal.returns-then-is_main
returns-then-is_main c =
    any_here is_main c.args.items.now c.loop-item.item-index c.loop-item.invariant c.item-item.result c.loop-item-test.true c.item-item.is (sym c.is_main.ensures ∙ c.if-is_main.true)

pub loop-item-preserved : goal.loop-item-preserved
loop-item-preserved c =
    any_behind is_main c.args.items.now c.loop-item.item-index c.loop-item.invariant c.item-item.result c.loop-item-test.true c.item-item.is (sym c.is_main.ensures ∙ c.if-is_main.false)

pub returns : goal.returns
returns c = any_nowhere is_main c.args.items.now c.loop-item.item-index c.loop-item.invariant c.loop-item-test.false

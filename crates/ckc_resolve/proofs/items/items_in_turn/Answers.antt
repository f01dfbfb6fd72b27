use Rattle.ckc_resolve.specs.Items.{item_in_turn, items_named}
use Rattle.ckc_base.proofs.Sequels.{begin, turn_stops, turn_done, turn_end}
use Rattle.ckc_resolve.proofs.items.items_in_turn.Goals as goal

pub loop-item-init : goal.loop-item-init
loop-item-init c = begin (items_named c.args.names.now c.args.all.now c.args.all.now c.args.before.now) _ c.new-out.ensures

pub returns-in_err-named : goal.returns-in_err-named
returns-in_err-named c =
    turn_stops (item_in_turn c.args.names.now c.args.all.now) c.args.all.now c.loop-item.item-index c.loop-item.before _ _ c.loop-item.invariant c.item-item.result c.loop-item-test.true c.item-item.is _ _ c.from_residual.result c.in_err-named.field-0.0 c.from_residual.ensures.1 c.in_err-named.ensures

pub loop-item-preserved : goal.loop-item-preserved
loop-item-preserved c =
    turn_done (item_in_turn c.args.names.now c.args.all.now) c.args.all.now c.loop-item.item-index c.loop-item.before _ _ c.loop-item.invariant c.item-item.result c.in_ok-named.named _ _ c.loop-item-test.true c.item-item.is c.in_ok-named.ensures c.in_ok-push.ensures.ok

pub returns : goal.returns
returns c = turn_end (item_in_turn c.args.names.now c.args.all.now) c.args.all.now c.loop-item.item-index _ _ _ c.loop-item.invariant c.loop-item-test.false

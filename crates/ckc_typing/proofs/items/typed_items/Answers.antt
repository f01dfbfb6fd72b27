use Rattle.std.proofs.lemmas.Result.{err_from_is_err_and}
use Rattle.ckc_base.specs.declared.arithmetic.Mode.TheVariants as mode
use Rattle.ckc_typed.specs.Texts.{item_typed, items_typed}
use Rattle.ckc_base.proofs.Ends.{stops}
use Rattle.ckc_base.proofs.Turns.{begin}
use Rattle.ckc_typing.proofs.ItemTurns.{item_fault, item_done, items_end}
use Rattle.ckc_typing.proofs.items.typed_items.Goals as goal

pub loop-item-init : goal.loop-item-init
loop-item-init c = begin (items_typed c.args.globals.now mode.Unchecked c.args.items.now) _ c.new-all.ensures

pub returns-in_err-typed : goal.returns-in_err-typed
returns-in_err-typed c =
    let p = err_from_is_err_and c.from_residual.result c.from_residual.ensures.1 in
    stops (item_typed c.args.globals.now c.loop-item.pragma c.item-item.result) (items_typed c.args.globals.now mode.Unchecked c.args.items.now) c.from_residual.result p.0 c.in_err-typed.field-0.0 p.1 p.2 c.in_err-typed.ensures
    (item_fault c.args.globals.now c.loop-item.pragma c.args.items.now c.loop-item.item-index _ _ c.loop-item.invariant c.item-item.result c.loop-item-test.true c.item-item.is)

pub loop-item-preserved : goal.loop-item-preserved
loop-item-preserved c =
    item_done c.args.globals.now c.loop-item.pragma c.args.items.now c.loop-item.item-index _ _ c.loop-item.invariant c.item-item.result c.in_ok-typed.typed _ _ c.loop-item-test.true c.item-item.is c.in_ok-typed.ensures c.in_ok-push.ensures.ok c.pragma_after-pragma.ensures

pub returns : goal.returns
returns c = items_end c.args.globals.now c.loop-item.pragma c.args.items.now c.loop-item.item-index _ _ c.loop-item.invariant c.loop-item-test.false

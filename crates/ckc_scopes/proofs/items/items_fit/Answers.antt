use Rattle.ckc_base.specs.declared.arithmetic.Mode.TheVariants.{Unchecked}
use Rattle.ckc_typed.specs.Walk.{spots_of_items}
use Rattle.ckc_scopes.proofs.Verdicts.{items_stop, items_go}
use Rattle.ckc_scopes.proofs.items.items_fit.Goals as goal

pub returns-in_err-item_fits : goal.returns-in_err-item_fits
returns-in_err-item_fits c =
    let items = c.args.items.now in
    items_stop items items (spots_of_items Unchecked items) c.loop-item.pragma c.loop-item.item-index c.item-item.result c.item_fits.result _ _
    c.loop-item-test.true c.item-item.is c.loop-item.invariant c.from_residual.ensures.1 c.in_err-item_fits.was c.item_fits.ensures

pub loop-item-preserved : goal.loop-item-preserved
loop-item-preserved c =
    let items = c.args.items.now in
    items_go items items (spots_of_items Unchecked items) c.loop-item.pragma c.loop-item.item-index c.item-item.result c.item_fits.result c.pragma_after-pragma.result
    c.loop-item-test.true c.item-item.is c.loop-item.invariant c.in_ok-item_fits.was c.item_fits.ensures c.pragma_after-pragma.ensures

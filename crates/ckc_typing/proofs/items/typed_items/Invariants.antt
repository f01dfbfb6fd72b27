use Rattle.std.proofs.Common.{◌≡◌, drop}
use Rattle.ckc_base.specs.declared.arithmetic.Mode.TheVariants as mode
use Rattle.ckc_typed.specs.Texts.{items_typed}
use Rattle.ckc_base.proofs.Turns.{ahead}
use Rattle.ckc_typing.proofs.items.typed_items.Given as goal

abbrev pub invariant-loop-item : goal.invariant-loop-item
invariant-loop-item l = items_typed l.globals mode.Unchecked l.items ≡ ahead l.all (items_typed l.globals l.pragma (drop l.item-index l.items))

use Rattle.std.proofs.Common.{◌≡◌, take}
use Rattle.std.specs.List.{flat_map}
use Rattle.ckc_typed.specs.Statics.{strings_of_item}
use Rattle.ckc_typing_statics.proofs.strings.strings_of.Given as goal

abbrev pub invariant-loop-item : goal.invariant-loop-item
invariant-loop-item l = l.all ≡ flat_map strings_of_item (take l.item-index l.items)

use Rattle.std.proofs.Common.{◌≡◌, ◌++◌, take}
use Rattle.std.specs.List.{flat_map}
use Rattle.ckc_typed.specs.Statics.{objects_of_item}
use Rattle.ckc_typing_statics.proofs.statics.add_objects.Given as goal

abbrev pub invariant-loop-item : goal.invariant-loop-item
invariant-loop-item l = l.all ≡ l.initial.all ++ flat_map (objects_of_item l.structs) (take l.item-index l.items)

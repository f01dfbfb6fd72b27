use Rattle.std.proofs.Common.{◌≡◌, take}
use Rattle.std.specs.List.{flat_map}
use Rattle.ckc_typed.specs.Environment.{objects_declared_by}
use Rattle.ckc_typing_environment.proofs.environment.objects_of.Given as goal

-- the objects of the items so far
abbrev pub invariant-loop-item : goal.invariant-loop-item
invariant-loop-item l = l.all ≡ flat_map objects_declared_by (take l.item-index l.items)

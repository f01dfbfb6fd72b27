use Rattle.std.proofs.Common.{◌≡◌, ◌++◌, drop}
use Rattle.std.specs.List.{flat_map}
use Rattle.ckc_build_elaborate.specs.Objects.{run_in}
use Rattle.ckc_build_elaborate.proofs.objects.runs.Given as goal

abbrev pub invariant-loop-item : goal.invariant-loop-item
invariant-loop-item l = l.all ++ flat_map run_in (drop l.item-index l.items) ≡ flat_map run_in l.items

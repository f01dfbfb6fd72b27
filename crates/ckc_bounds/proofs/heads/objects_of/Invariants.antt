use Rattle.std.proofs.Common.{◌≡◌, ◌++◌, drop}
use Rattle.ckc_bounds.specs.Declarations.{objects_of}
use Rattle.ckc_bounds.proofs.heads.objects_of.Given as goal

abbrev pub invariant-loop-item : goal.invariant-loop-item
invariant-loop-item l = objects_of l.frame l.items ≡ l.all ++ objects_of l.frame (drop l.item-index l.items)

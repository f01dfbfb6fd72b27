use Rattle.std.proofs.Common.{◌≡◌, ◌++◌, drop}
use Rattle.ckc_build_elaborate.specs.Lists.{beside}
use Rattle.ckc_build_elaborate.specs.Objects.{object_elaborated}
use Rattle.ckc_build_elaborate.proofs.objects.objects.Given as goal

abbrev pub invariant-loop-i : goal.invariant-loop-i
invariant-loop-i l = l.all ++ beside (object_elaborated l.typed.layout) (drop l.i l.runs) (drop l.i l.statics) ≡ beside (object_elaborated l.typed.layout) l.runs l.statics

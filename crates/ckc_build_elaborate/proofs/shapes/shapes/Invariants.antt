use Rattle.std.proofs.Common.{◌≡◌, ◌++◌, drop}
use Rattle.ckc_build_elaborate.specs.Lists.{numbered}
use Rattle.ckc_build_elaborate.specs.Shapes.{shape_of, one}
use Rattle.ckc_build_elaborate.proofs.shapes.shapes.Given as goal

abbrev pub invariant-loop-s : goal.invariant-loop-s
invariant-loop-s l = l.all ++ numbered (shape_of l.structs) one l.tag (drop l.s-index l.shapes) ≡ numbered (shape_of l.structs) one 0 l.shapes

use Rattle.std.proofs.Common.{◌≡◌, ◌++◌, drop}
use Rattle.std.specs.List.{flat_map}
use Rattle.ckc_build_elaborate.specs.Shapes.{run_of}
use Rattle.ckc_build_elaborate.proofs.shapes.runs.Given as goal

abbrev pub invariant-loop-m : goal.invariant-loop-m
invariant-loop-m l =
    l.all ++ flat_map (run_of l.structs l.tag l.members) (drop l.m-index l.members) ≡ flat_map (run_of l.structs l.tag l.members) l.members

use Rattle.std.proofs.Common.{◌≡◌, ◌++◌, drop}
use Rattle.std.specs.Prelude.{flat_map}
use Rattle.ckc_bounds.specs.Frames.{name_seen}
use Rattle.ckc_bounds.proofs.bodies.scope_of.Given as goal

abbrev pub invariant-loop-d : goal.invariant-loop-d
invariant-loop-d l = flat_map name_seen l.params ≡ l.seen ++ flat_map name_seen (drop l.d-index l.params)

use Rattle.std.proofs.Common.{◌≡◌, map, take}
use Rattle.ckc_passes_copies.specs.Origins.{origin}
use Rattle.ckc_passes_copies.specs.code.Tables.{writes_in}
use Rattle.ckc_passes_copies.proofs.origins.origins.Given as goal

abbrev pub invariant-loop-r : goal.invariant-loop-r
invariant-loop-r l = l.made.items ≡ map (origin (writes_in l.table)) (take l.r-index l.rs)

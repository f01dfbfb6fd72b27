use Rattle.std.proofs.Common.{◌≡◌, ◌++◌, map, drop}
use Rattle.ckc_bounds_points.specs.Flow.{state}
use Rattle.ckc_bounds_stores.specs.Stores.{numbered, stores_of}
use Rattle.ckc_bounds_stores.specs.code.Stores.{placed}
use Rattle.ckc_bounds_stores.proofs.placed.numbered.Given as goal

-- the assignments so far, and those of the statements that are left, are all
abbrev pub invariant-loop-s : goal.invariant-loop-s
invariant-loop-s l =
    map placed l.ps.items ++ numbered l.frame (state l.at) l.from.value l.from.fresh (stores_of (drop l.s-index l.ss))
    ≡ numbered l.frame (state l.at) 0 l.first_fresh (stores_of l.ss)

use Rattle.std.proofs.Common.{◌≡◌, map, drop, None}
use Rattle.ckc_bounds_points.specs.Flow.{state}
use Rattle.ckc_bounds_stores.specs.Stores.{local_fault, earliest}
use Rattle.ckc_bounds_stores.specs.code.Stores.{placed}
use Rattle.ckc_bounds_stores.proofs.faults.first_of_locals.Given as goal

-- the earliest so far, and the locals that are left, give what all give
abbrev pub invariant-loop-k : goal.invariant-loop-k
invariant-loop-k l =
    earliest l.first (map (local_fault l.frame (map placed l.ps) (state l.at)) (drop l.k-index l.scope))
    ≡ earliest None (map (local_fault l.frame (map placed l.ps) (state l.at)) l.scope)

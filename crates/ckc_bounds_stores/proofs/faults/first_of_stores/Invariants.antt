use Rattle.std.proofs.Common.{◌≡◌, map, drop}
use Rattle.ckc_bounds_points.specs.Flow.{state}
use Rattle.ckc_bounds_stores.specs.Stores.{store_fault, earliest}
use Rattle.ckc_bounds_stores.specs.code.Stores.{placed}
use Rattle.ckc_bounds_stores.proofs.faults.first_of_stores.Given as goal

-- the earliest so far, and the assignments that are left, give what all give
abbrev pub invariant-loop-p : goal.invariant-loop-p
invariant-loop-p l =
    earliest l.first (map (store_fault l.frame l.bounds (map placed l.ps) (state l.at)) (map placed (drop l.p-index l.ps)))
    ≡ earliest l.fn.found (map (store_fault l.frame l.bounds (map placed l.ps) (state l.at)) (map placed l.ps))

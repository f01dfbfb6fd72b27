use Rattle.std.proofs.Common.{◌≡◌, map, drop}
use Rattle.ckc_bounds_points.specs.Shown.{known}
use Rattle.ckc_bounds_points.specs.Flow.{state}
use Rattle.ckc_bounds_stores.specs.Stores.{after}
use Rattle.ckc_bounds_stores.specs.code.Stores.{placed}
use Rattle.ckc_bounds_stores.proofs.stores.assign_all.Given as goal

-- what is left leads to the whole
abbrev pub invariant-loop-p : goal.invariant-loop-p
invariant-loop-p l =
    after l.frame (known l.before) (map placed (drop l.p-index l.ps)) (state l.at)
    ≡ after l.frame (known l.before) (map placed l.ps) (state l.fn.at)

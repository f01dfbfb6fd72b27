use Rattle.std.proofs.Common.{◌≡◌, map, drop}
use Rattle.std.specs.List.{find}
use Rattle.ckc_bounds_stores.specs.Stores.{touches}
use Rattle.ckc_bounds_stores.specs.code.Stores.{placed}
use Rattle.ckc_bounds_stores.proofs.faults.first_touching.Given as goal

-- what is left gives what the whole gives
abbrev pub invariant-loop-p : goal.invariant-loop-p
invariant-loop-p l = find (touches l.bounds) (map placed l.ps) ≡ find (touches l.bounds) (map placed (drop l.p-index l.ps))

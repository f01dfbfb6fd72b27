use Rattle.std.proofs.Common.{◌≡◌, map, drop}
use Rattle.std.specs.List.{find}
use Rattle.ckc_bounds_stores.specs.Stores.{assigns_local}
use Rattle.ckc_bounds_stores.specs.code.Stores.{placed}
use Rattle.ckc_bounds_stores.proofs.faults.assignment_to.Given as goal

-- what is left gives what the whole gives
abbrev pub invariant-loop-p : goal.invariant-loop-p
invariant-loop-p l = find (assigns_local l.k) (map placed l.ps) ≡ find (assigns_local l.k) (map placed (drop l.p-index l.ps))

use Rattle.std.proofs.Common.{◌≡◌, ◌++◌, map, drop}
use Rattle.ckc_bounds_stores.specs.Stores.{members_assigned}
use Rattle.ckc_bounds_stores.specs.code.Stores.{placed}
use Rattle.ckc_bounds_stores.proofs.faults.members_assigned.Given as goal

-- those so far, and those of the assignments that are left, are all
abbrev pub invariant-loop-p : goal.invariant-loop-p
invariant-loop-p l = l.all.items ++ members_assigned l.frame (map placed (drop l.p-index l.ps)) ≡ members_assigned l.frame (map placed l.ps)

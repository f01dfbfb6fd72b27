use Rattle.ckc_assign.specs.code.Homes.{AreFirst}
use Rattle.ckc_assign.proofs.homes.first_homes.Given as goal

abbrev pub invariant-loop-r : goal.invariant-loop-r
invariant-loop-r l = AreFirst l.ranges l.r l.homes.items

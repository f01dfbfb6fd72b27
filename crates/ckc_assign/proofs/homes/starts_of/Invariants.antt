use Rattle.ckc_assign.specs.code.Homes.{HasStarts}
use Rattle.ckc_assign.proofs.homes.starts_of.Given as goal

abbrev pub invariant-loop-r : goal.invariant-loop-r
invariant-loop-r l = HasStarts l.ranges l.r l.starts.items

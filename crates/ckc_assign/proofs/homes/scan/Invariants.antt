use Rattle.ckc_assign.specs.code.Homes.{HasGiven}
use Rattle.ckc_assign.proofs.homes.scan.Given as goal

abbrev pub invariant-loop-start : goal.invariant-loop-start
invariant-loop-start l = HasGiven l.ranges l.order l.start-index l.holders l.homes

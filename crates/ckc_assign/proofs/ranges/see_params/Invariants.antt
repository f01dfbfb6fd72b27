use Rattle.std.proofs.Common.{◌<◌}
use Rattle.ckc_assign.specs.code.Ranges.{Sees}
use Rattle.ckc_assign.proofs.ranges.see_params.Given as goal

abbrev pub invariant-loop-r : goal.invariant-loop-r
invariant-loop-r l = Sees (λ q. q < l.r) 1 l.initial.ranges l.ranges

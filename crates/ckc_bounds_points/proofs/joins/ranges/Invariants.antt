use Rattle.std.proofs.Common.{◌≡◌, ◌+◌, drop}
use Rattle.ckc_bounds_points.specs.Shown.{known}
use Rattle.ckc_bounds_points.specs.Flow.{ranges_from, ranges}
use Rattle.ckc_bounds_points.proofs.joins.ranges.Given as goal

-- the ranges so far, and those of the locals that are left, are all
abbrev pub invariant-loop-local : goal.invariant-loop-local
invariant-loop-local l =
    (l.x ≡ l.local-index + 1) × (ranges_from l.x (drop l.local-index l.frame.locals) (known l.facts) ≡ ranges l.frame)

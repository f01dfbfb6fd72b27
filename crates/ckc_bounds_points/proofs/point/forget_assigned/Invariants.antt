use Rattle.std.proofs.Common.{◌≡◌, drop}
use Rattle.ckc_bounds_points.specs.Flow.{state, less}
use Rattle.ckc_bounds_points.proofs.point.forget_assigned.Given as goal

-- what is left to be forgotten leads to the whole
abbrev pub invariant-loop-k : goal.invariant-loop-k
invariant-loop-k l = less l.frame (drop l.k-index l.ks) (state l.at) ≡ less l.frame l.ks (state l.fn.at)

use Rattle.std.proofs.Common.{◌≡◌, drop}
use Rattle.ckc_bounds_views.specs.ckc_bounds_points.specs.Shown.{known}
use Rattle.ckc_bounds_views.specs.Fresh.{with_types}
use Rattle.ckc_bounds_extents.proofs.fresh.add_types.Given as goal

-- the ranges so far, and those of the types that are left, are all
abbrev pub invariant-loop-t : goal.invariant-loop-t
invariant-loop-t l =
    with_types l.x (drop l.t-index l.types) (known l.facts) ≡ with_types l.first l.types (known l.fn.facts)

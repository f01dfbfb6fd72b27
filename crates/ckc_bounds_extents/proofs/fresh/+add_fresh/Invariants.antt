use Rattle.std.proofs.Common.{◌≡◌, ◌++◌, map, drop}
use Rattle.ckc_bounds_views.specs.ckc_bounds_points.specs.Flow.{state}
use Rattle.ckc_bounds_views.specs.Fresh.{all_fresh}
use Rattle.ckc_bounds_views.specs.Views.{view}
use Rattle.ckc_bounds_extents.proofs.fresh.+add_fresh.Given as goal

-- what has been added, and what is left to be added, is all
abbrev pub invariant-add_of_all-loop-e : goal.invariant-add_of_all-loop-e
invariant-add_of_all-loop-e l =
    l.all ++ all_fresh (map (view l.frame) (drop l.e-index l.es)) (state l.at)
    ≡ l.fn.all ++ all_fresh (map (view l.frame) l.es) (state l.at)

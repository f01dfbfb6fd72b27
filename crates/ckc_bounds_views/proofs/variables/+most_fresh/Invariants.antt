use Rattle.std.proofs.Common.{◌≡◌, map, drop}
use Rattle.ckc_bounds_views.specs.Fresh.{most_after}
use Rattle.ckc_bounds_views.specs.Views.{view}
use Rattle.ckc_bounds_views.proofs.variables.+most_fresh.Given as goal

-- the count so far, and those of the expressions that are left, are all
abbrev pub invariant-most_of_all-loop-e : goal.invariant-most_of_all-loop-e
invariant-most_of_all-loop-e l =
    most_after l.n (map (view l.frame) (drop l.e-index l.es)) ≡ most_after 0 (map (view l.frame) l.es)

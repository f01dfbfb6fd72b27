use Rattle.std.proofs.Common.{◌≡◌, map, drop}
use Rattle.ckc_bounds_views.specs.Places.{values_after}
use Rattle.ckc_bounds_views.specs.Views.{view}
use Rattle.ckc_bounds_views.proofs.places.+values.Given as goal

-- the values so far, and those of the expressions that are left, are all
abbrev pub invariant-values_of_all-loop-e : goal.invariant-values_of_all-loop-e
invariant-values_of_all-loop-e l =
    values_after l.n (map (view l.frame) (drop l.e-index l.es)) ≡ values_after 0 (map (view l.frame) l.es)

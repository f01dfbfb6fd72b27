use Rattle.std.proofs.Common.{◌≡◌, ◌++◌, map, drop}
use Rattle.ckc_bounds_points.specs.Shown.{known}
use Rattle.ckc_bounds_views.specs.Arguments.{bases_by}
use Rattle.ckc_bounds_views.specs.Views.{view}
use Rattle.ckc_bounds_views.proofs.arguments.bases_by.Given as goal

-- what has been found, and what is left to be found, is all
abbrev pub invariant-loop-e : goal.invariant-loop-e
invariant-loop-e l =
    l.all ++ bases_by l.params l.n l.at (known l.facts) (map (view l.frame) (drop l.e-index l.es))
    ≡ bases_by l.params 0 l.first (known l.facts) (map (view l.frame) l.es)

use Rattle.std.proofs.Common.{◌≡◌, map, drop}
use Rattle.ckc_bounds_extents.specs.ckc_bounds_points.specs.Flow.{state}
use Rattle.ckc_bounds_extents.specs.ckc_bounds_views.specs.Judged.{all_judged}
use Rattle.ckc_bounds_extents.specs.ckc_bounds_views.specs.Views.{view}
use Rattle.ckc_base.proofs.Turns.{ahead}
use Rattle.ckc_bounds_judged.proofs.expressions.+judge_as.Given as goal

-- what is judged, and what is left to be judged, is all
abbrev pub invariant-judge_all-loop-e : goal.invariant-judge_all-loop-e
invariant-judge_all-loop-e l =
    all_judged (map (view l.frame) l.es) l.first_fresh (state l.at)
    ≡ ahead l.all (all_judged (map (view l.frame) (drop l.e-index l.es)) l.next (state l.at))

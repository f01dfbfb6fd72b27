use Rattle.std.proofs.Common.{◌≡◌, map, drop}
use Rattle.ckc_bounds_extents.specs.ckc_bounds_points.specs.Flow.{state}
use Rattle.ckc_bounds_extents.specs.ckc_bounds_views.specs.Arguments.{bases_by, variables_by}
use Rattle.ckc_bounds_extents.specs.ckc_bounds_views.specs.Judged.{arguments_fault}
use Rattle.ckc_bounds_extents.specs.ckc_bounds_views.specs.Views.{view}
use Rattle.ckc_bounds_judged.proofs.arguments.head_fault.Given as goal

-- what is left gives what the whole gives
abbrev pub invariant-loop-e : goal.invariant-loop-e
invariant-loop-e l =
    arguments_fault (λ facts. bases_by l.head.params 0 0 facts (map (view l.frame) l.es)) (λ facts. variables_by l.head.params 0 facts (map (view l.frame) l.es)) l.head l.n (map (view l.frame) (drop l.e-index l.es)) l.value l.fresh (state l.at)
    ≡ arguments_fault (λ facts. bases_by l.head.params 0 0 facts (map (view l.frame) l.es)) (λ facts. variables_by l.head.params 0 facts (map (view l.frame) l.es)) l.head 0 (map (view l.frame) l.es) 0 l.first_fresh (state l.at)

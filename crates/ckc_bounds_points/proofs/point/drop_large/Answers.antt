use Rattle.std.proofs.lemmas.List.Elements.{All-filter, All-same}
use Rattle.ckc_linear.specs.Facts.{IsInRange}
use Rattle.ckc_bounds_points.specs.Flow.{stays_small}
use Rattle.ckc_bounds_points.proofs.point.drop_large.Goals as goal

pub invariant_of-facts-clause-in_range : goal.invariant_of-facts-clause-in_range
invariant_of-facts-clause-in_range c =
    All-same (IsInRange c.args.facts.now.vars) _ _ c.replace_with.ensures
    (All-filter (stays_small c.args.x _) (IsInRange c.args.facts.now.vars) c.args.facts.now.list c.args.facts.now.in_range)

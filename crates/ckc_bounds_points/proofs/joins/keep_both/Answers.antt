use Rattle.std.proofs.lemmas.List.Elements.{All-filter, All-same}
use Rattle.std.specs.List.{list_any}
use Rattle.ckc_linear.specs.Facts.{IsInRange}
use Rattle.ckc_bounds_points.specs.Flow.{same_fact}
use Rattle.ckc_bounds_points.proofs.joins.keep_both.Goals as goal

pub invariant_of-facts-clause-in_range : goal.invariant_of-facts-clause-in_range
invariant_of-facts-clause-in_range c =
    All-same (IsInRange c.args.facts.now.vars) _ _ c.replace_with.ensures
    (All-filter (λ f. list_any (same_fact f) c.args.other.now) (IsInRange c.args.facts.now.vars) c.args.facts.now.list c.args.facts.now.in_range)

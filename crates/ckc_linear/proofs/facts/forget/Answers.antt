use Rattle.std.proofs.Common.{not}
use Rattle.std.proofs.lemmas.List.Elements.{All-filter, All-same}
use Rattle.ckc_linear.specs.Facts.{IsInRange, names}
use Rattle.ckc_linear.proofs.facts.forget.Goals as goal

pub invariant_of-facts-clause-in_range : goal.invariant_of-facts-clause-in_range
invariant_of-facts-clause-in_range c =
    All-same (IsInRange c.args.facts.now.vars) _ _ c.replace_with.ensures
    (All-filter (λ f. not (names c.args.x f)) (IsInRange c.args.facts.now.vars) c.args.facts.now.list c.args.facts.now.in_range)

use Rattle.std.proofs.Common.{ap, ◌∙◌, map}
use Rattle.std.proofs.lemmas.List.Elements.{All-same}
use Rattle.std.proofs.lemmas.Int.{to_z-of_z}
use Rattle.ckc_linear.specs.Facts.{IsInRange, shifted}
use Rattle.ckc_linear.proofs.InRange.{shifted_in_range}
use Rattle.ckc_linear.proofs.facts.shift.Goals as goal

pub invariant_of-facts-clause-in_range : goal.invariant_of-facts-clause-in_range
invariant_of-facts-clause-in_range c =
    let x = c.args.x in
    let facts = c.args.facts.now in
    let is = c.replace_with.ensures ∙ ap (λ by. map (shifted x by) facts.list) (to_z-of_z _ c.args.c c.ranges.c) in
    All-same (IsInRange facts.vars) _ (map (shifted x c.args.c) facts.list) is (shifted_in_range facts.vars x c.args.c facts.list facts.in_range c.requires)

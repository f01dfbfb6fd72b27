use Rattle.ckc_linear.proofs.InRange.{added_in_range}
use Rattle.ckc_linear.proofs.facts.add.Goals as goal

pub invariant_of-facts-clause-in_range : goal.invariant_of-facts-clause-in_range
invariant_of-facts-clause-in_range c =
    let facts = c.args.facts.now in
    added_in_range facts.vars c.push.result facts.list _ c.args.f facts.in_range c.requires c.push.ensures.ok c.push.ensures.err

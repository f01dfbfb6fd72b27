use Rattle.std.proofs.Common.{◌∷◌}
use Rattle.ckc_parser_grammar.specs.code.Trees.{joined}
use Rattle.ckc_parser_values.proofs.Chains.{next_joined}
use Rattle.ckc_parser_values.proofs.joins.join_from.Goals as goal

pub steps-preserved : goal.steps-preserved
steps-preserved c =
    next_joined c.steps.operand c.in_ok-operand.operand (joined c.args.first (c.args.step ∷ c.args.steps)) c.steps.last c.in-Some.next c.steps.rest c.pop.new.self c.joins_first.result c.tightness.result
    c.if-joins_first.true c.joins_first.ensures c.tightness.ensures c.in_ok-operand.ensures c.in-Some.ensures c.steps.invariant

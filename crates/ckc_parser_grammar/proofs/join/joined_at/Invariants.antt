use Rattle.std.proofs.Common.{◌≡◌}
use Rattle.ckc_parser_grammar.specs.code.Trees.{attached, joined_at}
use Rattle.ckc_parser_grammar.proofs.join.joined_at.Given as goal

-- the steps that are left go on with what is joined so far
abbrev pub invariant-steps : goal.invariant-steps
invariant-steps l = attached l.tightness l.operand l.links l.step-iterator.rest.items ≡ joined_at l.tightness l.fn.chain.first l.fn.chain.steps

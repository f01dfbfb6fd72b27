use Rattle.std.proofs.Common.{◌≡◌}
use Rattle.ckc_parser_grammar.specs.code.Trees.{joined_to}
use Rattle.ckc_parser_grammar.proofs.join.joined.Given as goal

-- the passes that are left give what all passes give
abbrev pub invariant-passes : goal.invariant-passes
invariant-passes l = joined_to l.tightness (l.chain.first, l.chain.steps) ≡ joined_to 10 (l.fn.first, l.fn.steps)

abbrev pub decreases-passes : goal.decreases-passes
decreases-passes l = l.tightness

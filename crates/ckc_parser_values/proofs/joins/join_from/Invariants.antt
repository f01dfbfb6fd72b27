use Rattle.std.proofs.Common.{◌≡◌, ◌∷◌, length}
use Rattle.ckc_parser_grammar.specs.code.Trees.{joined}
use Rattle.ckc_parser_values.proofs.joins.join_from.Given as goal

-- what is left to join makes the whole
abbrev pub invariant-steps : goal.invariant-steps
invariant-steps l = joined l.fn.first (l.fn.step ∷ l.fn.steps) ≡ joined l.operand (l.last ∷ l.rest)

abbrev pub decreases-steps : goal.decreases-steps
decreases-steps l = length l.rest

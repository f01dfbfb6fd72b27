use Rattle.std.proofs.Common.{◌≡◌, ◌++◌, length}
use Rattle.ckc_parser_values.proofs.joins.stack_of.Given as goal

abbrev pub invariant-steps : goal.invariant-steps
invariant-steps l = l.fn.steps ≡ l.rest ++ l.all

abbrev pub decreases-steps : goal.decreases-steps
decreases-steps l = length l.rest

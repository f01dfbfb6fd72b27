use Rattle.std.proofs.Common.{◌≡◌, length}
use Rattle.ckc_parser_grammar.specs.code.Trees.{starred}
use Rattle.ckc_parser_values.proofs.makes.starred.Given as goal

abbrev pub invariant-stars : goal.invariant-stars
invariant-stars l = starred l.whole l.rest ≡ starred l.fn.base l.fn.stars

abbrev pub decreases-stars : goal.decreases-stars
decreases-stars l = length l.rest

use Rattle.std.proofs.Common.{◌≡◌, length}
use Rattle.ckc_parser_grammar.specs.code.Trees.{posted}
use Rattle.ckc_parser_values.proofs.makes.posted.Given as goal

abbrev pub invariant-posts : goal.invariant-posts
invariant-posts l = posted l.whole l.rest ≡ posted l.fn.first l.fn.posts

abbrev pub decreases-posts : goal.decreases-posts
decreases-posts l = length l.rest

use Rattle.ckc_parser_grammar.proofs.Same.{same_tree}
use Rattle.ckc_parser_grammar.proofs.laws.derives_the_same_trees.Goals as goal

pub returns : goal.returns
returns c = same_tree

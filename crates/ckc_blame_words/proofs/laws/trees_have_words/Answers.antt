use Rattle.ckc_blame_words.proofs.Chain.{parsed_words}
use Rattle.ckc_blame_words.proofs.laws.trees_have_words.Goals as goal

pub returns : goal.returns
returns c = parsed_words

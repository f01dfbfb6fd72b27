use Rattle.ckc_blame_words.proofs.Chain.{types_keep_words}
use Rattle.ckc_blame_words.proofs.laws.types_keep_words.Goals as goal

pub returns : goal.returns
returns c = types_keep_words

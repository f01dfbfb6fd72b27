use Rattle.ckc_blame_words.proofs.Named.{names_keep_words}
use Rattle.ckc_blame_words.proofs.laws.names_keep_words.Goals as goal

pub returns : goal.returns
returns c = names_keep_words

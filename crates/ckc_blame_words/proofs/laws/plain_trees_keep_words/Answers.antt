use Rattle.ckc_blame_words.proofs.PlainStmts.{plain_keeps_words}
use Rattle.ckc_blame_words.proofs.laws.plain_trees_keep_words.Goals as goal

pub returns : goal.returns
returns c = plain_keeps_words

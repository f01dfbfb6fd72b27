use Rattle.ckc_blame_words.proofs.Whole.{judging_keeps_words}
use Rattle.ckc_blame_words.proofs.laws.judging_keeps_words.Goals as goal

pub returns : goal.returns
returns c = judging_keeps_words

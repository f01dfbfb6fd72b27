use Rattle.ckc_blame_words.proofs.Tokens.{tokens_hold_words}
use Rattle.ckc_blame_words.proofs.laws.tokens_hold_words.Goals as goal

pub returns : goal.returns
returns c = tokens_hold_words

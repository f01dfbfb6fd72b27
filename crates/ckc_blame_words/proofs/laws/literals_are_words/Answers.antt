use Rattle.ckc_blame_words.proofs.Whole.{judged_words, literals_are_words}
use Rattle.ckc_blame_words.proofs.laws.literals_are_words.Goals as goal

pub returns : goal.returns
returns c = record {
  tree = judged_words;
  text = literals_are_words;
}

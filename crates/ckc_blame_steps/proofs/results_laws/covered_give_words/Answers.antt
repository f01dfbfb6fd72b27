use Rattle.ckc_blame_steps.proofs.Words.{gives_word, give_words}
use Rattle.ckc_blame_steps.proofs.results_laws.covered_give_words.Goals as goal

pub returns : goal.returns
returns c = record {
  one = λ m globals s entry here next store agrees declares ready holds e f k from g strings. gives_word m globals s entry here next store agrees declares ready holds e f k from g strings;
  each = λ m globals s entry here next store agrees declares ready holds es fs k from g strings. give_words m globals s entry here next store agrees declares ready holds es fs k from g strings;
}

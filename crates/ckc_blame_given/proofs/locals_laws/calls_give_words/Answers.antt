use Rattle.ckc_blame_given.proofs.Calls.{no_form, call_received}
use Rattle.ckc_blame_given.proofs.locals_laws.calls_give_words.Goals as goal

pub returns : goal.returns
returns c = record {
  formless = λ s e n es facts is. no_form s.frame e n es is facts;
  word = λ s store v at t e first w n es is small bare fresh. call_received s store v at t e first w n es is small bare fresh;
}

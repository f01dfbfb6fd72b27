use Rattle.ckc_blame_given.proofs.laws.words_go_to_places.Goals as goal
use Rattle.ckc_blame_given.proofs.From.{becomes_typed, given_from, argument_new, kept_number}

pub returns : goal.returns
returns c = record {
  from = λ globals s store at v e from t n typed goes whole g. given_from s store at v e from n t (becomes_typed globals s e t typed goes whole) g whole;
  argument = λ globals s store at v e from t n typed goes whole g. argument_new s store at v e from n t (becomes_typed globals s e t typed goes whole) g;
  number = λ globals s store at v e from t n facts f typed goes whole g zero all is. kept_number s store at v e from n t (becomes_typed globals s e t typed goes whole) g zero facts f all is;
}

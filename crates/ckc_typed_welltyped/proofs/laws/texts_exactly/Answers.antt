use Rattle.ckc_typed_welltyped.proofs.Texts.{gives, back}
use Rattle.ckc_typed_welltyped.proofs.laws.texts_exactly.Goals as goal

pub returns : goal.returns
returns c = record {
  exact = λ t p. (gives t p, back t p);
}

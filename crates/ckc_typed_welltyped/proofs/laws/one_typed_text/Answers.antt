use Rattle.ckc_typed_welltyped.proofs.Exactly.{one_typed}
use Rattle.ckc_typed_welltyped.proofs.laws.one_typed_text.Goals as goal

pub returns : goal.returns
returns c = record {
  one = one_typed;
}

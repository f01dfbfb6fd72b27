use Rattle.ckc_blame_nested.proofs.Whole.{derived_nested}
use Rattle.ckc_blame_nested.proofs.laws.texts_are_nested.Goals as goal

pub returns : goal.returns
returns c = record {
  nested = derived_nested;
}

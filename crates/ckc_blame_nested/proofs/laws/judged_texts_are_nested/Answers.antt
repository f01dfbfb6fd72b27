use Rattle.ckc_blame_nested.proofs.Whole.{typed_nested}
use Rattle.ckc_blame_nested.proofs.laws.judged_texts_are_nested.Goals as goal

pub returns : goal.returns
returns c = record {
  nested = typed_nested;
}

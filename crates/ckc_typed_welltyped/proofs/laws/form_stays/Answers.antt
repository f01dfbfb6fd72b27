use Rattle.ckc_typed_welltyped.proofs.FormKept.{form_stays}
use Rattle.ckc_typed_welltyped.proofs.laws.form_stays.Goals as goal

pub returns : goal.returns
returns c = record {
  form = form_stays;
}

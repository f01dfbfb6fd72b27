use Rattle.ckc_typed_fit.proofs.FormKept.{form_kept}
use Rattle.ckc_typed_fit.proofs.laws.names_keep_form.Goals as goal

pub returns : goal.returns
returns c = record { form = form_kept }

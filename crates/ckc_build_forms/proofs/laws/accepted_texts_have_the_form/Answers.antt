use Rattle.ckc_build_forms.proofs.Accepted.{has_the_form}
use Rattle.ckc_build_forms.proofs.laws.accepted_texts_have_the_form.Goals as goal

pub returns : goal.returns
returns c = has_the_form (λ t p h small. c.counts_stay.ensures.small t p ((c.texts_exactly.ensures.exact t p).1 h) small)

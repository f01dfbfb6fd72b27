use Rattle.ckc_build_forms.proofs.Accepted.{numbers_fit}
use Rattle.ckc_build_forms.proofs.laws.accepted_numbers_fit.Goals as goal

pub returns : goal.returns
returns c = numbers_fit (λ t p h small. c.counts_stay.ensures.small t p ((c.texts_exactly.ensures.exact t p).1 h) small)

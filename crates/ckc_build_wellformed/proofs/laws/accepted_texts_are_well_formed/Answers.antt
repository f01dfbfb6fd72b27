use Rattle.ckc_build_wellformed.proofs.Programs.{accepted_formed}
use Rattle.ckc_build_wellformed.proofs.laws.accepted_texts_are_well_formed.Goals as goal

pub returns : goal.returns
returns c = accepted_formed (λ t p h small. c.counts_stay.ensures.small t p ((c.texts_exactly.ensures.exact t p).1 h) small)

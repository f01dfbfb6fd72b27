use Rattle.ckc_build_wellformed.specs.ckc_source_causes.specs.WellFormed.{IsWellFormed}
use Rattle.ckc_build.proofs.Blame.{accepted, meant_by}
use Rattle.ckc_build.proofs.laws.programs_are_well_formed.Goals as goal

pub returns : goal.returns
returns c = meant_by IsWellFormed (λ text p m. c.accepted_texts_are_well_formed.ensures text p (accepted c.texts_exactly.ensures.exact text p m))

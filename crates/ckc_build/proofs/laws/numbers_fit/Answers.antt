use Rattle.ckc_build_words.specs.Numbers.{NumbersFit}
use Rattle.ckc_build.proofs.Blame.{accepted, meant_by}
use Rattle.ckc_build.proofs.laws.numbers_fit.Goals as goal

pub returns : goal.returns
returns c = meant_by NumbersFit (λ text p m. c.accepted_numbers_fit.ensures text p (accepted c.texts_exactly.ensures.exact text p m))

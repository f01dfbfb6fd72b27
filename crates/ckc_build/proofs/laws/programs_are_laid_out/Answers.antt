use Rattle.ckc_build.proofs.Blame.{accepted, laid_out_by}
use Rattle.ckc_build.proofs.laws.programs_are_laid_out.Goals as goal

pub returns : goal.returns
returns c = laid_out_by (λ text p m. (c.accepted_texts_are_blamed.ensures.known text p (accepted c.texts_exactly.ensures.exact text p m)).1.laid_out)

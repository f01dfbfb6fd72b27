use Rattle.ckc_build.proofs.Fitting.{meaning_fits}
use Rattle.ckc_build.proofs.laws.programs_fit.Goals as goal

pub returns : goal.returns
returns c = meaning_fits c.plain_texts_are_within.ensures.small c.counts_stay.ensures.small c.marks_stay.ensures c.programs_are_small.ensures

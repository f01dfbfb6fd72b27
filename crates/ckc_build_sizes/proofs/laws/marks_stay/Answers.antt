use Rattle.ckc_build_sizes.proofs.KeptTexts.{marks_kept}
use Rattle.ckc_build_sizes.proofs.laws.marks_stay.Goals as goal

pub returns : goal.returns
returns c = marks_kept

use Rattle.ckc_blame_declared.proofs.HaveEnds.{locals_have_ends}
use Rattle.ckc_blame_declared.proofs.laws.locals_have_ends.Goals as goal

pub returns : goal.returns
returns c = locals_have_ends

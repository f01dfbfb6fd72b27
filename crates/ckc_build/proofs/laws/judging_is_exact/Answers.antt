use Rattle.ckc_build.proofs.Chain.{judging_exact}
use Rattle.ckc_build.proofs.laws.judging_is_exact.Goals as goal

pub returns : goal.returns
returns c = judging_exact

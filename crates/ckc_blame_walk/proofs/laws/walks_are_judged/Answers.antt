use Rattle.ckc_blame_walk.proofs.Whole.{statement_judged}
use Rattle.ckc_blame_walk.proofs.laws.walks_are_judged.Goals as goal

pub returns : goal.returns
returns c = statement_judged

use Rattle.ckc_blame_declared.proofs.Heads.{results_have_ends}
use Rattle.ckc_blame_declared.proofs.laws.results_have_ends.Goals as goal

pub returns : goal.returns
returns c = results_have_ends

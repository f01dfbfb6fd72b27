use Rattle.ckc_blame_declared.proofs.Results.{results_are_told}
use Rattle.ckc_blame_declared.proofs.laws.results_are_told.Goals as goal

pub returns : goal.returns
returns c = results_are_told

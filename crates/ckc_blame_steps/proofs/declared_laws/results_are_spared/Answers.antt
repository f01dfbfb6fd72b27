use Rattle.ckc_blame_steps.proofs.Declaring.{results_are_spared}
use Rattle.ckc_blame_steps.proofs.declared_laws.results_are_spared.Goals as goal

pub returns : goal.returns
returns c = results_are_spared

use Rattle.ckc_blame_steps.proofs.Known.{results_known}
use Rattle.ckc_blame_steps.proofs.calls_laws.results_are_known.Goals as goal

pub returns : goal.returns
returns c = results_known

use Rattle.ckc_blame_steps.proofs.Callees.{callees_known}
use Rattle.ckc_blame_steps.proofs.results_laws.callees_are_known.Goals as goal

pub returns : goal.returns
returns c = callees_known

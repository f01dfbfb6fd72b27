use Rattle.ckc_blame_steps.proofs.ResultPoints.{results_lead_on}
use Rattle.ckc_blame_steps.proofs.results_laws.points_after_results_hold.Goals as goal

pub returns : goal.returns
returns c = results_lead_on

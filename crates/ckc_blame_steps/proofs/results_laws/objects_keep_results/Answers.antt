use Rattle.ckc_blame_steps.proofs.ResultPoints.{objects_keep_results}
use Rattle.ckc_blame_steps.proofs.results_laws.objects_keep_results.Goals as goal

pub returns : goal.returns
returns c = objects_keep_results

use Rattle.ckc_blame_steps.proofs.Runs.{runs_free}
use Rattle.ckc_blame_steps.proofs.facts_accepted_laws.runs_are_free.Goals as goal

pub returns : goal.returns
returns c = runs_free

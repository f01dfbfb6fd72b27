use Rattle.ckc_blame_steps.proofs.Judged.{condition_covered}
use Rattle.ckc_blame_steps.proofs.covers_laws.conditions_are_covered.Goals as goal

pub returns : goal.returns
returns c = condition_covered

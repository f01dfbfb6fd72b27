use Rattle.ckc_blame_steps.proofs.Promised.{never_stuck}
use Rattle.ckc_blame_steps.proofs.whole_laws.checked_never_stuck.Goals as goal

pub returns : goal.returns
returns c = λ p s events k h mode. never_stuck p k s h mode events

use Rattle.ckc_blame_steps.proofs.Promised.{stuck_blamed}
use Rattle.ckc_blame_steps.proofs.whole_laws.stuck_is_blamed.Goals as goal

pub returns : goal.returns
returns c = stuck_blamed

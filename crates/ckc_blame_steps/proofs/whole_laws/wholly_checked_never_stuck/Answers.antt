use Rattle.ckc_blame_steps.proofs.Promised.{wholly_never}
use Rattle.ckc_blame_steps.proofs.whole_laws.wholly_checked_never_stuck.Goals as goal

pub returns : goal.returns
returns c = wholly_never

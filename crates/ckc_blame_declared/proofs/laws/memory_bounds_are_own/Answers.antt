use Rattle.ckc_blame_declared.proofs.Own.{memory_bounds_are_own}
use Rattle.ckc_blame_declared.proofs.laws.memory_bounds_are_own.Goals as goal

pub returns : goal.returns
returns c = memory_bounds_are_own

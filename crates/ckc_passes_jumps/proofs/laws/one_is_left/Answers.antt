use Rattle.ckc_passes_jumps.proofs.Once.{jumps_once}
use Rattle.ckc_passes_jumps.proofs.laws.one_is_left.Goals as goal

pub returns : goal.returns
returns c = λ t a b is too. jumps_once t a b is too

use Rattle.ckc_passes_known.proofs.Once.{known_once}
use Rattle.ckc_passes_known.proofs.laws.one_is_left.Goals as goal

pub returns : goal.returns
returns c = λ t a b is too. known_once t a b is too

use Rattle.ckc_types.proofs.Offsets.{size_least}
use Rattle.ckc_types.proofs.laws.size_is_least.Goals as goal

pub returns : goal.returns
returns c = size_least

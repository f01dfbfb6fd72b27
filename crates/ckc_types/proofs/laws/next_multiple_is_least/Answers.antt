use Rattle.ckc_types.proofs.Multiples.{next_is_least}
use Rattle.ckc_types.proofs.laws.next_multiple_is_least.Goals as goal

pub returns : goal.returns
returns c = next_is_least

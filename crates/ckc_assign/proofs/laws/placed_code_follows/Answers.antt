use Rattle.ckc_assign.proofs.Follows.{follows_is}
use Rattle.ckc_assign.proofs.laws.placed_code_follows.Goals as goal

pub returns : goal.returns
returns c = λ p whole apart keeps input. follows_is p whole apart keeps input

use Rattle.ckc_base.proofs.Following.{follows_trans}
use Rattle.ckc_base.proofs.laws.following_composes.Goals as goal

pub returns : goal.returns
returns g c = λ a b d m n p q. follows_trans a b d m n p q

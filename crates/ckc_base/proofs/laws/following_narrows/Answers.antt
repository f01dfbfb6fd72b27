use Rattle.ckc_base.proofs.Following.{follows_narrowed}
use Rattle.ckc_base.proofs.laws.following_narrows.Goals as goal

pub returns : goal.returns
returns g c = λ f a b n p. follows_narrowed f a b n p

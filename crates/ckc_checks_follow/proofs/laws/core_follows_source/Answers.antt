use Rattle.ckc_checks_follow.proofs.Follows.{core_follows}
use Rattle.ckc_checks_follow.proofs.laws.core_follows_source.Goals as goal

pub returns : goal.returns
returns c = λ p form laid input bytes. core_follows p form laid input bytes

use Rattle.ckc_checks_follow.proofs.Follows.{core_listed}
use Rattle.ckc_checks_follow.proofs.laws.core_stores_are_listed.Goals as goal

pub returns : goal.returns
returns c = λ p form laid input bytes safe k. core_listed p form laid input bytes safe k

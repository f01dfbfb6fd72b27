use Rattle.ckc_base.proofs.Runs.{follows_by_pairs}
use Rattle.ckc_base.proofs.laws.following_by_steps.Goals as goal

pub returns : goal.returns
returns g c = λ a b upper lower measure k h p. follows_by_pairs a b upper lower measure k h p

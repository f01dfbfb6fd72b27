use Rattle.ckc_blame_steps.proofs.Promised.{stays_sound}
use Rattle.ckc_blame_steps.proofs.whole_laws.steps_stay_sound.Goals as goal

pub returns : goal.returns
returns c = λ p s k. stays_sound p k s

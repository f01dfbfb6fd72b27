use Rattle.ckc_blame_steps.proofs.AllSteps.{every_step}
use Rattle.ckc_blame_steps.proofs.whole_laws.every_step_stays_sound.Goals as goal

pub returns : goal.returns
returns c = λ p s k. every_step p k s

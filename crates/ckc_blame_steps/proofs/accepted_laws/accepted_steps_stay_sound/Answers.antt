use Rattle.ckc_blame_steps.proofs.Accepted.{accepted_step}
use Rattle.ckc_blame_steps.proofs.accepted_laws.accepted_steps_stay_sound.Goals as goal

pub returns : goal.returns
returns c = λ text p s a. accepted_step text p a s

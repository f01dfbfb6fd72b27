use Rattle.ckc_blame_control.proofs.Whole.{steps_sound}
use Rattle.ckc_blame_control.proofs.laws.checked_steps_stay_sound.Goals as goal

pub returns : goal.returns
returns c = steps_sound

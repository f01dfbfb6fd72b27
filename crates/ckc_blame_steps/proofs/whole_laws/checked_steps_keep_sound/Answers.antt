use Rattle.ckc_blame_steps.proofs.KeptSound.{known_keeps}
use Rattle.ckc_blame_steps.proofs.whole_laws.checked_steps_keep_sound.Goals as goal

pub returns : goal.returns
returns c = known_keeps

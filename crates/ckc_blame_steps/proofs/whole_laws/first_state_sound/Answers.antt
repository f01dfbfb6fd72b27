use Rattle.ckc_blame_steps.proofs.Promised.{first_sound}
use Rattle.ckc_blame_steps.proofs.whole_laws.first_state_sound.Goals as goal

pub returns : goal.returns
returns c = first_sound

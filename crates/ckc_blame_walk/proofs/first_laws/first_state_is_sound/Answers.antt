use Rattle.ckc_blame_walk.proofs.First.{first_state_sound}
use Rattle.ckc_blame_walk.proofs.Judged.{judged_sound}
use Rattle.ckc_blame_walk.proofs.first_laws.first_state_is_sound.Goals as goal

pub returns : goal.returns
returns c = record { ready = first_state_sound; judged = judged_sound }

use Rattle.ckc_blame_walk.proofs.Memory.{first_sound, first_true}
use Rattle.ckc_blame_walk.proofs.first_laws.objects_are_sound.Goals as goal

pub returns : goal.returns
returns c = record { sound = first_sound; filled = first_true }

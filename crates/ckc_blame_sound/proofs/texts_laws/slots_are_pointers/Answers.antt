use Rattle.ckc_blame_sound.proofs.Slots.{slots_are_pointers}
use Rattle.ckc_blame_sound.proofs.texts_laws.slots_are_pointers.Goals as goal

pub returns : goal.returns
returns c = slots_are_pointers

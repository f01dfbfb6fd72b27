use Rattle.ckc_blame_sound.proofs.Filled.{filled_after, filled_by}
use Rattle.ckc_blame_sound.proofs.Made.{made_filled}
use Rattle.ckc_blame_sound.proofs.Written.{all_keep}
use Rattle.ckc_blame_sound.proofs.slots_laws.pointers_stay_true.Goals as goal

pub returns : goal.returns
returns c = record {
  writes = λ p next ws s t shapes locals after parts sound h e some filled.
      filled_after p parts shapes locals after next ws s t sound (all_keep p next ws s t sound h e) filled some;
  slot = filled_by;
  block = λ p blocks next count to shapes locals after parts sound made filled. made_filled p parts shapes locals after blocks next count to sound made filled;
}

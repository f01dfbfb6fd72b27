use Rattle.ckc_blame_sound.proofs.Written.{all_keep, last_write}
use Rattle.ckc_blame_sound.proofs.slots_laws.writes_keep_blocks.Goals as goal

pub returns : goal.returns
returns c = record {
  sound = λ p place ws s t sound h e. (all_keep p place ws s t sound h e).sound;
  last = λ p place front back a n width zero_alone s t sound h new e. last_write p place front back a n width zero_alone s t sound h new e;
  others = λ p place ws s t c other y sound h e cell new. (all_keep p place ws s t sound h e).others c other y cell new;
  blocks = λ p place ws s t k b sound h e there. (all_keep p place ws s t sound h e).same k b there;
  ranges = λ p place ws s t shapes to i low high sound h e. (all_keep p place ws s t sound h e).truths shapes to i low high;
}

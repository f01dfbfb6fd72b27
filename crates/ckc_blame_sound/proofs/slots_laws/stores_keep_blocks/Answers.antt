use Rattle.std.proofs.Common.{◌∙◌, ap}
use Rattle.ckc_source.specs.Runs.{is_true}
use Rattle.ckc_blame_sound.proofs.Apart.{cells_apart}
use Rattle.ckc_blame_sound.proofs.KeptBlocks.{sound_after}
use Rattle.ckc_blame_sound.proofs.Stores.{itself_read, others_read, stored_parts}
use Rattle.ckc_blame_sound.proofs.Truths.{true_after}
use Rattle.ckc_blame_sound.proofs.Written.{laid, cell_after}
use Rattle.ckc_blame_sound.proofs.slots_laws.stores_keep_blocks.Goals as goal

pub returns : goal.returns
returns c = record {
  itself = λ blocks after a n width e l. itself_read width a n blocks after e l;
  others = λ blocks after a n c width other e h. others_read width a n other c blocks after e h;
  sound = λ p blocks after place a n width z sound cell zeros e. sound_after p blocks place a n width z sound cell zeros after e;
  apart = λ p blocks place a c width other z y sound one two. cells_apart p blocks (laid p blocks place sound) a width z c other y one two;
  cells = λ structs blocks after a n c width other y e cell. cell_after structs blocks after c other y cell width a n e;
  ranges = λ blocks after shapes to a n i low high width e.
      ap (λ bs. is_true shapes bs to i low high) (stored_parts width a n blocks after e).1 ∙ true_after shapes blocks to i low high width a n;
}

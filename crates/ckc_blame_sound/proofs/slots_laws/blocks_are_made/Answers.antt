use Rattle.ckc_blame_sound.proofs.Fresh.{sound_with, loaded_before, cell_before, true_before}
use Rattle.ckc_blame_sound.proofs.slots_laws.blocks_are_made.Goals as goal

pub returns : goal.returns
returns c = record {
  sound = λ p blocks place count to sound made. sound_with p blocks place to count sound made;
  reads = λ blocks more a n width e. loaded_before width a n blocks more e;
  cells = λ structs blocks more a width z cell. cell_before structs blocks more a width z cell;
  ranges = λ shapes blocks more to n low high e. true_before shapes blocks more to n low high e;
}

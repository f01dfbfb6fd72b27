use Rattle.ckc_build_elaborate.specs.Shapes.{shapes_elaborated}
use Rattle.ckc_blame_sound.proofs.Apart.{cell_there, cell_address}
use Rattle.ckc_blame_sound.proofs.Objects.{are_members}
use Rattle.ckc_blame_sound.proofs.Ranges.{true_cell}
use Rattle.ckc_blame_sound.proofs.Reached.{place_is}
use Rattle.ckc_blame_sound.proofs.Stores.{load_some, store_some}
use Rattle.ckc_blame_sound.proofs.slots_laws.accesses_lie_in_blocks.Goals as goal

pub returns : goal.returns
returns c = record {
  cell = λ p blocks place to n low high a offset width sound own size e r part.
      true_cell p (shapes_elaborated p.layout) blocks to n low high a offset width sound.memory.placed (are_members p.layout own) size e r part;
  there = λ p blocks place a width z sound cell. cell_there p blocks sound.memory.placed a width z cell;
  load = λ p blocks place a width z sound cell. load_some width a blocks (cell_there p blocks sound.memory.placed a width z cell);
  store = λ p blocks place a n width z sound cell. store_some width a n blocks (cell_there p blocks sound.memory.placed a width z cell);
  exact = λ p blocks place a offset width z sound cell. place_is a offset width (cell_address p blocks sound.memory.placed _ width z cell).1;
}

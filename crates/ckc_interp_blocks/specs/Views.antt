-- What the blocks of a run are seen as.
use Rattle.std.specs.Prelude.{ℕ, List, map}
use Rattle.ckc_source.specs.declared.program.Shape.{Shape}
use Rattle.ckc_source.specs.Blocks.{Block}
use Rattle.ckc_interp_blocks.specs.declared.blocks.Blocks.{Blocks}
use Rattle.ckc_interp_blocks.specs.Held.{view}

-- the blocks, in the order of their addresses
abbrev pub blocks_of : Blocks → List Block
blocks_of b = map view b.blocks.items

-- the place of the next block
abbrev pub next_of : Blocks → ℕ
next_of b = b.next

-- the members of structures that are runs
abbrev pub shapes_of : Blocks → List Shape
shapes_of b = b.shapes.now

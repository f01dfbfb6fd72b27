-- The blocks of the definition that the code holds.
use Rattle.std.specs.Prelude.{ℕ, ◌+◌, nat_le, ◌&&◌, Bool, List, [], ◌∷◌}
use Rattle.ckc_source.specs.Blocks.{Block, end_of}
use Rattle.ckc_interp_blocks.specs.declared.block.Block as held_by

abbrev pub view : held_by.Block → Block
view b = record {
  base = b.base;
  element = b.element.now;
  size = b.size;
  count = b.count;
  terminated = b.terminated;
  is_run = b.is_run;
  bytes = b.bytes.items;
}

-- ---- where a block is found

-- `AreApart` as a test
abbrev pub are_apart : ℕ → List Block → ℕ → Bool
are_apart low [] place = nat_le low place
are_apart low (b ∷ blocks) place = nat_le low b.base && are_apart (end_of b + 1) blocks place

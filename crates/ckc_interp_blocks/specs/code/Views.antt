-- What the code knows of the block that it found.
use Rattle.std.specs.Prelude.{◌≡◌, ℕ, true, List, slice_get, Some}
use Rattle.ckc_base.specs.declared.arithmetic.Width.{Width}
use Rattle.ckc_source.specs.Blocks.{Block, is_aligned, has}
use Rattle.ckc_interp_blocks.specs.code.Held.{IsLast}

-- the access lies in the block with the index
pub record IsHolder (width : Width) (a : ℕ) (blocks : List Block) (i : ℕ) : Type 0 where
  pub aligned : is_aligned width a ≡ true
  pub last : IsLast a blocks i
  pub block : Block
  pub is : slice_get blocks i ≡ Some block
  pub has_it : has width a block ≡ true

use Rattle.std.proofs.Common.{◌≡◌, ℕ, suc, ◌-◌, ◌<◌, ◌≤◌, length, slice_get, Some}
use Rattle.ckc_interp_blocks.specs.declared.block.Block.{Block}
use Rattle.ckc_interp_blocks.proofs.blocks.last_at.Given as goal

-- what lies before low begins at the address or before it, and what lies at high after it
abbrev pub invariant-loop-low : goal.invariant-loop-low
invariant-loop-low l = record {
  low : l.low ≤ l.high;
  high : l.high ≤ length l.blocks;
  before : (k : ℕ) (b : Block) → suc k ≡ l.low → slice_get l.blocks k ≡ Some b → b.base ≤ l.a;
  behind : (b : Block) → slice_get l.blocks l.high ≡ Some b → l.a < b.base;
}

abbrev pub decreases-loop-low : goal.decreases-loop-low
decreases-loop-low l = l.high - l.low

use Rattle.ckc_passes_redundant.specs.code.Blocks.{IsUnderway}
use Rattle.ckc_passes_redundant.proofs.blocks.left_of_block.Given as goal

abbrev pub invariant-loop-place : goal.invariant-loop-place
invariant-loop-place l = IsUnderway l.ops l.block.end l.place l.table l.left.items

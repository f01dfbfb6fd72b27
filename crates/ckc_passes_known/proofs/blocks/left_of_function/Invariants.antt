use Rattle.std.proofs.Common.{take}
use Rattle.ckc_passes_known.specs.Known.{ZipFrom, BlockAfter}
use Rattle.ckc_passes_known.proofs.blocks.left_of_function.Given as goal

abbrev pub invariant-loop-b : goal.invariant-loop-b
invariant-loop-b l = ZipFrom (BlockAfter l.blocks) 0 (take l.b l.blocks) l.left.items

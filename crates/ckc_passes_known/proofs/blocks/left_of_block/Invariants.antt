use Rattle.ckc_passes_known.specs.code.Left.{IsTaken}
use Rattle.ckc_passes_known.proofs.blocks.left_of_block.Given as goal

abbrev pub invariant-loop-i : goal.invariant-loop-i
invariant-loop-i l = IsTaken l.blocks l.b l.ops l.i l.left.items

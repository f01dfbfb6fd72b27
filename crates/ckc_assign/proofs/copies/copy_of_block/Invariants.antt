use Rattle.std.proofs.Common.{◌≡◌, take}
use Rattle.ckc_assign.proofs.copies.copy_of_block.Given as goal

abbrev pub invariant-loop-op : goal.invariant-loop-op
invariant-loop-op l = l.ops.items ≡ take l.op-index l.op-items

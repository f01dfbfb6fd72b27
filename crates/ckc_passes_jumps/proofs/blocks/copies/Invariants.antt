use Rattle.std.proofs.Common.{◌≡◌, take}
use Rattle.ckc_passes_jumps.proofs.blocks.copies.Given as goal

abbrev pub invariant-loop-op : goal.invariant-loop-op
invariant-loop-op l = l.copies.items ≡ take l.op-index l.ops

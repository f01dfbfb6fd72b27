use Rattle.std.proofs.Common.{take}
use Rattle.ckc_assign.specs.code.Kept.{AllKept}
use Rattle.ckc_assign.proofs.kept.put_all.Given as goal

abbrev pub invariant-loop-block : goal.invariant-loop-block
invariant-loop-block l = AllKept l.f (take l.block-index l.block-items) l.kept.items

use Rattle.std.proofs.Common.{take}
use Rattle.ckc_assign.specs.code.Assigned.{AreAssigned}
use Rattle.ckc_assign.proofs.program.functions.Given as goal

abbrev pub invariant-loop-f : goal.invariant-loop-f
invariant-loop-f l = AreAssigned (take l.f-index l.fs) l.placed.items

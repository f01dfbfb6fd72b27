use Rattle.std.proofs.Common.{sum_by}
use Rattle.ckc_passes_jumps.specs.code.Ways.{IsWalking, blank}
use Rattle.ckc_passes_jumps.proofs.ways.walk.Given as goal

abbrev pub invariant-steps : goal.invariant-steps
invariant-steps l = IsWalking l.blocks l.b l.at l.walks.items l.ends

abbrev pub decreases-steps : goal.decreases-steps
decreases-steps l = sum_by blank l.walks.items

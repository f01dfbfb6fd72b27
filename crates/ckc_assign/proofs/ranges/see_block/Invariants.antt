use Rattle.std.proofs.Common.{◌≡◌, ◌+◌}
use Rattle.ckc_assign.specs.code.Ranges.{SeesOps}
use Rattle.ckc_assign.proofs.ranges.see_block.Given as goal

abbrev pub invariant-loop-op : goal.invariant-loop-op
invariant-loop-op l = record {
  place : l.at ≡ l.place + l.op-index;
  seen : SeesOps l.op-items l.op-index l.place l.initial.ranges l.ranges;
}

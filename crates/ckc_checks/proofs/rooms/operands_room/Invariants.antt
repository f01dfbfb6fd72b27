use Rattle.std.proofs.Common.{◌≡◌, ◌≤◌, drop, map, length}
use Rattle.ckc_source.specs.Code.{expr_of}
use Rattle.ckc_checks_follow.specs.code.Inserted.{operands_room}
use Rattle.ckc_checks.proofs.rooms.operands_room.Given as goal

abbrev pub invariant-loop-i : goal.invariant-loop-i
invariant-loop-i l = record {
  within : l.i ≤ length l.es;
  most : l.most ≡ operands_room (map expr_of (drop l.i l.es));
}

abbrev pub decreases-loop-i : goal.decreases-loop-i
decreases-loop-i l = l.i

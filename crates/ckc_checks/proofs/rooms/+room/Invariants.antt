use Rattle.std.proofs.Common.{◌≡◌, ◌≤◌, drop, length}
use Rattle.ckc_source.specs.Code.{code_of}
use Rattle.ckc_checks_follow.specs.code.Inserted.{room}
use Rattle.ckc_checks.proofs.rooms.+room.Given as goal

abbrev pub decreases-room : goal.decreases-room
decreases-room l = goal.size-room l

abbrev pub invariant-loop-i : goal.invariant-loop-i
invariant-loop-i l = record {
  within : l.i ≤ length l.stmts;
  most : l.most ≡ room (code_of (drop l.i l.stmts));
}

abbrev pub decreases-loop-i : goal.decreases-loop-i
decreases-loop-i l = l.i

use Rattle.std.proofs.Common.{◌≡◌, ◌≤◌, drop, map, length}
use Rattle.ckc_source.specs.Code.{assign_of}
use Rattle.ckc_checks_follow.specs.code.Inserted.{bundle_room}
use Rattle.ckc_checks.proofs.rooms.bundle_room.Given as goal

abbrev pub invariant-loop-i : goal.invariant-loop-i
invariant-loop-i l = record {
  within : l.i ≤ length l.all;
  most : l.most ≡ bundle_room (map assign_of (drop l.i l.all));
}

abbrev pub decreases-loop-i : goal.decreases-loop-i
decreases-loop-i l = l.i

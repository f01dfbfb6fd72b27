use Rattle.std.proofs.Common.{◌≡◌, ◌+◌, ◌-◌, ◌≤◌}
use Rattle.ckc_checks_follow.specs.code.Inserted.{zeroed}
use Rattle.ckc_checks.specs.code.Building.{behind}
use Rattle.ckc_checks.proofs.program.zero.Given as goal

abbrev pub invariant-loop-left : goal.invariant-loop-left
invariant-loop-left l = record {
  within : l.left ≤ l.count;
  place : l.next ≡ l.x + l.left;
  built : behind l.code ≡ zeroed l.next (l.count - l.left) (behind l.initial.code);
}

abbrev pub decreases-loop-left : goal.decreases-loop-left
decreases-loop-left l = l.left

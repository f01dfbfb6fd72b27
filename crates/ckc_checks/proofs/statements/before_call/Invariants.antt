use Rattle.std.proofs.Common.{◌≡◌, ◌+◌, ◌≤◌, drop, map, length}
use Rattle.ckc_source.specs.Code.{expr_of as source_of}
use Rattle.ckc_checks_follow.specs.code.Inserted.{operands_code}
use Rattle.ckc_checks.specs.code.Building.{behind}
use Rattle.ckc_checks.proofs.statements.before_call.Given as goal

abbrev pub invariant-loop-i : goal.invariant-loop-i
invariant-loop-i l = record {
  within : l.i ≤ length l.es;
  place : l.next ≡ l.t + l.i;
  built : behind l.code ≡ operands_code (map source_of (drop l.i l.es)) l.next (behind l.initial.code);
}

abbrev pub decreases-loop-i : goal.decreases-loop-i
decreases-loop-i l = l.i

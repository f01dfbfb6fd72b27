use Rattle.std.proofs.Common.{◌≡◌, ◌≤◌, drop, length}
use Rattle.ckc_source.specs.Code.{code_of as source_code}
use Rattle.ckc_checks_follow.specs.code.Inserted.{statements}
use Rattle.ckc_checks.specs.code.Building.{behind}
use Rattle.ckc_checks.proofs.statements.+statements.Given as goal

abbrev pub decreases-statements : goal.decreases-statements
decreases-statements l = goal.size-statements l

abbrev pub invariant-loop-i : goal.invariant-loop-i
invariant-loop-i l = record {
  within : l.i ≤ length l.stmts;
  built : behind l.code ≡ statements l.t (source_code (drop l.i l.stmts));
}

abbrev pub decreases-loop-i : goal.decreases-loop-i
decreases-loop-i l = l.i

use Rattle.std.proofs.Common.{◌≤◌, length}
use Rattle.ckc_test_watch.proofs.modes.+are_checked.Given as goal

abbrev pub decreases-are_checked : goal.decreases-are_checked
decreases-are_checked l = goal.size-are_checked l

abbrev pub invariant-loop-i : goal.invariant-loop-i
invariant-loop-i l = l.i ≤ length l.stmts

abbrev pub decreases-loop-i : goal.decreases-loop-i
decreases-loop-i l = l.i

use Rattle.std.proofs.Common.{◌≤◌, length}
use Rattle.ckc_test_tables.proofs.scripts.given.Given as goal

abbrev pub invariant-loop-part : goal.invariant-loop-part
invariant-loop-part l = l.count ≤ length l.buf

use Rattle.std.proofs.Common.{◌≡◌, ◌++◌, replicate}
use Rattle.ckc_checks.proofs.program.zeros.Given as goal

abbrev pub invariant-loop-i : goal.invariant-loop-i
invariant-loop-i l = l.bytes ≡ l.initial.bytes ++ replicate l.i 0

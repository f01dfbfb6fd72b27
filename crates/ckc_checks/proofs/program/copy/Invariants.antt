use Rattle.std.proofs.Common.{◌≡◌, ◌++◌, take}
use Rattle.ckc_checks.proofs.program.copy.Given as goal

abbrev pub invariant-loop-b : goal.invariant-loop-b
invariant-loop-b l = l.bytes ≡ l.initial.bytes ++ take l.b-index l.from

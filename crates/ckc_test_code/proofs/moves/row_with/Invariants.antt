use Rattle.std.proofs.Common.{◌≡◌, length}
use Rattle.ckc_test_code.proofs.moves.row_with.Given as goal

abbrev pub invariant-loop-register : goal.invariant-loop-register
invariant-loop-register l = length l.new.items ≡ l.register

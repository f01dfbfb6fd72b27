use Rattle.std.proofs.Common.{◌≡◌, length}
use Rattle.std.specs.Prelude.{All}
use Rattle.ckc_frame.specs.WellFormed.{IsPlace}
use Rattle.ckc_test_code.proofs.moves.homes_with.Given as goal

abbrev pub invariant-loop-old : goal.invariant-loop-old
invariant-loop-old l = record {
  count : length l.new.items ≡ l.old-index;
  places : All IsPlace l.new.items;
}

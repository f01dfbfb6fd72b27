use Rattle.std.proofs.Common.{◌≡◌, Bool, List, length}
use Rattle.std.specs.Prelude.{All}
use Rattle.ckc_test_code.proofs.moves.rows_with.Given as goal

abbrev pub invariant-loop-old : goal.invariant-loop-old
invariant-loop-old l = record {
  count : length l.new.items ≡ l.old-index;
  marks : All (λ (row : List Bool). length row ≡ l.count) l.new.items;
}

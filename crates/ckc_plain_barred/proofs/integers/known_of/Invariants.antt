use Rattle.std.proofs.Common.{◌≡◌, fold, drop}
use Rattle.std.specs.Prelude.{[]}
use Rattle.ckc_plain_barred.specs.Integers.{with_results_of}
use Rattle.ckc_plain_barred.proofs.integers.known_of.Given as goal

-- what is left gives what the whole gives
abbrev pub invariant-loop-item : goal.invariant-loop-item
invariant-loop-item l = fold with_results_of [] l.item-items ≡ fold with_results_of l.results (drop l.item-index l.item-items)

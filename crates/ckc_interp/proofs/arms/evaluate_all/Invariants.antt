use Rattle.std.proofs.Common.{◌≡◌, drop, map}
use Rattle.ckc_source.specs.Code.{expr_of}
use Rattle.ckc_source.specs.Eval.{all_evaluated}
use Rattle.ckc_interp_eval.specs.Stores.{store_of}
use Rattle.ckc_interp.proofs.Planning.{listed_behind}
use Rattle.ckc_interp.proofs.arms.evaluate_all.Given as goal

-- what is left comes after the numbers so far
abbrev pub invariant-loop-e : goal.invariant-loop-e
invariant-loop-e l =
    let s = store_of l.fn.reader in
    listed_behind l.numbers.items (all_evaluated s (map expr_of (drop l.e-index l.all))) ≡ all_evaluated s (map expr_of l.all)

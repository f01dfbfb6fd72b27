use Rattle.std.proofs.Common.{◌≡◌, ◌+◌, map, drop}
use Rattle.ckc_build_values.specs.Expressions.{part_of, all_literals}
use Rattle.ckc_build_values.proofs.literals.+literals.Given as goal

abbrev pub invariant-in_exprs-loop-e : goal.invariant-in_exprs-loop-e
invariant-in_exprs-loop-e l = l.n + all_literals (map part_of (drop l.e-index l.es)) ≡ l.before + all_literals (map part_of l.es)

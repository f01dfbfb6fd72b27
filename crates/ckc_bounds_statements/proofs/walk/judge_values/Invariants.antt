use Rattle.std.proofs.Common.{◌≡◌}
use Rattle.ckc_bounds_statements.specs.Paths.{value_judged, values_judged}
use Rattle.ckc_bounds_statements.specs.Walks.{here}
use Rattle.ckc_base.proofs.Sequels.{behind, left}
use Rattle.ckc_bounds_statements.proofs.walk.judge_values.Given as goal

abbrev pub invariant-loop-e : goal.invariant-loop-e
invariant-loop-e l = values_judged l.frame l.es (here l.fn.walk) ≡ behind l.all (left (value_judged l.frame) l.es l.e-index (here l.walk))

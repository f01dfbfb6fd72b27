use Rattle.std.proofs.Common.{◌≡◌, drop}
use Rattle.ckc_syntax.specs.Inside.{listed, inside_each}
use Rattle.ckc_typed.specs.Walk.{spots_of_expr}
use Rattle.ckc_scopes.specs.code.Verdict.{verdict}
use Rattle.ckc_scopes.proofs.expressions.+expr_fits.Given as goal

-- what is left gives what the whole gives
abbrev pub invariant-exprs_fit-loop-e : goal.invariant-exprs_fit-loop-e
invariant-exprs_fit-loop-e l =
    verdict l.items (inside_each listed spots_of_expr l.es) ≡ verdict l.items (inside_each listed spots_of_expr (drop l.e-index l.es))

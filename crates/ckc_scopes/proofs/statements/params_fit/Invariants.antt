use Rattle.std.proofs.Common.{◌≡◌, drop}
use Rattle.ckc_syntax.specs.Inside.{listed, inside_each}
use Rattle.ckc_typed.specs.Walk.{spots_of_param}
use Rattle.ckc_scopes.specs.code.Verdict.{verdict}
use Rattle.ckc_scopes.proofs.statements.params_fit.Given as goal

-- what is left gives what the whole gives
abbrev pub invariant-loop-param : goal.invariant-loop-param
invariant-loop-param l =
    verdict l.items (inside_each listed (spots_of_param l.fn.mode) l.params) ≡ verdict l.items (inside_each listed (spots_of_param l.fn.mode) (drop l.param-index l.params))

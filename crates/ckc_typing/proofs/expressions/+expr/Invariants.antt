use Rattle.std.proofs.Common.{◌≡◌}
use Rattle.ckc_typed.specs.Expressions.{expr_typed, exprs_typed}
use Rattle.ckc_base.proofs.Turns.{ahead, judged}
use Rattle.ckc_typing.proofs.expressions.+expr.Given as goal

abbrev pub invariant-typed_exprs-loop-e : goal.invariant-typed_exprs-loop-e
invariant-typed_exprs-loop-e l = exprs_typed l.globals l.variables l.mode l.es ≡ ahead l.all (judged (expr_typed l.globals l.variables l.mode) l.es l.e-index)

use Rattle.std.proofs.Common.{◌≡◌}
use Rattle.ckc_resolve.specs.Expressions.{expr_named, exprs_named}
use Rattle.ckc_base.proofs.Turns.{ahead, judged}
use Rattle.ckc_resolve.proofs.expressions.+expr.Given as goal

abbrev pub invariant-named_exprs-loop-e : goal.invariant-named_exprs-loop-e
invariant-named_exprs-loop-e l = exprs_named l.names l.scopes l.es ≡ ahead l.all (judged (expr_named l.names l.scopes) l.es l.e-index)

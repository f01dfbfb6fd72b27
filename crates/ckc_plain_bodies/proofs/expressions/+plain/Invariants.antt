use Rattle.std.proofs.Common.{◌≡◌, drop}
use Rattle.ckc_plain_bodies.specs.Expressions.{exprs_plain}
use Rattle.ckc_plain_bodies.proofs.Turns.{behind}
use Rattle.ckc_plain_bodies.proofs.expressions.+plain.Given as goal

-- what is left gives what the whole gives
abbrev pub invariant-plain_exprs-loop-e : goal.invariant-plain_exprs-loop-e
invariant-plain_exprs-loop-e l = exprs_plain l.known l.es l.fn.pending ≡ behind l.all (exprs_plain l.known (drop l.e-index l.es) l.pending)

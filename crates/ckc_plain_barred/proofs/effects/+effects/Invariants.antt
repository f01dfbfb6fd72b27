use Rattle.std.proofs.Common.{◌≡◌, drop}
use Rattle.ckc_plain_barred.specs.Effects.{in_exprs}
use Rattle.ckc_plain_barred.specs.code.First.{first}
use Rattle.ckc_plain_barred.proofs.effects.+effects.Given as goal

-- nothing is refused so far
abbrev pub invariant-first_in_exprs-loop-e : goal.invariant-first_in_exprs-loop-e
invariant-first_in_exprs-loop-e l = first (in_exprs l.known l.es l.barred) ≡ first (in_exprs l.known (drop l.e-index l.es) l.barred)

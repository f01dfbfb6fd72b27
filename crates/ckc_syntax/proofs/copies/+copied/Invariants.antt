use Rattle.std.proofs.Common.{◌≡◌, take}
use Rattle.ckc_syntax.proofs.copies.+copied.Given as goal

abbrev pub invariant-copied_exprs-loop-e : goal.invariant-copied_exprs-loop-e
invariant-copied_exprs-loop-e g l = l.all ≡ take l.e-index l.es

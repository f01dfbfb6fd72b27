use Rattle.std.proofs.Common.{◌≡◌, drop}
use Rattle.ckc_syntax.specs.code.SameParts.{same_exprs}
use Rattle.ckc_syntax.proofs.same.+same.Given as goal

abbrev pub invariant-same_exprs-loop-i : goal.invariant-same_exprs-loop-i
invariant-same_exprs-loop-i l = same_exprs l.es l.fs ≡ same_exprs (drop l.i l.es) (drop l.i l.fs)

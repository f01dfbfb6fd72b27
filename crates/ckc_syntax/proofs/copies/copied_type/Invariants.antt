use Rattle.std.proofs.Common.{◌≡◌}
use Rattle.ckc_syntax.specs.Pointers.{wrapped}
use Rattle.ckc_syntax.proofs.copies.copied_type.Given as goal

abbrev pub invariant-pointers : goal.invariant-pointers
invariant-pointers g l = wrapped l.pointers l.rest ≡ l.t

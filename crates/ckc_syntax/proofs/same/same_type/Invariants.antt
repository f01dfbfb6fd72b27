use Rattle.std.proofs.Common.{◌≡◌}
use Rattle.ckc_syntax.specs.code.SameParts.{same_type}
use Rattle.ckc_syntax.proofs.same.same_type.Given as goal

abbrev pub invariant-pointers : goal.invariant-pointers
invariant-pointers l = same_type l.left l.right ≡ same_type l.t l.u

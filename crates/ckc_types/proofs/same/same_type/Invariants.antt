use Rattle.std.proofs.Common.{◌≡◌}
use Rattle.ckc_types.specs.Same.{same_type}
use Rattle.ckc_types.proofs.same.same_type.Given as goal

abbrev pub invariant-layers : goal.invariant-layers
invariant-layers l = same_type l.left l.right ≡ same_type l.t l.u

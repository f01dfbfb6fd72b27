use Rattle.std.proofs.Common.{◌≡◌}
use Rattle.ckc_typed.specs.Types.{integer_object}
use Rattle.ckc_typed.specs.code.Types.{within}
use Rattle.ckc_typed.proofs.types.integer_object.Given as goal

abbrev pub invariant-pointers : goal.invariant-pointers
invariant-pointers l = within l.around (integer_object l.rest) ≡ integer_object l.t

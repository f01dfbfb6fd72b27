use Rattle.std.proofs.Common.{◌≡◌}
use Rattle.ckc_types.specs.Pointers.{wrapped}
use Rattle.ckc_typed.specs.Types.{type_written}
use Rattle.ckc_typed.proofs.types.type_written.Given as goal

abbrev pub invariant-pointers : goal.invariant-pointers
invariant-pointers l = wrapped l.kinds (type_written l.rest) ≡ type_written l.t

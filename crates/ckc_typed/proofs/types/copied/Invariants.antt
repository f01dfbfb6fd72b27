use Rattle.std.proofs.Common.{◌≡◌}
use Rattle.ckc_types.specs.Pointers.{wrapped}
use Rattle.ckc_typed.proofs.types.copied.Given as goal

abbrev pub invariant-pointers : goal.invariant-pointers
invariant-pointers l = wrapped l.kinds l.rest ≡ l.t

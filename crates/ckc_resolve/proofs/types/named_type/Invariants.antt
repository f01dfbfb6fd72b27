use Rattle.std.proofs.Common.{◌≡◌}
use Rattle.ckc_resolve.specs.Types.{type_named}
use Rattle.ckc_resolve.proofs.TakenOff.{ahead}
use Rattle.ckc_resolve.proofs.types.named_type.Given as goal

abbrev pub invariant-pointers : goal.invariant-pointers
invariant-pointers l = type_named l.names l.t ≡ ahead l.pointers (type_named l.names l.rest)

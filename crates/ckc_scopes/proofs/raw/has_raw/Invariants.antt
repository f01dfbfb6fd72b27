use Rattle.std.proofs.Common.{◌≡◌}
use Rattle.ckc_typed.specs.Raw.{has_raw}
use Rattle.ckc_scopes.proofs.raw.has_raw.Given as goal

abbrev pub invariant-pointers : goal.invariant-pointers
invariant-pointers l = has_raw l.rest ≡ has_raw l.t

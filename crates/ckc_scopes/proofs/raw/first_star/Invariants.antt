use Rattle.std.proofs.Common.{◌≡◌}
use Rattle.std.specs.Option.{option_or}
use Rattle.ckc_typed.specs.Raw.{stars}
use Rattle.ckc_scopes.specs.code.Verdict.{first}
use Rattle.ckc_scopes.proofs.raw.first_star.Given as goal

abbrev pub invariant-pointers : goal.invariant-pointers
invariant-pointers g l = first (stars l.t) ≡ option_or (first (stars l.rest)) l.found

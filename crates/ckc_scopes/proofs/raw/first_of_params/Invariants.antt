use Rattle.std.proofs.Common.{◌≡◌, drop}
use Rattle.std.specs.Prelude.{flat_map}
use Rattle.ckc_typed.specs.Raw.{raws_of_param}
use Rattle.ckc_scopes.specs.code.Verdict.{first}
use Rattle.ckc_scopes.proofs.raw.first_of_params.Given as goal

-- what is left gives what the whole gives
abbrev pub invariant-loop-param : goal.invariant-loop-param
invariant-loop-param g l =
    first (flat_map raws_of_param l.params) ≡ first (flat_map raws_of_param (drop l.param-index l.params))

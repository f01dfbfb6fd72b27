use Rattle.std.proofs.Common.{◌≡◌, ◌+◌, ◌∙◌, sym, ap, drop}
use Rattle.std.specs.Prelude.{flat_map}
use Rattle.std.specs.Option.{option_or}
use Rattle.ckc_typed.specs.Raw.{raws_of_param}
use Rattle.ckc_scopes.specs.code.Verdict.{first}
use Rattle.ckc_scopes.proofs.Verdicts.{first_turn}
use Rattle.ckc_scopes.proofs.raw.first_of_params.Goals as goal

pub returns-in-Some : goal.returns-in-Some
returns-in-Some g c =
    let rest = first (flat_map raws_of_param (drop (c.loop-param.param-index + 1) c.args.params.now)) in
    sym (
    c.loop-param.invariant
    ∙ first_turn raws_of_param c.args.params.now c.loop-param.param-index c.param-item.result c.loop-param-test.true c.param-item.is
    ∙ ap (λ o. option_or o rest) (sym c.first_raw_of_param.ensures ∙ c.in-Some.is)
    )

pub loop-param-preserved : goal.loop-param-preserved
loop-param-preserved g c =
    let rest = first (flat_map raws_of_param (drop (c.loop-param.param-index + 1) c.args.params.now)) in
    c.loop-param.invariant
    ∙ first_turn raws_of_param c.args.params.now c.loop-param.param-index c.param-item.result c.loop-param-test.true c.param-item.is
    ∙ ap (λ o. option_or o rest) (sym c.first_raw_of_param.ensures ∙ c.in_default.is)

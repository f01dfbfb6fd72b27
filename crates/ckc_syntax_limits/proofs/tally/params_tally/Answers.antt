use Rattle.std.proofs.Common.{◌+◌, drop, ap, sym, ◌∙◌}
use Rattle.std.specs.Prelude.{flat_map}
use Rattle.ckc_syntax_limits.specs.Marks.{marks_of_param}
use Rattle.ckc_syntax_limits.specs.code.Tally.{tallied}
use Rattle.ckc_syntax_limits.proofs.Tallies.{tallied_turn}
use Rattle.ckc_syntax_limits.proofs.tally.params_tally.Goals as goal

pub loop-param-preserved : goal.loop-param-preserved
loop-param-preserved g c =
    let rest = flat_map marks_of_param (drop (c.loop-param.param-index + 1) c.args.params.now) in
    c.loop-param.invariant
    ∙ tallied_turn marks_of_param c.loop-param.tally c.args.params.now c.loop-param.param-index c.param-item.result c.loop-param-test.true c.param-item.is
    ∙ ap (λ t. tallied t rest) (sym c.param_tally-tally.ensures)

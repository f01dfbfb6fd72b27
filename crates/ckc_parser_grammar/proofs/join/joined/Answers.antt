use Rattle.std.proofs.Common.{◌-◌, ◌∙◌, sym, ap, arith}
use Rattle.ckc_parser_grammar.specs.code.Trees.{joined_to}
use Rattle.ckc_parser_grammar.proofs.Joining.{pass_one, all_passes}
use Rattle.ckc_parser_grammar.proofs.join.joined.Goals as goal

pub passes-preserved : goal.passes-preserved
passes-preserved c =
    ap (λ z. joined_to (c.passes.tightness - 1) z) c.in_ok-chain.ensures
    ∙ pass_one c.passes.tightness c.passes.chain.first c.passes.chain.steps (omega (arith, c.passes-test.ensures.more)) ∙ c.passes.invariant

pub returns : goal.returns
returns c = ap (λ z. z.0) (sym c.passes-test.ensures.done ∙ c.passes.invariant) ∙ sym (all_passes c.args.first c.args.steps)

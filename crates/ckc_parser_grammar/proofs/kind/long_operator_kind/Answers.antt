use Rattle.std.proofs.Common.{sym, ◌∙◌}
use Rattle.std.specs.Prelude.{codes}
use Rattle.ckc_parser_grammar.proofs.Spelled.{skip}
use Rattle.ckc_parser_grammar.proofs.kind.long_operator_kind.Goals as goal

pub returns-in_default : goal.returns-in_default
returns-in_default c = c.changing_kind.ensures ∙ sym (
    skip _ (codes "<<") _ _ c.in_default.not-text
    ∙ skip _ (codes "<=") _ _ c.in_default.not-text-2
    ∙ skip _ (codes ">=") _ _ c.in_default.not-text-3
    ∙ skip _ (codes "==") _ _ c.in_default.not-text-4
    ∙ skip _ (codes "!=") _ _ c.in_default.not-text-5
    ∙ skip _ (codes "&&") _ _ c.in_default.not-text-6
    ∙ skip _ (codes "||") _ _ c.in_default.not-text-7)

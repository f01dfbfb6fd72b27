use Rattle.std.proofs.Common.{sym, ◌∙◌}
use Rattle.std.specs.Prelude.{codes}
use Rattle.ckc_parser_grammar.proofs.Spelled.{skip}
use Rattle.ckc_parser_grammar.proofs.kind.checked_keyword_kind.Goals as goal

pub returns-in_default : goal.returns-in_default
returns-in_default c = c.checked_word_kind.ensures ∙ sym (
    skip _ (codes "_Ptr") _ _ c.in_default.not-text
    ∙ skip _ (codes "_Array_ptr") _ _ c.in_default.not-text-2
    ∙ skip _ (codes "_Nt_array_ptr") _ _ c.in_default.not-text-3
    ∙ skip _ (codes "_Checked") _ _ c.in_default.not-text-4
    ∙ skip _ (codes "_Unchecked") _ _ c.in_default.not-text-5
    ∙ skip _ (codes "_Nt_checked") _ _ c.in_default.not-text-6
    ∙ skip _ (codes "_Bundled") _ _ c.in_default.not-text-7
    ∙ skip _ (codes "_Dynamic_check") _ _ c.in_default.not-text-8
    ∙ skip _ (codes "_Dynamic_bounds_cast") _ _ c.in_default.not-text-9
    ∙ skip _ (codes "_Assume_bounds_cast") _ _ c.in_default.not-text-10)

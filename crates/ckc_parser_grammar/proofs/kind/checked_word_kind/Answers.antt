use Rattle.std.proofs.Common.{sym, ◌∙◌}
use Rattle.std.specs.Prelude.{codes}
use Rattle.ckc_parser_grammar.proofs.Spelled.{skip}
use Rattle.ckc_parser_grammar.proofs.kind.checked_word_kind.Goals as goal

pub returns-in_default : goal.returns-in_default
returns-in_default c = sym (
    skip _ (codes "ptr") _ _ c.in_default.not-ptr
    ∙ skip _ (codes "array_ptr") _ _ c.in_default.not-array_ptr
    ∙ skip _ (codes "nt_array_ptr") _ _ c.in_default.not-nt_array_ptr
    ∙ skip _ (codes "checked") _ _ c.in_default.not-checked
    ∙ skip _ (codes "unchecked") _ _ c.in_default.not-unchecked
    ∙ skip _ (codes "nt_checked") _ _ c.in_default.not-nt_checked
    ∙ skip _ (codes "dynamic_check") _ _ c.in_default.not-dynamic_check
    ∙ skip _ (codes "dynamic_bounds_cast") _ _ c.in_default.not-dynamic_bounds_cast
    ∙ skip _ (codes "assume_bounds_cast") _ _ c.in_default.not-assume_bounds_cast)

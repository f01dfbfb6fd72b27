use Rattle.std.proofs.Common.{sym, ◌∙◌}
use Rattle.std.specs.Prelude.{codes}
use Rattle.ckc_parser_grammar.proofs.Spelled.{skip}
use Rattle.ckc_parser_grammar.proofs.kind.special_kind.Goals as goal

pub returns-in_default : goal.returns-in_default
returns-in_default c = sym (
    skip _ (codes "calloc") _ _ c.in_default.not-calloc
    ∙ skip _ (codes "count") _ _ c.in_default.not-count
    ∙ skip _ (codes "byte_count") _ _ c.in_default.not-byte_count
    ∙ skip _ (codes "bounds") _ _ c.in_default.not-bounds
    ∙ skip _ (codes "unknown") _ _ c.in_default.not-unknown)

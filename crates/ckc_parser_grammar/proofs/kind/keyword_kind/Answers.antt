use Rattle.std.proofs.Common.{sym, ◌∙◌}
use Rattle.std.specs.Prelude.{codes}
use Rattle.ckc_parser_grammar.proofs.Spelled.{skip}
use Rattle.ckc_parser_grammar.proofs.kind.keyword_kind.Goals as goal

pub returns-in_default : goal.returns-in_default
returns-in_default c = c.checked_keyword_kind.ensures ∙ sym (
    skip _ (codes "int") _ _ c.in_default.not-int
    ∙ skip _ (codes "unsigned") _ _ c.in_default.not-unsigned
    ∙ skip _ (codes "char") _ _ c.in_default.not-char
    ∙ skip _ (codes "void") _ _ c.in_default.not-void
    ∙ skip _ (codes "struct") _ _ c.in_default.not-struct
    ∙ skip _ (codes "static") _ _ c.in_default.not-static
    ∙ skip _ (codes "if") _ _ c.in_default.not-if
    ∙ skip _ (codes "else") _ _ c.in_default.not-else
    ∙ skip _ (codes "while") _ _ c.in_default.not-while
    ∙ skip _ (codes "for") _ _ c.in_default.not-for
    ∙ skip _ (codes "return") _ _ c.in_default.not-return
    ∙ skip _ (codes "break") _ _ c.in_default.not-break
    ∙ skip _ (codes "continue") _ _ c.in_default.not-continue
    ∙ skip _ (codes "sizeof") _ _ c.in_default.not-sizeof
    ∙ skip _ (codes "NULL") _ _ c.in_default.not-NULL
    ∙ skip _ (codes "EOF") _ _ c.in_default.not-EOF)

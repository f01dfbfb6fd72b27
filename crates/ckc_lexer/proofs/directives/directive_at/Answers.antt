use Rattle.std.proofs.Common.{sym, ◌∙◌}
use Rattle.ckc_lexer.proofs.DirectiveFronts.{found_longest, found_directive, bad_longest}
use Rattle.ckc_lexer.proofs.directives.directive_at.Goals as goal

pub returns-in-Some : goal.returns-in-Some
returns-in-Some c =
    let t = c.args.text.now in
    found_longest t _ _ c.line_len-line.ensures c.without_spaces-len.ensures c.requires.hash c.requires.some c.in-Some.directive
    (found_directive t _ _ c.line_len-line.ensures c.without_spaces-len.ensures c.requires.hash c.requires.some c.in-Some.directive (sym c.directive_of.ensures ∙ c.in-Some.is))

pub returns-in-None : goal.returns-in-None
returns-in-None c = bad_longest c.args.text.now _ _ c.line_len-line.ensures c.without_spaces-len.ensures c.requires.hash c.requires.some (sym c.directive_of.ensures ∙ c.in-None.is)

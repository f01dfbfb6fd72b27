use Rattle.std.proofs.Common.{◌∙◌, Option, MatchOption, sym, subst, arith, length-take-le, get_or-take}
use Rattle.ckc_syntax.specs.Literals.{IsDigitsAfter, IsEscape, octal, hexadecimal}
use Rattle.ckc_syntax.specs.declared.literals.Piece.{Piece}
use Rattle.ckc_syntax.specs.Longest.{Longest, NoFront}
use Rattle.ckc_syntax.proofs.EscapeFronts.{only_hexadecimal, only_octal, same_answer, no_escape, simple_longest}
use Rattle.ckc_syntax.proofs.literals.escape_at.Goals as goal

pub returns-then-text-eq120 : goal.returns-then-text-eq120
returns-then-text-eq120 c =
    let t = c.args.text.now in
    same_answer (IsDigitsAfter 2 2 16) IsEscape t c.digits_after.result
    (λ m u some le d. let size = length-take-le m t le in hexadecimal (get_or-take m t 0 0 some ∙ c.requires.backslash) (get_or-take m t 1 0 (omega (arith, d.some)) ∙ c.if-text-eq120.true) d)
    (λ m u some le e. only_hexadecimal t m le u c.if-text-eq120.true e)
    c.digits_after.ensures

pub returns-then-digit_value-lt8 : goal.returns-then-digit_value-lt8
returns-then-digit_value-lt8 c =
    let t = c.args.text.now in
    same_answer (IsDigitsAfter 1 3 8) IsEscape t c.digits_after-then-digit_value-lt8.result
    (λ m u some le d. octal (get_or-take m t 0 0 some ∙ c.requires.backslash) d)
    (λ m u some le e. only_octal t m le u (omega (arith, c.type_inv.text 1)) (omega (arith, c.digit_value.ensures, c.if-digit_value-lt8.true)) e)
    c.digits_after-then-digit_value-lt8.ensures

pub returns-in_err-value : goal.returns-in_err-value
returns-in_err-value c =
    subst (λ (r : Option Piece). MatchOption r (NoFront IsEscape c.args.text.now) (λ p. Longest IsEscape c.args.text.now p.len p.value)) (sym c.from_residual.ensures)
    (no_escape c.args.text.now c.if-text-eq120.false (omega (arith, c.digit_value.ensures, c.if-digit_value-lt8.false)) (sym c.simple_escape.ensures ∙ c.in_err-value.was))

pub returns : goal.returns
returns c = simple_longest c.args.text.now c.in_ok-value.value (omega (arith, c.if-text-lt2.false)) c.requires.backslash c.if-text-eq120.false (omega (arith, c.digit_value.ensures, c.if-digit_value-lt8.false)) (sym c.simple_escape.ensures ∙ c.in_ok-value.was)

use Rattle.std.proofs.Common.{ℕ, List, subst, arith, length-take-le}
use Rattle.std.proofs.lemmas.List.{take_rest}
use Rattle.ckc_syntax.specs.code.DigitReading.{IsMostDigits}
use Rattle.ckc_syntax.proofs.DigitFronts.{no_more_digits, digits_longest}
use Rattle.ckc_syntax.proofs.literals.digits_after.Goals as goal

pub returns-then-digits-eq0 : goal.returns-then-digits-eq0
returns-then-digits-eq0 c = λ m u some le s.
    let d = subst (λ (l : List ℕ). IsMostDigits c.args.most c.args.radix l c.digits_at-digits.result.len c.digits_at-digits.result.value) (take_rest c.args.text.now c.args.lead) c.digits_at-digits.ensures in
    omega (arith, s.some, no_more_digits c.args.lead c.args.most c.args.radix c.args.text.now _ _ c.requires.lead d m u le s, c.if-digits-eq0.true, length-take-le m c.args.text.now le)

pub returns : goal.returns
returns c =
    let d = subst (λ (l : List ℕ). IsMostDigits c.args.most c.args.radix l c.digits_at-digits.result.len c.digits_at-digits.result.value) (take_rest c.args.text.now c.args.lead) c.digits_at-digits.ensures in
    digits_longest c.args.lead c.args.most c.args.radix c.args.text.now _ _ c.requires.lead d (omega (arith, c.if-digits-eq0.false))

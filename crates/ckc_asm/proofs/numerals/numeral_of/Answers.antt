use Rattle.std.proofs.Common.{arith, ◌∙◌, ap, min, ◌+◌, ◌*◌, ◌^◌, ◌<◌, ◌≡◌, get_or}
use Rattle.std.specs.Char.{digit_value}
use Rattle.ckc_asm.proofs.Digits.{digits_more, value_more}
use Rattle.ckc_asm.proofs.numerals.numeral_of.Goals as goal

pub loop-b-preserved : goal.loop-b-preserved
loop-b-preserved c =
    let radix = c.args.radix in
    let d = c.digit_value-digit.result in
    let is : d ≡ digit_value (get_or c.args.w.now c.loop-b.b-index 0) = c.digit_value-digit.ensures.value in
    let below : digit_value (get_or c.args.w.now c.loop-b.b-index 0) < radix = omega (arith, is, c.if-digit-radix.false) in
    let parts : c.loop-b.value * c.from.result + c.from-in-loop-b.result ≡ c.loop-b.value * radix + digit_value (get_or c.args.w.now c.loop-b.b-index 0) = cc in
    record {
      small = omega (arith, c.capped-value.ensures);
      value = c.capped-value.ensures ∙ ap (λ n. min n (2 ^ 40)) parts ∙ value_more radix c.args.w.now c.loop-b.b-index c.loop-b.value c.requires.radix.0 c.loop-b-test.true c.loop-b.invariant.value;
      digits = digits_more radix c.args.w.now c.loop-b.b-index c.loop-b-test.true below c.loop-b.invariant.digits;
    }

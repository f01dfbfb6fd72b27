use Rattle.std.proofs.Common.{inl, inr, arith}
use Rattle.ckc_syntax.proofs.DigitFronts.{value_next, digits_more, most_digits}
use Rattle.ckc_syntax.proofs.literals.digits_at.Goals as goal
use Rattle.ckc_syntax.proofs.literals.digits_at.Goals.{then-len-most-via-then-len-most, then-len-most-via-else-len-most+then-digit-radix, then-len-most-via-else-len-most+else-digit-radix+then-value-radix-gt255}

pub returns-then-len-most : goal.returns-then-len-most
returns-then-len-most c =
    let i = c.loop-len.invariant in
    let d = c.digit_value-digit.ensures in
    most_digits c.args.most c.args.radix c.args.text.now c.loop-len.len c.loop-len.value c.requires.low c.loop-len-test.true i.few i.value i.small i.digits
    (elim c.then-len-most.branch [
      | then-len-most-via-then-len-most w ↦ inl w.if-len-most.true
      | then-len-most-via-else-len-most+then-digit-radix w ↦ inr (inl (omega (arith, d, w.if-digit-radix.true)))
      | then-len-most-via-else-len-most+else-digit-radix+then-value-radix-gt255 w ↦ inr (inr (omega (arith, d, w.if-value-radix-gt255.true)))
    ])

pub loop-len-preserved : goal.loop-len-preserved
loop-len-preserved c =
    let i = c.loop-len.invariant in
    let d = c.digit_value-digit.ensures in
    record {
      few = omega (arith, c.if-len-most.false);
      value = value_next c.args.radix c.args.text.now c.loop-len.len _ _ i.value d c.loop-len-test.true;
      small = omega (arith, c.if-value-radix-gt255.false);
      digits = digits_more c.args.radix c.args.text.now c.loop-len.len i.digits (omega (arith, d, c.if-digit-radix.false));
    }

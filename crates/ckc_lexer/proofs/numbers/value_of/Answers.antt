use Rattle.std.proofs.Common.{◌+◌, arith}
use Rattle.ckc_syntax.proofs.DigitFronts.{value_next, value_front, digits_more}
use Rattle.ckc_lexer.proofs.numbers.value_of.Goals as goal

pub returns-then-value-gt4294967295 : goal.returns-then-value-gt4294967295
returns-then-value-gt4294967295 c = λ some all small.
    let e = value_next c.args.radix c.args.digits.now c.loop-b.b-index _ _ c.loop-b.invariant.value c.digit_value-digit.ensures c.loop-b-test.true in
    omega (arith, e, value_front c.args.radix c.requires.low (c.loop-b.b-index + 1) c.args.digits.now, small, c.if-value-gt4294967295.true)

pub loop-b-preserved : goal.loop-b-preserved
loop-b-preserved c = record {
  value = value_next c.args.radix c.args.digits.now c.loop-b.b-index _ _ c.loop-b.invariant.value c.digit_value-digit.ensures c.loop-b-test.true;
  small = omega (arith, c.if-value-gt4294967295.false);
  digits = digits_more c.args.radix c.args.digits.now c.loop-b.b-index c.loop-b.invariant.digits (omega (arith, c.digit_value-digit.ensures, c.if-digit-radix.false));
}

use Rattle.std.proofs.Common.{◌≡◌, ℕ, ◌<◌, ◌^◌, true, take, get_or}
use Rattle.ckc_syntax.specs.Digits.{is_digit_in, value_in}
use Rattle.ckc_lexer.proofs.numbers.value_of.Given as goal

abbrev pub invariant-loop-b : goal.invariant-loop-b
invariant-loop-b l = record {
  value : l.value ≡ value_in l.radix (take l.b-index l.digits);
  small : l.value < 2 ^ 32;
  digits : (k : ℕ) → k < l.b-index → is_digit_in l.radix (get_or l.digits k 0) ≡ true;
}

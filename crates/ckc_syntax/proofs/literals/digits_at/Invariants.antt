use Rattle.std.proofs.Common.{◌≡◌, ℕ, ◌<◌, ◌≤◌, true, take, get_or}
use Rattle.ckc_syntax.specs.Digits.{is_digit_in, value_in}
use Rattle.ckc_syntax.proofs.literals.digits_at.Given as goal

abbrev pub invariant-loop-len : goal.invariant-loop-len
invariant-loop-len l = record {
  few : l.len ≤ l.most;
  value : l.value ≡ value_in l.radix (take l.len l.text);
  small : l.value < 256;
  digits : (k : ℕ) → k < l.len → is_digit_in l.radix (get_or l.text k 0) ≡ true;
}

-- What the function finds that reads the digits of an escape.
use Rattle.std.specs.Prelude.{◌≡◌, ℕ, ◌<◌, ◌≤◌, true, List, length, take, slice_index}
use Rattle.ckc_syntax.specs.Digits.{is_digit_in, value_in}

-- the first n bytes are as many digits as there are, up to `most`, with a value below 256
pub record IsMostDigits (most radix : ℕ) (text : List ℕ) (n value : ℕ) : Type 0 where
  pub within : n ≤ length text
  pub few : n ≤ most
  pub digits : (k : ℕ) → k < n → is_digit_in radix (slice_index text k) ≡ true
  pub stands_for : value ≡ value_in radix (take n text)
  pub small : value < 256
  pub no_more : (m : ℕ) → n < m → m ≤ length text → m ≤ most → ((k : ℕ) → k < m → is_digit_in radix (slice_index text k) ≡ true) → value_in radix (take m text) < 256 → ⊥

-- The longest front of a text of bytes that pass a test.
use Rattle.std.specs.Prelude.{◌≡◌, ℕ, ◌<◌, ◌≤◌, Bool, true, false, List, length, slice_index}

-- the first n bytes of the text are its longest front of bytes that pass the test
pub record IsRun (test : ℕ → Bool) (text : List ℕ) (n : ℕ) : Type 0 where
  pub within : n ≤ length text
  pub inside : (k : ℕ) → k < n → test (slice_index text k) ≡ true
  pub after : n < length text → test (slice_index text n) ≡ false

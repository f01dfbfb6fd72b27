-- Multiples of a number.
use Rattle.std.specs.Prelude.{◌≡◌, ℕ, ◌*◌, ◌≤◌}

-- m is the least multiple of y that is at least x
pub record IsLeastMultiple (x y m : ℕ) : Type 0 where
  pub multiple : (k : ℕ) × (m ≡ k * y)
  pub reaches : x ≤ m
  pub least : (k : ℕ) → x ≤ k * y → m ≤ k * y

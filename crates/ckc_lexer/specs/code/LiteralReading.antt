-- What the functions that read literals find.
use Rattle.std.specs.Prelude.{◌≡◌, ℕ, ◌<◌, ◌≤◌, List, length, take}
use Rattle.ckc_syntax.specs.Literals.{IsLiteral}

-- the first n bytes are a literal with these values, and no other front is a literal
pub record IsOnlyLiteral (quote : ℕ) (text : List ℕ) (n : ℕ) (values : List ℕ) : Type 0 where
  pub long : 1 < n
  pub within : n ≤ length text
  pub literal : IsLiteral quote (take n text) values
  pub only : (m : ℕ) (others : List ℕ) → m ≤ length text → IsLiteral quote (take m text) others → m ≡ n

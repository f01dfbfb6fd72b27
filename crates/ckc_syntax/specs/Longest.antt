-- The longest front of a text that is spelled in some way.
use Rattle.std.specs.Prelude.{ℕ, ◌<◌, ◌≤◌, List, length, take}

-- The first n bytes of the text spell a, and no longer front of it spells anything.
pub record Longest {A : Type 0} (Spelled : List ℕ → A → Type 0) (text : List ℕ) (n : ℕ) (a : A) : Type 0 where
  pub some : 0 < n
  pub within : n ≤ length text
  pub spelled : Spelled (take n text) a
  pub longest : (m : ℕ) (other : A) → n < m → m ≤ length text → Spelled (take m text) other → ⊥

-- no front of the text spells anything
abbrev pub NoFront : {A : Type 0} → (List ℕ → A → Type 0) → List ℕ → Type 0
NoFront {A} Spelled text = (m : ℕ) (a : A) → 0 < m → m ≤ length text → Spelled (take m text) a → ⊥

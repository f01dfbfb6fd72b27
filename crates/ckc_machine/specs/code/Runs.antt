-- What a source that tells or stays silent gives.
use Rattle.std.specs.Prelude.{◌≡◌, ℕ, List, ◌⊎◌, Option}

-- What is left before and after is what the source tells; or nothing is asked for, and it is the same.
abbrev pub IsFed : Option (List ℕ) → Option (List ℕ) → Type 0 → Option (List ℕ) → Option (List ℕ) → Type 0
IsFed told told' silent left left' = ((left ≡ told) × (left' ≡ told')) ⊎ (silent × (left' ≡ left))

-- The codes with which the phases from the tree of spellings to the plain tree refuse.
use Rattle.std.specs.Prelude.{◌≡◌, ◌⊎◌, ◌≤◌, ℕ}

-- E408: an effect stands where it may not, or cannot be taken out of its expression
abbrev pub misplaced_effect : ℕ
misplaced_effect = 408

-- an error of the names, a misplaced effect, or a limit that is broken
abbrev pub IsCode : ℕ → Type 0
IsCode code = ((301 ≤ code) × (code ≤ 304)) ⊎ ((code ≡ misplaced_effect) ⊎ ((202 ≤ code) × (code ≤ 205)))

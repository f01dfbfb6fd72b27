-- The codes with which a text is refused, in the order of the numbers.
use Rattle.std.specs.Prelude.{◌≡◌, ◌⊎◌, ℕ, ◌≤◌}

-- of the tokens 101 to 105, of the syntax 120, of the limits of texts 201 to 206, of names 301 to 304, of types 401
-- to 407, of effects 408, of checked scopes 501 and 502, of bounds 601 to 607
abbrev pub IsTextCode : ℕ → Type 0
IsTextCode code =
    ((101 ≤ code) × (code ≤ 105)) ⊎ (code ≡ 120) ⊎ ((201 ≤ code) × (code ≤ 206))
    ⊎ ((301 ≤ code) × (code ≤ 304)) ⊎ ((401 ≤ code) × (code ≤ 408))
    ⊎ ((501 ≤ code) × (code ≤ 502)) ⊎ ((601 ≤ code) × (code ≤ 607))

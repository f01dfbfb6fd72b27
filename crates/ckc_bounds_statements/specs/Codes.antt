-- The codes that the bounds phase refuses a text with.
use Rattle.std.specs.Prelude.{◌≡◌, ◌⊎◌, ℕ}

-- E601 to E607
abbrev pub IsBoundsCode : ℕ → Type 0
IsBoundsCode code = (code ≡ 601) ⊎ (code ≡ 602) ⊎ (code ≡ 603) ⊎ (code ≡ 604) ⊎ (code ≡ 605) ⊎ (code ≡ 606) ⊎ (code ≡ 607)

-- What a step writes, to objects of their own types.
use Rattle.std.specs.Prelude.{◌≡◌, ◌≢◌, ℕ, ◌<◌, ◌^◌, true, List, [], ◌∷◌, is_some}
use Rattle.ckc_base.specs.Memory.{kept_part}
use Rattle.ckc_types.specs.declared.types.Structs.{Structs}
use Rattle.ckc_source.specs.declared.outcome.Place.{Place}
use Rattle.ckc_source.specs.declared.outcome.Place.TheVariants as place
use Rattle.ckc_source.specs.Blocks.{Block}
use Rattle.ckc_source.specs.Steps.{Write}
use Rattle.ckc_blame_sound.specs.Cells.{IsCell}

-- A word is written to an integer or a pointer of an element, and only zero if only that may be written.
abbrev pub IsCellWrite : Structs → List Block → Place → ℕ → Type 0
IsCellWrite structs blocks (place.Memory a width zero_alone) n =
    IsCell structs blocks a width (is_some zero_alone) × (is_some zero_alone ≡ true → kept_part width n ≡ 0) × (n < 2 ^ 32)
IsCellWrite structs blocks _ n = Unit {0}

-- this of each of some writes
unfoldable pub AreCellWrites : Structs → List Block → List Write → Type 0
AreCellWrites structs blocks [] = Unit {0}
AreCellWrites structs blocks (w ∷ ws) = IsCellWrite structs blocks w.0 w.1 × AreCellWrites structs blocks ws

-- a write is not to the address
abbrev pub IsElsewhere : ℕ → Place → Type 0
IsElsewhere c (place.Memory a width zero_alone) = a ≢ c
IsElsewhere c _ = Unit {0}

-- none of some writes is
unfoldable pub AreElsewhere : ℕ → List Write → Type 0
AreElsewhere c [] = Unit {0}
AreElsewhere c (w ∷ ws) = IsElsewhere c w.0 × AreElsewhere c ws

-- Spellings in the order in which they first come.
use Rattle.std.specs.Prelude.{ℕ, Bool, List, [], ◌∷◌, ◌++◌, if◌then◌else◌, Option}
use Rattle.std.specs.List.{list_any, position, position_or_len}
use Rattle.std.specs.Str.{bytes_eq}
pub use Rattle.ckc_syntax.specs.Trees.{Spelling}

-- whether a spelling is in the list
abbrev pub is_among : List Spelling → Spelling → Bool
is_among ss s = list_any (bytes_eq s) ss

-- a spelling goes last, unless it is there already
abbrev pub with_spelling : List Spelling → Spelling → List Spelling
with_spelling ss s = if is_among ss s then ss else ss ++ s ∷ []

-- its number from 0, if it is there
abbrev pub place_of : List Spelling → Spelling → Option ℕ
place_of ss s = position (bytes_eq s) ss

-- how many spellings stand before it
abbrev pub number_of : List Spelling → Spelling → ℕ
number_of ss s = position_or_len (bytes_eq s) ss

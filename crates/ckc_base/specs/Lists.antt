-- Lists in lists, lists that may be left out, and lists of bytes.
use Rattle.std.specs.Prelude.{ℕ, ◌<◌, List, [], ◌∷◌, ◌++◌, Option, None, Some}

-- the elements of the lists, from the first list to the last
abbrev pub concatenation : {A : Type 0} → List (List A) → List A
concatenation [] = []
concatenation (xs ∷ rest) = xs ++ concatenation rest

-- the list, or none of its elements if it is left out
abbrev pub or_empty : {A : Type 0} → Option (List A) → List A
or_empty None = []
or_empty (Some xs) = xs

-- each number is a byte
abbrev pub AreBytes : List ℕ → Type 0
AreBytes [] = Unit {0}
AreBytes (b ∷ bytes) = (b < 256) × AreBytes bytes

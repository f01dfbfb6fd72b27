-- The words of an image, with the lowest byte first.
use Rattle.std.specs.Prelude.{ℕ, List, take, drop}
use Rattle.std.specs.Int.{w16, w32, to_le_bytes, from_le_bytes}

-- the bytes of a word
abbrev pub word_bytes : ℕ → List ℕ
word_bytes n = to_le_bytes w32 n

-- the bytes of half a word
abbrev pub half_bytes : ℕ → List ℕ
half_bytes n = to_le_bytes w16 n

-- four bytes from a place
abbrev pub four_at : List ℕ → ℕ → List ℕ
four_at bytes at = take 4 (drop at bytes)

-- the word in the four bytes from a place
abbrev pub word_at : List ℕ → ℕ → ℕ
word_at bytes at = from_le_bytes w32 (four_at bytes at)

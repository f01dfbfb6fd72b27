-- Places, and what the bytes before a place decide.
use Rattle.std.specs.Prelude.{ℕ, ◌+◌, Bool, if◌then◌else◌, List, [], ◌∷◌, length, filter}
use Rattle.std.specs.List.{list_any, list_all}
use Rattle.ckc_base.specs.declared.places.Pos.{Pos}
use Rattle.ckc_lexer.specs.Bytes.{is_feed, is_blank}

-- the bytes after the last line feed
abbrev pub last_line : List ℕ → List ℕ
last_line [] = []
last_line (b ∷ bs) = if list_any is_feed (b ∷ bs) then last_line bs else b ∷ bs

-- the place after these bytes of a text: a line for each line feed, and a column for each byte of the line
abbrev pub place_after : List ℕ → Pos
place_after before = record { line = 1 + length (filter is_feed before); col = 1 + length (last_line before) }

-- whether a line that begins so has nothing but blanks yet
abbrev pub is_fresh_after : List ℕ → Bool
is_fresh_after before = list_all is_blank (last_line before)

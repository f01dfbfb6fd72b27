-- How a text is cut into lines, and a line into words.
use Rattle.std.specs.Prelude.{ℕ, ◌+◌, Bool, false, not, ◌||◌, ◌==◌, if◌then◌else◌, List, [], ◌∷◌}
use Rattle.std.specs.List.{slice_split}

-- the lines of a text: what stands between its line feeds
abbrev pub lines_of : List ℕ → List (List ℕ)
lines_of text = slice_split (λ b. b == 10) text

-- space, tab and carriage return
abbrev pub is_blank : ℕ → Bool
is_blank b = b == 32 || b == 9 || b == 13

-- `,` `(` `)` `:`, each a word of its own
abbrev pub is_mark : ℕ → Bool
is_mark b = b == 44 || b == 40 || b == 41 || b == 58

-- `#`, from which on a line is comment
abbrev pub is_hash : ℕ → Bool
is_hash b = b == 35

-- a byte that is part of a word: no blank, no mark and no `#`
abbrev pub is_word_byte : ℕ → Bool
is_word_byte b = not (is_blank b || is_mark b || is_hash b)

-- a word and its column, from 1
pub record Word : Type 0 where
  pub col : ℕ
  pub text : List ℕ

-- whether a word goes on in what follows
abbrev pub goes_on : List ℕ → Bool
goes_on [] = false
goes_on (b ∷ rest) = is_word_byte b

-- the words with this byte before the first, as a part of it or as a word
abbrev pub onto_word : ℕ → ℕ → List Word → List Word
onto_word col b [] = []
onto_word col b (w ∷ words) = record { col = col; text = b ∷ w.text } ∷ words

-- the words with a new one of this one byte before them
abbrev pub new_word : ℕ → ℕ → List Word → List Word
new_word col b words = record { col = col; text = b ∷ [] } ∷ words

-- The words of a line that begins at a column: the marks, and between them, blanks and the comment the longest
-- rows of other bytes.
unfoldable pub cut : ℕ → List ℕ → List Word
cut col [] = []
cut col (b ∷ rest) =
    if is_hash b then []
    else (if is_blank b then cut (col + 1) rest
    else (if is_mark b then new_word col b (cut (col + 1) rest)
    else (if goes_on rest then onto_word col b (cut (col + 1) rest)
    else new_word col b (cut (col + 1) rest))))

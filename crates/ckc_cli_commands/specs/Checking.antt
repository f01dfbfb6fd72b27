-- What `check` says of a text.
use Rattle.std.specs.Prelude.{ℕ, if◌then◌else◌, List, [], ◌∷◌, ◌++◌, codes}
use Rattle.ckc_typed.specs.declared.typed.Typed.{Typed}
use Rattle.ckc_blame.specs.Checked.{checked_text}

-- the words that say whether a text is wholly checked
abbrev pub checked_words : Typed → List ℕ
checked_words p = if checked_text p then codes "wholly checked" else codes "has unchecked code"

-- these words and LF
abbrev pub checked_line : Typed → List ℕ
checked_line p = checked_words p ++ 10 ∷ []

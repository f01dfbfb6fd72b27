-- The codes with which the lexer refuses: a byte that begins no token (E101), a comment that is open at the end (E102), a
-- bad number, character or string (E103), a name that is too long (E104), a line begun by `#` that is no directive
-- (E105).
use Rattle.std.specs.Prelude.{ℕ}

-- E101: a byte that begins no token
abbrev pub no_token : ℕ
no_token = 101

-- E102: a comment that is open at the end of the text
abbrev pub open_comment : ℕ
open_comment = 102

-- E103: a bad number, character or string
abbrev pub bad_literal : ℕ
bad_literal = 103

-- E104: a name of more than 63 bytes
abbrev pub long_name : ℕ
long_name = 104

-- E105: a line that begins with `#` and is no directive
abbrev pub bad_directive : ℕ
bad_directive = 105

-- Tokens with their kinds.
use Rattle.std.specs.Prelude.{◌+◌, ◌==◌, List, [], ◌∷◌, Bool, true, false, ◌&&◌, if◌then◌else◌}
use Rattle.ckc_syntax.specs.Spelled.{Spelled}
use Rattle.ckc_parser_grammar.specs.declared.kind.Kind.{Kind}
use Rattle.ckc_parser_grammar.specs.declared.kind.Kind.TheVariants as kind
use Rattle.ckc_parser_grammar.specs.code.Kinds.{kind_of_token}
use Rattle.ckc_parser_grammar.specs.code.Derives.{Sign}

-- The kind of a token after another: a `>` directly after a `>` may end a shift.
abbrev pub glued : Bool → Kind → Kind
glued adjacent kind.Greater = if adjacent then kind.GreaterNext else kind.Greater
glued adjacent k = k

-- whether the kind is that of a `>` that stands by itself
abbrev pub is_plain_greater : Kind → Bool
is_plain_greater kind.Greater = true
is_plain_greater _ = false

-- whether the first token is a `>` and the second stands directly after it on the same line
abbrev pub adjacent : Spelled → Spelled → Bool
adjacent x y = is_plain_greater (kind_of_token x) && (x.pos.line == y.pos.line && x.pos.col + 1 == y.pos.col)

-- the kind of the second of two tokens that follow one another
abbrev pub kind_after : Spelled → Spelled → Kind
kind_after x y = glued (adjacent x y) (kind_of_token y)

-- the tokens after another token, with their kinds
abbrev pub signs_after : Spelled → List Spelled → List Sign
signs_after x [] = []
signs_after x (y ∷ ys) = record { kind = kind_after x y; token = y } ∷ signs_after y ys

-- the tokens of a text with their kinds
abbrev pub signs : List Spelled → List Sign
signs [] = []
signs (x ∷ xs) = record { kind = kind_of_token x; token = x } ∷ signs_after x xs

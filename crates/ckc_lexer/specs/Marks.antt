-- Punctuators (ISO C11, 6.4.6): those that the language has.
use Rattle.std.specs.Prelude.{◌≡◌, ℕ, Bool, true, List, [], ◌∷◌, codes, bytes_eq}
use Rattle.std.specs.List.{list_any}
use Rattle.ckc_syntax.specs.declared.tokens.TokenKind.TheVariants.{Mark}
use Rattle.ckc_lexer.specs.declared.items.Item.{Item}
use Rattle.ckc_lexer.specs.declared.items.Item.TheVariants.{Token}

-- `>>` is not among them: it is two marks `>`
abbrev pub marks : List (List ℕ)
marks =
    codes "(" ∷ codes ")" ∷ codes "{" ∷ codes "}" ∷ codes "[" ∷ codes "]" ∷ codes "<" ∷ codes ">" ∷ codes "," ∷ codes ";"
    ∷ codes ":" ∷ codes "?" ∷ codes "=" ∷ codes "." ∷ codes "->" ∷ codes "+" ∷ codes "-" ∷ codes "*" ∷ codes "/" ∷ codes "%"
    ∷ codes "&" ∷ codes "|" ∷ codes "^" ∷ codes "~" ∷ codes "!" ∷ codes "<<" ∷ codes "<=" ∷ codes ">=" ∷ codes "==" ∷ codes "!="
    ∷ codes "&&" ∷ codes "||" ∷ codes "++" ∷ codes "--" ∷ codes "+=" ∷ codes "-=" ∷ codes "*=" ∷ codes "/=" ∷ codes "%="
    ∷ codes "&=" ∷ codes "|=" ∷ codes "^=" ∷ []

-- whether the bytes spell a mark
abbrev pub is_mark_text : List ℕ → Bool
is_mark_text w = list_any (bytes_eq w) marks

-- The bytes spell a mark, which is a token.
abbrev pub IsMarkItem : List ℕ → Item → Type 0
IsMarkItem w item = (is_mark_text w ≡ true) × (item ≡ Token Mark)

-- The items that begin with a quote: characters, strings, and broken ones.
use Rattle.std.specs.Prelude.{◌≡◌, ℕ, List, [], ◌∷◌, length}
use Rattle.ckc_syntax.specs.declared.tokens.TokenKind.TheVariants.{Character, Text}
use Rattle.ckc_syntax.specs.Literals.{IsLiteral}
use Rattle.ckc_lexer.specs.declared.items.Item.{Item}
use Rattle.ckc_lexer.specs.declared.items.Item.TheVariants.{Token, Broken}
use Rattle.ckc_lexer.specs.Codes.{bad_literal}

-- A single quote begins a character, or is refused as E103.
abbrev pub CharacterCases : List ℕ → Item → Type 0
CharacterCases w (Token (Character value)) = IsLiteral 39 w (value ∷ [])
CharacterCases w (Broken code) = (length w ≡ 1) × (code ≡ bad_literal)
CharacterCases w item = ⊥

-- A double quote begins a string, or is refused as E103.
abbrev pub TextCases : List ℕ → Item → Type 0
TextCases w (Token Text) = (values : List ℕ) × IsLiteral 34 w values
TextCases w (Broken code) = (length w ≡ 1) × (code ≡ bad_literal)
TextCases w item = ⊥

-- The phase that cuts a text into tokens.
use Rattle.std.specs.Prelude.{◌≡◌, ◌≤◌, ℕ, List, length, map}
use Rattle.ckc_base.specs.Phases.{Phase}
use Rattle.ckc_base.specs.Places.{longest_text}
use Rattle.ckc_syntax.specs.declared.tokens.Token as tokens
use Rattle.ckc_syntax.specs.Spelled.{Tokens, spelled}
use Rattle.ckc_lexer.specs.Cut.{Lexes, FirstFault}
use Rattle.ckc_lexer.specs.Places.{place_after}

-- A text that is not too long has its tokens, with the place just past it.
abbrev pub lexing : Phase (List ℕ) Tokens
lexing = record {
  Makes = λ text tokens. (length text ≤ longest_text) × Lexes text tokens.list × (tokens.end ≡ place_after text);
  Refuses = FirstFault;
}

-- tokens of the code, as definitions see them
abbrev pub tokens_in : List ℕ → List tokens.Token → Tokens
tokens_in text found = record { list = map spelled found; end = place_after text }

-- Tokens as definitions see them.
use Rattle.std.specs.Prelude.{ℕ, List}
use Rattle.ckc_base.specs.declared.places.Pos.{Pos}
use Rattle.ckc_syntax.specs.declared.tokens.TokenKind.{TokenKind}
use Rattle.ckc_syntax.specs.declared.tokens.Token as tokens

-- a token without where its bytes lie in memory
pub record Spelled : Type 0 where
  pub kind : TokenKind
  pub text : List ℕ
  pub pos : Pos

-- the tokens of a text, and the place just past it
pub record Tokens : Type 0 where
  pub list : List Spelled
  pub end : Pos

abbrev pub spelled : tokens.Token → Spelled
spelled t = record { kind = t.kind; text = t.text.now; pos = t.pos }

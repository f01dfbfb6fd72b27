-- Directives: each is one line (ISO C11, 6.10.2 and 6.10.6; Checked C specification 0.9, section 3, on the
-- scope pragma).
use Rattle.std.specs.Prelude.{◌≡◌, ℕ, ◌<◌, Bool, true, false, not, ◌⊎◌, List, ◌++◌, length, codes}
use Rattle.ckc_syntax.specs.declared.tokens.TokenKind.TheVariants as kinds
use Rattle.ckc_syntax.specs.declared.tokens.Directive.{Directive}
use Rattle.ckc_syntax.specs.declared.tokens.Directive.TheVariants.{Stdio, Stdlib, Stdchecked, ScopeOn, ScopeOff}
use Rattle.ckc_lexer.specs.declared.items.Item.{Item}
use Rattle.ckc_lexer.specs.declared.items.Item.TheVariants.{Token, Broken}
use Rattle.ckc_syntax.specs.Bytes.{AllBytes}
use Rattle.ckc_lexer.specs.Bytes.{is_space, is_feed}
use Rattle.ckc_lexer.specs.Codes.{no_token, bad_directive}

-- `#`, `include` and the header, with any spaces before the last two
pub record IsInclude (header w : List ℕ) : Type 0 where
  pub a : List ℕ
  pub b : List ℕ
  pub a_spaces : AllBytes is_space a
  pub b_spaces : AllBytes is_space b
  pub whole : w ≡ codes "#" ++ (a ++ (codes "include" ++ (b ++ header)))

-- `#`, `pragma`, `CHECKED_SCOPE` and the word, with spaces between, at least one where words would meet
pub record IsPragma (word w : List ℕ) : Type 0 where
  pub a : List ℕ
  pub b : List ℕ
  pub c : List ℕ
  pub a_spaces : AllBytes is_space a
  pub b_spaces : AllBytes is_space b
  pub b_some : 0 < length b
  pub c_spaces : AllBytes is_space c
  pub c_some : 0 < length c
  pub whole : w ≡ codes "#" ++ (a ++ (codes "pragma" ++ (b ++ (codes "CHECKED_SCOPE" ++ (c ++ word)))))

-- The bytes spell this directive, and no spaces stand after it.
abbrev pub IsDirective : List ℕ → Directive → Type 0
IsDirective w Stdio = IsInclude (codes "<stdio.h>") w
IsDirective w Stdlib = IsInclude (codes "<stdlib.h>") w
IsDirective w Stdchecked = IsInclude (codes "<stdchecked.h>") w
IsDirective w ScopeOn = IsPragma (codes "on") w ⊎ IsPragma (codes "ON") w
IsDirective w ScopeOff = IsPragma (codes "off") w ⊎ IsPragma (codes "OFF") w

-- the whole is a directive with spaces after it
pub record IsDirectiveLine (w : List ℕ) : Type 0 where
  pub front : List ℕ
  pub spaces : List ℕ
  pub directive : Directive
  pub whole : w ≡ front ++ spaces
  pub spaces_only : AllBytes is_space spaces
  pub is_directive : IsDirective front directive

-- A `#` that may begin a directive begins one, or its whole line is refused as E105.
abbrev pub DirectiveCases : List ℕ → Item → Type 0
DirectiveCases w (Token (kinds.Directive d)) = IsDirective w d
DirectiveCases w (Broken code) = (code ≡ bad_directive) × (0 < length w) × AllBytes (λ b. not (is_feed b)) w × (IsDirectiveLine w → ⊥)
DirectiveCases w item = ⊥

-- A `#` that is the first byte of its line but for blanks begins a directive, which nothing but spaces may
-- follow on the line. Every other `#` begins no token.
abbrev pub HashCases : Bool → List ℕ → Item → Type 0
HashCases true w item = DirectiveCases w item
HashCases false w item = (length w ≡ 1) × (item ≡ Broken no_token)

-- Which directive bytes are, as a function: what the code computes. `Directives` says what it means.
use Rattle.std.specs.Prelude.{◌≡◌, ℕ, ◌-◌, ◌<◌, ◌≤◌, true, false, ◌||◌, ◌==◌, if◌then◌else◌, List, length, drop, slice_index, codes, bytes_eq, nat_eq, Option, Some, None, option_and_then}
use Rattle.std.specs.List.{starts_with, prefix_len}
use Rattle.ckc_syntax.specs.declared.tokens.Directive.{Directive}
use Rattle.ckc_syntax.specs.declared.tokens.Directive.TheVariants.{Stdio, Stdlib, Stdchecked, ScopeOn, ScopeOff}
use Rattle.ckc_lexer.specs.Bytes.{is_space}

-- what stands after the word at the front
abbrev pub strip : List ℕ → List ℕ → Option (List ℕ)
strip word text = if starts_with nat_eq text word then Some (drop (length word) text) else None

-- what stands after the spaces at the front
abbrev pub behind_spaces : List ℕ → List ℕ
behind_spaces text = drop (prefix_len is_space text) text

-- the same if there is a space
abbrev pub behind_some_spaces : List ℕ → Option (List ℕ)
behind_some_spaces text = if prefix_len is_space text == 0 then None else Some (behind_spaces text)

abbrev pub header_of : List ℕ → Option Directive
header_of w =
    if bytes_eq w (codes "<stdio.h>") then Some Stdio
    else (if bytes_eq w (codes "<stdlib.h>") then Some Stdlib
    else (if bytes_eq w (codes "<stdchecked.h>") then Some Stdchecked
    else None))

abbrev pub scope_of : List ℕ → Option Directive
scope_of w =
    if bytes_eq w (codes "on") || bytes_eq w (codes "ON") then Some ScopeOn
    else (if bytes_eq w (codes "off") || bytes_eq w (codes "OFF") then Some ScopeOff
    else None)

infixl 10 ◌>>=◌
abbrev pub ◌>>=◌ : {A B : Type 0} → Option A → (A → Option B) → Option B
o >>= f = option_and_then f o

-- what stands after `pragma`
unfoldable pub pragma_of : List ℕ → Option Directive
pragma_of text = do
  a ← behind_some_spaces text
  b ← strip (codes "CHECKED_SCOPE") a
  c ← behind_some_spaces b
  scope_of c

-- a header after `include`, else a scope after `pragma`
unfoldable pub include_or_pragma : Option (List ℕ) → Option (List ℕ) → Option Directive
include_or_pragma (Some rest) other = header_of (behind_spaces rest)
include_or_pragma None other = other >>= pragma_of

-- what stands after `#`
unfoldable pub body_of : List ℕ → Option Directive
body_of text = include_or_pragma (strip (codes "include") (behind_spaces text)) (strip (codes "pragma") (behind_spaces text))

-- the n first bytes of the line are the line without the spaces at its end
pub record IsTrimmed (line : List ℕ) (n : ℕ) : Type 0 where
  pub within : n ≤ length line
  pub spaces : (k : ℕ) → n ≤ k → k < length line → is_space (slice_index line k) ≡ true
  pub last : 0 < n → is_space (slice_index line (n - 1)) ≡ false

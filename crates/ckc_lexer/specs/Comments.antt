-- Comments (ISO C11, 6.4.9), and the marks `/` and `/=`, which begin as they do.
use Rattle.std.specs.Prelude.{◌≡◌, ℕ, ◌+◌, ◌-◌, ◌<◌, ◌≤◌, not, List, length, take, slice_index, codes}
use Rattle.ckc_syntax.specs.declared.tokens.TokenKind.TheVariants.{Mark}
use Rattle.ckc_lexer.specs.declared.items.Item.{Item}
use Rattle.ckc_lexer.specs.declared.items.Item.TheVariants.{Gap, Token, Broken}
use Rattle.ckc_syntax.specs.Bytes.{AllBytes}
use Rattle.ckc_lexer.specs.Bytes.{is_feed}
use Rattle.ckc_lexer.specs.Codes.{open_comment}

-- `//` and what follows it on the line
abbrev pub IsLineComment : List ℕ → Type 0
IsLineComment w = (2 ≤ length w) × (slice_index w 1 ≡ 47) × AllBytes (λ b. not (is_feed b)) w

-- `/*` and what follows it, with no `*/` after these two bytes
pub record IsOpen (w : List ℕ) : Type 0 where
  pub begun : 2 ≤ length w
  pub star : slice_index w 1 ≡ 42
  pub no_end : (k : ℕ) → 2 ≤ k → k + 1 < length w → slice_index w k ≡ 42 → slice_index w (k + 1) ≡ 47 → ⊥

-- `/*` and what follows it up to the first `*/`
pub record IsClosed (w : List ℕ) : Type 0 where
  pub whole : 4 ≤ length w
  pub open_before : IsOpen (take (length w - 1) w)
  pub star : slice_index w (length w - 2) ≡ 42
  pub slash : slice_index w (length w - 1) ≡ 47

-- a comment is a gap; one that is open at the end is a fault
pub data IsSlashItem (w : List ℕ) (item : Item) : Type 0 where
  mark : length w ≡ 1 → item ≡ Token Mark → IsSlashItem w item
  division : w ≡ codes "/=" → item ≡ Token Mark → IsSlashItem w item
  line : IsLineComment w → item ≡ Gap → IsSlashItem w item
  closed : IsClosed w → item ≡ Gap → IsSlashItem w item
  open_at_end : IsOpen w → item ≡ Broken open_comment → IsSlashItem w item

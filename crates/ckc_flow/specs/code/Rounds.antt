-- What rounds through the blocks of a function make of its rows.
use Rattle.std.specs.Prelude.{◌≡◌, ◌≤◌, ◌<◌, ℕ, Bool, true, false, if◌then◌else◌, List, [], length, get_or, set, slice_get, sum_by, Some}
use Rattle.ckc_tac.specs.declared.code.TacBlock.{TacBlock}
use Rattle.ckc_flow.specs.Live.{IsLive}
use Rattle.ckc_flow.specs.code.Rows.{joined, made}

-- what a row marks is marked in another one
abbrev pub IsWithin : List Bool → List Bool → Type 0
IsWithin row other = (r : ℕ) → get_or row r false ≡ true → get_or other r false ≡ true

abbrev pub HasMore : List Bool → List Bool → Type 0
HasMore row other = (r : ℕ) × (get_or row r false ≡ true) × (get_or other r false ≡ false)

-- how many marks are not set
abbrev pub unset : Bool → ℕ
unset b = if b then 0 else 1

abbrev pub unset_in_row : List Bool → ℕ
unset_in_row row = sum_by unset row

abbrev pub unset_in : List (List Bool) → ℕ
unset_in rows = sum_by unset_in_row rows

-- each block has a row, and what it marks is live
pub record AreSound (blocks : List TacBlock) (regs : ℕ) (rows : List (List Bool)) : Type 0 where
  pub long : length rows ≡ length blocks
  pub wide : (b : ℕ) → b < length blocks → length (get_or rows b []) ≡ regs
  pub sound : (b r : ℕ) (block : TacBlock) → slice_get blocks b ≡ Some block → get_or (get_or rows b []) r false ≡ true
      → IsLive blocks r block.ops block.end

-- from one block on, the rows of the blocks after a block make nothing live that its row lacks
abbrev pub AreClosed : List TacBlock → ℕ → ℕ → List (List Bool) → Type 0
AreClosed blocks regs from rows =
    (b : ℕ) (block : TacBlock) → from ≤ b → slice_get blocks b ≡ Some block → IsWithin (made rows regs block) (get_or rows b [])

-- the rows are as before and one has all of a new row, or it has been joined to it
abbrev pub Visits : List Bool → ℕ → List (List Bool) → List (List Bool) → Bool → Type 0
Visits row b old new true = HasMore row (get_or old b []) × (new ≡ set old b (joined (get_or old b []) row))
Visits row b old new false = IsWithin row (get_or old b []) × (new ≡ old)

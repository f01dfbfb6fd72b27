-- The search for the blocks that are reached.
use Rattle.std.specs.Prelude.{◌≡◌, ◌⊎◌, ◌+◌, ◌≤◌, ◌<◌, ℕ, Bool, true, false, if◌then◌else◌, List, [], ◌∷◌, ◌++◌, length, get_or, set, slice_get, sum_by, Some}
use Rattle.ckc_tac.specs.declared.code.TacBlock.{TacBlock}
use Rattle.ckc_tac.specs.declared.code.TacEnd.{TacEnd}
use Rattle.ckc_passes_jumps.specs.Jumps.{LeadsShort, IsReached, IsPlace}

-- this one is set
abbrev pub Has : List Bool → ℕ → Type 0
Has marks b = get_or marks b false ≡ true

abbrev pub unset : Bool → ℕ
unset b = if b then 0 else 1

-- A block is put behind those that are to be passed and gets its mark, if it is one and has none.
abbrev pub IsPut : (b : ℕ) (marks : List Bool) (order : List ℕ) (marks' : List Bool) (order' : List ℕ) → Type 0
IsPut b marks order marks' order' =
    ((b < length marks → Has marks b) × (marks' ≡ marks) × (order' ≡ order))
    ⊎ ((b < length marks) × (get_or marks b false ≡ false) × (marks' ≡ set marks b true) × (order' ≡ order ++ b ∷ []))

-- Each block that this one leads to has a mark.
abbrev pub IsPassed : List TacBlock → (b : ℕ) (marks : List Bool) → Type 0
IsPassed blocks b marks = (block : TacBlock) (c : ℕ) → slice_get blocks b ≡ Some block → LeadsShort blocks block.end c
    → c < length marks → Has marks c

-- the block stands in the order, from this place on
abbrev pub Waits : (order : List ℕ) (i b : ℕ) → Type 0
Waits order i b = (k : ℕ) × (i ≤ k) × (slice_get order k ≡ Some b)

-- The search has passed the first blocks of the order, so many: it has marked reached blocks alone, each of them is
-- passed or waits, and each of the order is marked.
pub record IsSearch (blocks : List TacBlock) (i : ℕ) (marks : List Bool) (order : List ℕ) : Type 0 where
  pub long : length marks ≡ length blocks
  pub counts : sum_by unset marks + length order ≡ length blocks
  pub first : 0 < length marks → Has marks 0
  pub sound : (b : ℕ) → Has marks b → IsReached blocks b
  pub marked : (k b : ℕ) → slice_get order k ≡ Some b → Has marks b
  pub all : (b : ℕ) → Has marks b → IsPassed blocks b marks ⊎ Waits order i b

-- The blocks that an end leads to are put.
pub record IsPutFor (blocks : List TacBlock) (end : TacEnd) (marks : List Bool) (order : List ℕ) (marks' : List Bool) (order' : List ℕ) : Type 0 where
  pub long : length marks' ≡ length marks
  pub stays : (k b : ℕ) → slice_get order k ≡ Some b → slice_get order' k ≡ Some b
  pub keeps : (b : ℕ) → Has marks b → Has marks' b
  pub has : (c : ℕ) → LeadsShort blocks end c → c < length marks → Has marks' c
  pub goes : (i : ℕ) → i ≤ length order → ((c : ℕ) → LeadsShort blocks end c → IsReached blocks c)
      → IsSearch blocks i marks order → (i ≤ length order') × IsSearch blocks i marks' order'

-- The blocks that this one leads to are put.
abbrev pub IsPassedNow : List TacBlock → ℕ → List Bool → List ℕ → List Bool → List ℕ → Type 0
IsPassedNow blocks b marks order marks' order' =
    (block : TacBlock) × (slice_get blocks b ≡ Some block) × IsPutFor blocks block.end marks order marks' order'

-- exactly the blocks that are reached have a mark
pub record AreReached (blocks : List TacBlock) (marks : List Bool) : Type 0 where
  pub long : length marks ≡ length blocks
  pub sound : (b : ℕ) → Has marks b → IsReached blocks b
  pub complete : (b : ℕ) → b < length blocks → IsReached blocks b → Has marks b

-- the new numbers of the first blocks, so many
pub record ArePlaced (blocks : List TacBlock) (count : ℕ) (places : List ℕ) : Type 0 where
  pub long : length places ≡ count
  pub right : (b : ℕ) → b < count → IsPlace blocks b (get_or places b 0)

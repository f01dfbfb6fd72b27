-- Ranges of places, one for each register: what they cover.
use Rattle.std.specs.Prelude.{◌≡◌, ◌⊎◌, ℕ, ◌+◌, ◌≤◌, ◌<◌, nat_lt, if◌then◌else◌, true, List, [], length, get_or, slice_get, take, sum_by, Some}
use Rattle.ckc_tac.specs.declared.code.TacBlock.{TacBlock}
use Rattle.ckc_tac.specs.declared.code.TacFunc.{TacFunc}
use Rattle.ckc_tac.specs.declared.code.TacOp.{TacOp}
use Rattle.ckc_tac.specs.declared.code.TacOp.TheVariants.{Get}
use Rattle.ckc_flow.specs.Live.{IsLive, reads, target_of}
use Rattle.ckc_assign.specs.Slots.{IsUsedAt, places_in}
use Rattle.ckc_assign.specs.declared.ranges.Range.{Range}

abbrev pub unused : Range
unused = record { first = 1; last = 0 }

abbrev pub range_of : List Range → ℕ → Range
range_of ranges r = get_or ranges r unused

-- a place lies in the range of a register
abbrev pub Covers : List Range → ℕ → ℕ → Type 0
Covers ranges r p = ((range_of ranges r).first ≤ p) × (p ≤ (range_of ranges r).last)

-- the least range with a place more
abbrev pub reach : Range → ℕ → Range
reach range place =
    if nat_lt range.last range.first
    then record { first = place; last = place }
    else (if nat_lt place range.first
    then record { first = place; last = range.last }
    else (if nat_lt range.last place then record { first = range.first; last = place } else range))

-- a register has a range
abbrev pub HasRange : List Range → ℕ → Type 0
HasRange ranges r = (range_of ranges r).first ≤ (range_of ranges r).last

-- the first and the last places of ranges are those of before, or places of a kind
abbrev pub AreTight : (ℕ → ℕ → Type 0) → List Range → List Range → Type 0
AreTight IsNew old new = (r : ℕ) → HasRange new r
    → ((HasRange old r × ((range_of new r).first ≡ (range_of old r).first)) ⊎ IsNew r (range_of new r).first)
    × ((HasRange old r × ((range_of new r).last ≡ (range_of old r).last)) ⊎ IsNew r (range_of new r).last)

-- The ranges only grow, and those of some registers reach to a place.
pub record Sees (IsSeen : ℕ → Type 0) (place : ℕ) (old new : List Range) : Type 0 where
  pub long : length new ≡ length old
  pub grown : (r p : ℕ) → Covers old r p → Covers new r p
  pub seen : (r : ℕ) → r < length old → IsSeen r → Covers new r place
  pub tight : AreTight (λ r p. IsSeen r × (p ≡ place)) old new

abbrev pub no_op : TacOp
no_op = Get 0

-- the operations of a block up to one use a register at a place, from a place on
abbrev pub IsUsedIn : List TacOp → (count from r p : ℕ) → Type 0
IsUsedIn ops count from r p =
    (i : ℕ) × (i < count) × (((reads r (get_or ops i no_op) ≡ true) × (p ≡ from + i))
    ⊎ ((target_of (get_or ops i no_op) ≡ Some r) × (p ≡ from + i + 1)))

-- The ranges only grow, and cover what the first operations of a block use, from a place on.
pub record SeesOps (ops : List TacOp) (count place : ℕ) (old new : List Range) : Type 0 where
  pub long : length new ≡ length old
  pub grown : (r p : ℕ) → Covers old r p → Covers new r p
  pub read : (i r : ℕ) → i < count → r < length old → reads r (get_or ops i no_op) ≡ true → Covers new r (place + i)
  pub written : (i r : ℕ) → i < count → r < length old → target_of (get_or ops i no_op) ≡ Some r → Covers new r (place + i + 1)
  pub tight : AreTight (IsUsedIn ops count place) old new

-- a block uses a register at a place, from a place on
abbrev pub IsUsedInBlock : TacFunc → TacBlock → (from r p : ℕ) → Type 0
IsUsedInBlock f block from r p =
    ((p ≡ from) × IsLive f.blocks r block.ops block.end) ⊎ IsUsedIn block.ops (length block.ops) from r p
    ⊎ ((p ≡ from + length block.ops) × IsLive f.blocks r [] block.end)

-- The ranges only grow, and cover what a block uses, from a place on.
pub record SeesBlock (f : TacFunc) (block : TacBlock) (place : ℕ) (old new : List Range) : Type 0 where
  pub long : length new ≡ length old
  pub grown : (r p : ℕ) → Covers old r p → Covers new r p
  pub begin : (r : ℕ) → r < f.regs → IsLive f.blocks r block.ops block.end → Covers new r place
  pub read : (i r : ℕ) → i < length block.ops → r < f.regs → reads r (get_or block.ops i no_op) ≡ true → Covers new r (place + i)
  pub written : (i r : ℕ) → i < length block.ops → r < f.regs → target_of (get_or block.ops i no_op) ≡ Some r → Covers new r (place + i + 1)
  pub end : (r : ℕ) → r < f.regs → IsLive f.blocks r [] block.end → Covers new r (place + length block.ops)

-- The same, and the ranges reach to nothing else.
pub record PassesBlock (f : TacFunc) (block : TacBlock) (place : ℕ) (old new : List Range) : Type 0 where
  pub seen : SeesBlock f block place old new
  pub tight : AreTight (IsUsedInBlock f block place) old new

-- the number of the first place of a block
abbrev pub first_place : TacFunc → ℕ → ℕ
first_place f b = 1 + sum_by places_in (take b f.blocks)

-- The ranges of a function cover its parameters at the entry and what its first blocks use.
pub record SeesFirst (f : TacFunc) (count : ℕ) (ranges : List Range) : Type 0 where
  pub long : length ranges ≡ f.regs
  pub entered : (r : ℕ) → r < f.regs → r < f.params → Covers ranges r 1
  pub blocks : (b : ℕ) (block : TacBlock) → b < count → slice_get f.blocks b ≡ Some block → (old : List Range) × SeesBlock f block (first_place f b) old ranges
  pub tight : (r : ℕ) → HasRange ranges r
      → IsUsedAt f r (range_of ranges r).first × IsUsedAt f r (range_of ranges r).last

abbrev pub SeesAll : TacFunc → List Range → Type 0
SeesAll f ranges = SeesFirst f (length f.blocks) ranges

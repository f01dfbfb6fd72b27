-- A register has a slot only if more than sixteen live ranges meet.
use Rattle.std.specs.Prelude.{◌≡◌, ℕ, ◌+◌, ◌≤◌, ◌<◌, List, [], ◌∷◌, length, slice_get, take, sum_by, Some, All}
use Rattle.std.specs.List.{Contains}
use Rattle.ckc_tac.specs.declared.code.TacBlock.{TacBlock}
use Rattle.ckc_tac.specs.declared.code.TacFunc.{TacFunc}
use Rattle.ckc_tac.specs.declared.code.TacOp.{TacOp}
use Rattle.ckc_flow.specs.Live.{IsLive, target_of}
use Rattle.ckc_frame.specs.declared.code.PlacedFunc.{PlacedFunc}
use Rattle.ckc_frame.specs.declared.code.Place.TheVariants.{Slot}
use Rattle.ckc_assign.specs.Apart.{IsPoint}

abbrev pub places_in : TacBlock → ℕ
places_in block = length block.ops + 1

-- The number of a place in the order of blocks and operations, from 1.
abbrev pub number_at : TacFunc → ℕ → List TacOp → ℕ
number_at f b front = 1 + sum_by places_in (take b f.blocks) + length front

-- A register is in use at a place: it is live there, it is written by the operation in front of the place, or it is a
-- parameter and the place is the entry.
pub data IsUsedAt (f : TacFunc) (r n : ℕ) : Type 0 where
  live_there : (b : ℕ) (block : TacBlock) (front ops : List TacOp) → IsPoint f b block front ops
      → number_at f b front ≡ n → IsLive f.blocks r ops block.end → IsUsedAt f r n
  written_there : (b : ℕ) (block : TacBlock) (front ops : List TacOp) (op : TacOp)
      → IsPoint f b block front (op ∷ ops) → number_at f b front + 1 ≡ n → target_of op ≡ Some r → IsUsedAt f r n
  entered_there : n ≡ 1 → r < f.params → IsUsedAt f r n

-- The live range of a register reaches from the first to the last place at which it is in use.
pub record IsInRange (f : TacFunc) (n r : ℕ) : Type 0 where
  pub first : (p : ℕ) × (p ≤ n) × IsUsedAt f r p
  pub last : (p : ℕ) × (n ≤ p) × IsUsedAt f r p

-- no register stands in the list twice
abbrev pub AreDistinct : List ℕ → Type 0
AreDistinct [] = Unit {0}
AreDistinct (r ∷ rs) = (Contains rs r → ⊥) × AreDistinct rs

-- At some place of the range of a register more than sixteen ranges meet.
pub record IsCrowded (f : TacFunc) (r : ℕ) : Type 0 where
  pub place : ℕ
  pub here : IsInRange f place r
  pub others : List ℕ
  pub many : length others ≡ 16
  pub distinct : AreDistinct (r ∷ others)
  pub meet : All (IsInRange f place) others

-- A register has a slot only if more than sixteen ranges meet at some place of its own.
abbrev pub UsesFewSlots : PlacedFunc → Type 0
UsesFewSlots f = (r s : ℕ) → slice_get f.homes r ≡ Some (Slot s) → IsCrowded f.code r

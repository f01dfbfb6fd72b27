-- Sound states of the program of a judged text (Ruef, Lampropoulos, Sweet, Tarditi and Hicks, "Achieving Safety
-- Incrementally with Checked C", POST 2019: from a state that is well formed, checked code does not get stuck).
use Rattle.std.specs.Prelude.{◌≡◌, ℕ, ◌+◌, ◌-◌, ◌*◌, ◌%◌, ◌<◌, ◌≤◌, true, List, [], ◌∷◌, length, slice_index}
use Rattle.std.specs.List.{All}
use Rattle.ckc_base.specs.Lists.{AreBytes}
use Rattle.ckc_base.specs.Memory.{data_end}
use Rattle.ckc_typed.specs.declared.typed.Typed.{Typed}
use Rattle.ckc_typed.specs.Constants.{size_of}
use Rattle.ckc_typed.specs.Types.{is_integer}
use Rattle.ckc_source.specs.declared.program.Object.{Object}
use Rattle.ckc_source.specs.Blocks.{Block, end_of, block_of, first_place}
use Rattle.ckc_source.specs.Source.{IsOrderly}
use Rattle.ckc_source.specs.States.{State}
use Rattle.ckc_build_elaborate.specs.Objects.{objects_elaborated}
use Rattle.ckc_blame_sound.specs.Settings.{Setting}
use Rattle.ckc_blame_sound.specs.Slots.{AreFilled}
use Rattle.ckc_blame_sound.specs.Calls.{store_in, Stands, AreWaiting}

-- A null-terminated block is an array of integers, of at least one, and each byte of its last element is zero.
pub record IsTerminated (b : Block) : Type 0 where
  pub integers : is_integer b.element ≡ true
  pub some : 0 < b.count
  pub zero : (i : ℕ) → i < b.size → slice_index b.bytes (b.size * (b.count - 1) + i) ≡ 0

-- A block lies in the data region at a multiple of 8, and its bytes are those of its elements, each of the size of its type.
pub record IsPlaced (p : Typed) (b : Block) : Type 0 where
  pub aligned : b.base % 8 ≡ 0
  pub above : first_place ≤ b.base
  pub below : end_of b ≤ data_end
  pub size : b.size ≡ size_of p.layout b.element
  pub sized : 0 < b.size
  pub whole : length b.bytes ≡ b.size * b.count
  pub terminated : b.terminated ≡ true → IsTerminated b

-- The first blocks are the static objects and string literals, with other bytes perhaps.
abbrev pub AreObjects : List Object → List Block → Type 0
AreObjects [] blocks = Unit {0}
AreObjects (o ∷ os) [] = ⊥
AreObjects (o ∷ os) (b ∷ blocks) = (b ≡ record (block_of o) { bytes = b.bytes }) × AreObjects os blocks

-- The blocks of a state, and where the next one will lie.
pub record IsMemory (p : Typed) (blocks : List Block) (place : ℕ) : Type 0 where
  pub placed : All (IsPlaced p) blocks
  pub objects : AreObjects (objects_elaborated p) blocks
  pub aligned : place % 8 ≡ 0
  pub above : first_place ≤ place

-- A state of the program of a text is sound: its blocks lie as they must and hold bytes, null-terminated ones end with
-- zero, each checked pointer in memory may be read within its bounds, what is left of the input is bytes, the active call
-- stands where its function was judged, and each other call waits where it was.
pub record Sound (p : Typed) (s : State) : Type 0 where
  pub orderly : IsOrderly s
  pub memory : IsMemory p s.blocks s.next
  pub filled : AreFilled p (store_in p s.blocks s.frame)
  pub input : AreBytes s.input
  pub setting : Setting
  pub stands : Stands p s.blocks s.frame setting
  pub waiting : AreWaiting p s.blocks s.callers setting s.frame.function s.frame.entry

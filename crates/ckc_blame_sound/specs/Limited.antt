-- The checked pointers that memory holds, and the members that their bounds read.
use Rattle.std.specs.Prelude.{◌≡◌, ◌⊎◌, ℕ, ◌+◌, ◌*◌, ◌<◌, List, slice_get, Some, IfSome}
use Rattle.std.specs.List.{Contains}
use Rattle.ckc_base.specs.declared.arithmetic.Width.TheVariants.{Word}
use Rattle.ckc_types.specs.declared.types.CType.{CType}
use Rattle.ckc_types.specs.declared.types.Structs.{Structs}
use Rattle.ckc_typed.specs.declared.typed.Typed.{Typed}
use Rattle.ckc_source.specs.declared.expr.Count.{Count}
use Rattle.ckc_source.specs.declared.expr.Count.TheVariants as count
use Rattle.ckc_source.specs.Words.{width_of}
use Rattle.ckc_source.specs.Blocks.{Block}
use Rattle.ckc_source.specs.declared.program.Shape.{Shape}
use Rattle.ckc_source.specs.Eval.{Store}
use Rattle.ckc_source.specs.Steps.{Write}
use Rattle.ckc_blame_sound.specs.Slots.{Slot, slots_of, IsFilled}
use Rattle.ckc_blame_sound.specs.Cells.{IsPart}
use Rattle.ckc_blame_sound.specs.Writes.{AreElsewhere}

-- the member that a count names is an integer of the structure
abbrev pub IsCountPart : Structs → CType → Count → Type 0
IsCountPart structs t (count.Fixed n) = Unit {0}
IsCountPart structs t (count.Member offset form add) = IsPart structs t offset (width_of form)

-- A slot of a type is a pointer of it, and so is the member that its count names.
pub record IsSlotPart (structs : Structs) (t : CType) (slot : Slot) : Type 0 where
  pub pointer : IsPart structs t slot.offset Word
  pub counted : IsCountPart structs t slot.count

-- Elements of the type may lie in the block with a number: if that is the block of a static object, they are of its
-- type.
abbrev pub IsElementAt : Typed → ℕ → CType → Type 0
IsElementAt p number t = IfSome (slice_get p.statics number) (λ o. o.element ≡ t)

-- this of the slots of each type in each block in which elements of it may lie
abbrev pub AreSlotParts : Typed → Type 0
AreSlotParts p =
    (number : ℕ) (t : CType) (slot : Slot) → IsElementAt p number t → Contains (slots_of p number t) slot
    → IsSlotPart p.layout t slot

-- no write is to the member that a count names, in the element at an address
abbrev pub IsCountSpared : List Write → ℕ → Count → Type 0
IsCountSpared ws at (count.Fixed n) = Unit {0}
IsCountSpared ws at (count.Member offset form add) = AreElsewhere (at + offset) ws

-- No write is to a slot of the element at an address, and none to what its bounds read.
pub record IsSpared (ws : List Write) (at : ℕ) (slot : Slot) : Type 0 where
  pub pointer : AreElsewhere (at + slot.offset) ws
  pub counted : IsCountSpared ws at slot.count

-- what is read of memory with these structures and locals
abbrev pub store_with : List Shape → List Block → List ℕ → Store
store_with shapes blocks locals = record { shapes = shapes; blocks = blocks; locals = locals }

-- Each slot of each element is spared by some writes, or may be read after them.
abbrev pub AreSparedOrFilled : Typed → List Block → List Write → Store → Type 0
AreSparedOrFilled p blocks ws after =
    (number i : ℕ) (b : Block) (slot : Slot) → slice_get blocks number ≡ Some b → i < b.count → Contains (slots_of p number b.element) slot
    → IsSpared ws (b.base + i * b.size) slot ⊎ IsFilled after (b.base + i * b.size) slot

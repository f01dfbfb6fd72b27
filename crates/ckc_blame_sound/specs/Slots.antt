-- The checked pointers that memory holds.
use Rattle.std.specs.Prelude.{◌≡◌, ℕ, ◌+◌, ◌*◌, ◌<◌, List, [], ◌∷◌, slice_get, Option, None, Some, IsOk}
use Rattle.std.specs.List.{Contains, flat_map}
use Rattle.ckc_types.specs.declared.types.CType.{CType, CType-F, out-CType}
use Rattle.ckc_types.specs.declared.types.MemberShape.{MemberShape}
use Rattle.ckc_types.specs.declared.types.Structs.{Structs}
use Rattle.ckc_types.specs.Layout.{members_of}
use Rattle.ckc_syntax.specs.declared.tree.Name.TheVariants as name
use Rattle.ckc_typed.specs.declared.typed.Typed.{Typed}
use Rattle.ckc_source.specs.declared.expr.Pointee.{Pointee}
use Rattle.ckc_source.specs.declared.expr.Count.{Count}
use Rattle.ckc_source.specs.Blocks.{Block}
use Rattle.ckc_source.specs.Eval.{Store, place_in, loads_pointer}
use Rattle.ckc_build_values.specs.Kinds.{pointee_of}
use Rattle.ckc_build_values.specs.Members.{offset_of, count_by}
use Rattle.ckc_build_values.specs.Names.{count_of_static}

-- A slot of an element: a checked pointer of which the number of elements is known, so many bytes after the begin of
-- the element.
pub record Slot : Type 0 where
  pub offset : ℕ
  pub to : Pointee
  pub count : Count

-- a pointer of a type, if the number of its elements is known
abbrev pub slot_by : Structs → ℕ → CType → Option Count → List Slot
slot_by structs offset t (Some n) = record { offset = offset; to = pointee_of structs t; count = n } ∷ []
slot_by structs offset t None = []

-- the slot that a member is, if it is one
abbrev pub slot_of_member : Structs → ℕ → MemberShape → List Slot
slot_of_member structs tag m = slot_by structs (offset_of structs tag m.name) m.ctype (count_by structs tag m.ctype m.bounds)

-- The slots of an element of a type, in the block with a number: of a structure those of its members, of a static pointer
-- as it is declared, and of another pointer by its kind.
abbrev pub slots_in : Typed → ℕ → CType → CType-F CType → List Slot
slots_in p number t (CType-F.Struct tag) = flat_map (slot_of_member p.layout tag) (members_of p.layout tag)
slots_in p number t _ = slot_by p.layout 0 t (count_of_static p t (name.Static number))

-- the same, of a type as it is
abbrev pub slots_of : Typed → ℕ → CType → List Slot
slots_of p number t = slots_in p number t (out-CType t)

-- What is in a slot of the element at an address may be read: it is null, or its range is true.
abbrev pub IsFilled : Store → ℕ → Slot → Type 0
IsFilled store at slot = IsOk (loads_pointer store slot.to slot.count at (place_in at slot.offset))

-- Each slot of each element of each block may be read.
abbrev pub AreFilled : Typed → Store → Type 0
AreFilled p store =
    (number i : ℕ) (b : Block) (slot : Slot) → slice_get store.blocks number ≡ Some b → i < b.count
    → Contains (slots_of p number b.element) slot → IsFilled store (b.base + i * b.size) slot

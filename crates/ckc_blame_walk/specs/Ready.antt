-- What is asked of a judged text, so that the first state of its program is sound.
use Rattle.std.specs.Prelude.{◌≡◌, ℕ, ℤ, ◌<◌, false, List, [], map, slice_get, Some, IsSome}
use Rattle.std.specs.List.{All, Contains}
use Rattle.ckc_types.specs.declared.types.CType.{CType}
use Rattle.ckc_types.specs.declared.types.MemberBounds.TheVariants as bounds
use Rattle.ckc_types.specs.declared.types.MemberShape.{MemberShape}
use Rattle.ckc_types.specs.declared.types.Structs.{Structs}
use Rattle.ckc_types.specs.Layout.{members_of}
use Rattle.ckc_syntax.specs.declared.tree.Name.TheVariants as name
use Rattle.ckc_typed.specs.declared.typed.StaticObject.{StaticObject}
use Rattle.ckc_typed.specs.declared.typed.Typed.{Typed}
use Rattle.ckc_typed.specs.Constants.{size_of}
use Rattle.ckc_typed.specs.Types.{is_integer}
use Rattle.ckc_typed_welltyped.specs.Texts.{WellTyped}
use Rattle.ckc_blame_sound.specs.ckc_bounds.specs.Phase.{bounding}
use Rattle.ckc_source.specs.Blocks.{Block, block_of, place_behind, first_place}
use Rattle.ckc_source.specs.LaidOut.{IsLaidOut}
use Rattle.ckc_build_values.specs.Members.{member_named}
use Rattle.ckc_build_elaborate.specs.Bodies.{IsDefined}
use Rattle.ckc_build_elaborate.specs.Elaborated.{elaborated}
use Rattle.ckc_build_elaborate.specs.Names.{params_of}
use Rattle.ckc_build_elaborate.specs.Objects.{objects_elaborated}
use Rattle.ckc_blame_sound.specs.Slots.{Slot, slots_of}
use Rattle.ckc_blame_sound.specs.Limited.{IsSlotPart}
use Rattle.ckc_blame_walk.specs.Entries.{AreCodesJudged}

-- ---- static objects and string literals

-- the blocks that a program of a text begins with
abbrev pub first_blocks : Typed → List Block
first_blocks p = map block_of (objects_elaborated p)

-- the place of the block after them
abbrev pub next_behind : Typed → ℕ
next_behind p = place_behind first_place (first_blocks p)

-- the elements of each have a size
abbrev pub HaveSizes : Typed → Type 0
HaveSizes p = All (λ (o : StaticObject). 0 < size_of p.layout o.element) p.statics

-- A slot of an element of a type is a pointer of it, and the member that its count names is an integer of it; the
-- element itself is no integer.
pub record IsPointerSlot (structs : Structs) (t : CType) (slot : Slot) : Type 0 where
  pub part : IsSlotPart structs t slot
  pub other : is_integer t ≡ false

-- this of each slot of each static object
abbrev pub HavePointerSlots : Typed → Type 0
HavePointerSlots p =
    (k : ℕ) (o : StaticObject) (slot : Slot) → slice_get p.statics k ≡ Some o → Contains (slots_of p k o.element) slot
    → IsPointerSlot p.layout o.element slot

-- The bounds of a member name another member of the same structure, if they name one.
abbrev pub NameMembers : Structs → Type 0
NameMembers structs =
    (tag k : ℕ) (c : ℤ) (m : MemberShape) → Contains (members_of structs tag) m → m.bounds ≡ bounds.Named k c
    → IsSome (member_named structs tag (name.Member k))

-- A well typed text q has become the text p when its bounds were judged. The static objects of p have sizes, and their
-- slots are pointers; they lie apart as those of a program must, and begin as bytes.
pub record HasObjects (q p : Typed) : Type 0 where
  pub typed : WellTyped q
  pub bounded : bounding.Makes q p
  pub sizes : HaveSizes p
  pub slots : HavePointerSlots p
  pub laid_out : IsLaidOut (elaborated p)

-- The code of each function is judged from its first point, and `main` has a body and no parameters.
pub record HasFunctions (p : Typed) : Type 0 where
  pub codes : AreCodesJudged p
  pub defined : IsDefined (name.Function p.main) p.tree.items
  pub bare : params_of (name.Function p.main) p.tree.items ≡ []

-- The integers and pointers in the elements of blocks, each at its address.
use Rattle.std.specs.Prelude.{◌≡◌, ◌≢◌, ◌⊎◌, ℕ, ◌+◌, ◌*◌, ◌%◌, ◌<◌, ◌≤◌, Bool, true, List, ◌∷◌, ◌++◌, slice_get, Some}
use Rattle.std.specs.List.{All}
use Rattle.ckc_base.specs.declared.arithmetic.Width.{Width}
use Rattle.ckc_base.specs.Memory.{width_bytes, heap_has_room}
use Rattle.ckc_types.specs.declared.types.CType.{CType, CType-F, out-CType}
use Rattle.ckc_types.specs.declared.types.MemberShape.{MemberShape}
use Rattle.ckc_types.specs.declared.types.Structs.{Structs}
use Rattle.ckc_types.specs.Layout.{members_of}
use Rattle.ckc_types.specs.Places.{Stands}
use Rattle.ckc_source.specs.declared.expr.Pointee.{Pointee}
use Rattle.ckc_source.specs.declared.program.MemberRun.{MemberRun}
use Rattle.ckc_source.specs.declared.program.Shape.{Shape}
use Rattle.ckc_typed.specs.declared.typed.Typed.{Typed}
use Rattle.ckc_typed.specs.Constants.{size_of}
use Rattle.ckc_typed.specs.Types.{is_integer}
use Rattle.ckc_source.specs.Blocks.{Block}
use Rattle.ckc_source.specs.LaidOut.{AreApart, HoldBytes}
use Rattle.ckc_blame_sound.specs.Sound.{IsMemory}
use Rattle.ckc_source.specs.Runs.{runs_of}
use Rattle.ckc_build_values.specs.Kinds.{width_of}
use Rattle.ckc_build_values.specs.Members.{offset_of}

-- two accesses share no byte
abbrev pub AreDisjoint : (a : ℕ) → Width → (c : ℕ) → Width → Type 0
AreDisjoint a width c other = (a + width_bytes width ≤ c) ⊎ (c + width_bytes other ≤ a)

-- An access of a width, so many bytes after the begin of a structure, is one of a member.
pub record IsOfMember (structs : Structs) (tag offset : ℕ) (width : Width) : Type 0 where
  pub front : List MemberShape
  pub member : MemberShape
  pub stands : Stands structs tag front member
  pub there : offset ≡ offset_of structs tag member.name
  pub wide : width ≡ width_of member.ctype

-- which of the two it is, by the form of the type
abbrev pub IsPartIn : Structs → CType → CType-F CType → ℕ → Width → Type 0
IsPartIn structs t (CType-F.Struct tag) offset width = IsOfMember structs tag offset width
IsPartIn structs t _ offset width = (offset ≡ 0) × (width ≡ width_of t)

-- An access of a width, so many bytes after the begin of an element, is one of the element, or of a member of it if it
-- is a structure.
abbrev pub IsPart : Structs → CType → ℕ → Width → Type 0
IsPart structs t offset width = IsPartIn structs t (out-CType t) offset width

-- An access of a width at an address is one of an element of a block, or of a member of it. If the flag does not say
-- that only zero may be written, it is not in the last element of a null-terminated block.
pub record IsCell (structs : Structs) (blocks : List Block) (a : ℕ) (width : Width) (zero_alone : Bool) : Type 0 where
  pub number : ℕ
  pub block : Block
  pub there : slice_get blocks number ≡ Some block
  pub index : ℕ
  pub below : index < block.count
  pub offset : ℕ
  pub part : IsPart structs block.element offset width
  pub address : a ≡ block.base + index * block.size + offset
  pub ends : block.terminated ≡ true → (index + 1 < block.count) ⊎ (zero_alone ≡ true)

-- what pointers with known limits may point to in a structure is one of its members
pub record IsMemberRun (structs : Structs) (tag : ℕ) (run : MemberRun) : Type 0 where
  pub front : List MemberShape
  pub member : MemberShape
  pub stands : Stands structs tag front member
  pub there : run.offset ≡ offset_of structs tag member.name
  pub same : run.ctype ≡ member.ctype

-- this of each structure
abbrev pub AreMembers : Structs → List Shape → Type 0
AreMembers structs shapes =
    (tag k : ℕ) (run : MemberRun) → slice_get (runs_of (slice_get shapes tag)) k ≡ Some run → IsMemberRun structs tag run

-- no member of a structure has the name of one in front of it
abbrev pub HaveOwnNames : Structs → Type 0
HaveOwnNames structs =
    (tag : ℕ) (front back : List MemberShape) (m : MemberShape) → members_of structs tag ≡ front ++ m ∷ back → All (λ n. n.name ≢ m.name) front

-- The element at an address is one that a pointer n with this range reaches: it lies a number of elements from n, and in the
-- range, or at the end of it if the elements are those of a null-terminated array.
pub record IsReached (to : Pointee) (n low high a : ℕ) : Type 0 where
  pub away : a % to.size ≡ n % to.size
  pub behind : low ≤ a
  pub before : (a < high) ⊎ ((a ≡ high) × (to.terminated ≡ true))

-- The blocks of a sound state, and where the next one will lie: they lie apart and as they must, and hold bytes, and
-- null-terminated ones end with zero.
pub record AreSound (p : Typed) (blocks : List Block) (place : ℕ) : Type 0 where
  pub apart : AreApart 0 blocks place
  pub bytes : HoldBytes blocks
  pub memory : IsMemory p blocks place

-- A block of so many elements may be made at a place: there is room, the size is that of the type, and null-terminated
-- elements are integers.
pub record IsMade (p : Typed) (place : ℕ) (to : Pointee) (count : ℕ) : Type 0 where
  pub room : heap_has_room place count to.size ≡ true
  pub size : to.size ≡ size_of p.layout to.element
  pub sized : 0 < to.size
  pub terminated : to.terminated ≡ true → is_integer to.element ≡ true

-- Which types have a layout.
use Rattle.std.specs.Prelude.{◌≡◌, ℕ, ◌<◌, ◌≤◌, length, slice_get, IsSome}
use Rattle.std.specs.List.{All, Contains}
use Rattle.ckc_types.specs.declared.types.CType.{CType, CType-F, out-CType}
use Rattle.ckc_types.specs.declared.types.MemberShape.{MemberShape}
use Rattle.ckc_types.specs.declared.types.Structs.{Structs}
use Rattle.ckc_types.specs.Scalars.{IsScalar, IsScalarForm}
use Rattle.ckc_types.specs.Layout.{members_of}

-- There is a structure with this tag. It has 1 to 16,384 members, and each is an integer or a pointer.
pub record IsStruct (structs : Structs) (tag : ℕ) : Type 0 where
  pub declared : IsSome (slice_get structs.shapes tag)
  pub some : 0 < length (members_of structs tag)
  pub few : length (members_of structs tag) ≤ 16384
  pub scalars : All (λ m. IsScalar m.ctype) (members_of structs tag)

abbrev pub IsLaidOutForm : Structs → CType-F CType → Type 0
IsLaidOutForm structs (CType-F.Struct tag) = IsStruct structs tag
IsLaidOutForm structs form = IsScalarForm form

-- an integer, a pointer, or a structure
abbrev pub IsLaidOut : Structs → CType → Type 0
IsLaidOut structs t = IsLaidOutForm structs (out-CType t)

-- the structure has a member with this name
pub record HasMember (structs : Structs) (tag name : ℕ) : Type 0 where
  pub struct : IsStruct structs tag
  pub named : (m : MemberShape) × Contains (members_of structs tag) m × (m.name ≡ name)

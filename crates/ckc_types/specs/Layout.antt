-- How types lie in memory (RISC-V ELF psABI; ISO C11, 6.7.2.1): the members of a structure lie in order, each at the
-- next multiple of its alignment. The alignment of a structure is the greatest of its members, and its size is rounded
-- up to a multiple of it.
use Rattle.std.specs.Prelude.{ℕ, ◌+◌, ◌==◌, max, List, [], ◌∷◌, Option, None, Some, slice_get, if◌then◌else◌}
use Rattle.std.specs.Int.{next_multiple_of}
use Rattle.ckc_types.specs.declared.types.CType.{CType, CType-F, out-CType}
use Rattle.ckc_types.specs.declared.types.MemberShape.{MemberShape}
use Rattle.ckc_types.specs.declared.types.StructShape.{StructShape}
use Rattle.ckc_types.specs.declared.types.Structs.{Structs}
use Rattle.ckc_types.specs.Scalars.{scalar_size, scalar_align, size_of_form, align_of_form}

-- the members of a structure, and none if there is no structure
abbrev pub members_in : Option StructShape → List MemberShape
members_in None = []
members_in (Some shape) = shape.members

-- the members of the structure with a tag, none if there is no such structure
abbrev pub members_of : Structs → ℕ → List MemberShape
members_of structs tag = members_in (slice_get structs.shapes tag)

-- where a member begins, if the one before it ends at `at`
abbrev pub start : ℕ → MemberShape → ℕ
start at m = next_multiple_of at (scalar_align m.ctype)

-- where the last member ends, if the first comes after `at`
abbrev pub end_of : ℕ → List MemberShape → ℕ
end_of at [] = at
end_of at (m ∷ ms) = end_of (start at m + scalar_size m.ctype) ms

-- where the first member with this name begins
abbrev pub start_of : ℕ → ℕ → List MemberShape → ℕ
start_of name at [] = at
start_of name at (m ∷ ms) = if m.name == name then start at m else start_of name (start at m + scalar_size m.ctype) ms

-- the alignment of a structure with these members
abbrev pub struct_align : List MemberShape → ℕ
struct_align [] = 1
struct_align (m ∷ ms) = max (scalar_align m.ctype) (struct_align ms)

-- the size of a structure with these members
abbrev pub struct_size : List MemberShape → ℕ
struct_size ms = next_multiple_of (end_of 0 ms) (struct_align ms)

-- the size of a type, by its outermost part
abbrev pub size_by_form : Structs → CType-F CType → ℕ
size_by_form structs (CType-F.Struct tag) = struct_size (members_of structs tag)
size_by_form structs form = size_of_form form

abbrev pub align_by_form : Structs → CType-F CType → ℕ
align_by_form structs (CType-F.Struct tag) = struct_align (members_of structs tag)
align_by_form structs form = align_of_form form

-- how many bytes an object of the type takes, which is what `sizeof` gives
abbrev pub size : Structs → CType → ℕ
size structs t = size_by_form structs (out-CType t)

abbrev pub align : Structs → CType → ℕ
align structs t = align_by_form structs (out-CType t)

-- the offset of a member, given by the number of its name, in the structure with a tag
abbrev pub offset : Structs → ℕ → ℕ → ℕ
offset structs tag name = start_of name 0 (members_of structs tag)

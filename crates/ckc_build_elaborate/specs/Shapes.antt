-- The members of structures that pointers with known limits may point to (Checked C specification 0.9, section 3.1: a
-- member that takes part in bounds is not changed behind their back).
use Rattle.std.specs.Prelude.{ℕ, ◌==◌, Bool, true, false, not, ◌&&◌, if◌then◌else◌, List, [], ◌∷◌}
use Rattle.std.specs.List.{list_any, flat_map}
use Rattle.ckc_types.specs.declared.types.MemberBounds.{MemberBounds}
use Rattle.ckc_types.specs.declared.types.MemberBounds.TheVariants as bounds
use Rattle.ckc_types.specs.declared.types.MemberShape.{MemberShape}
use Rattle.ckc_types.specs.declared.types.StructShape.{StructShape}
use Rattle.ckc_types.specs.declared.types.Structs.{Structs}
use Rattle.ckc_source.specs.declared.program.MemberRun.{MemberRun}
use Rattle.ckc_source.specs.declared.program.Shape.{Shape}
use Rattle.ckc_build_values.specs.Members.{offset_of}
use Rattle.ckc_build_elaborate.specs.Lists.{numbered}

-- whether a member has no declared bounds
abbrev pub is_bare : MemberBounds → Bool
is_bare bounds.Nothing = true
is_bare _ = false

-- whether the bounds of a member name the member with this number
abbrev pub names : ℕ → MemberBounds → Bool
names k (bounds.Named j c) = j == k
names k _ = false

-- A member has no declared bounds, and those of no other member name it.
abbrev pub is_run : List MemberShape → MemberShape → Bool
is_run members m = is_bare m.bounds && not (list_any (λ n. names m.name n.bounds) members)

-- the member, if pointers with known limits may point to it
abbrev pub run_of : Structs → ℕ → List MemberShape → MemberShape → List MemberRun
run_of structs tag members m =
    if is_run members m then record { offset = offset_of structs tag m.name; ctype = m.ctype } ∷ [] else []

-- the members of a structure that pointers with known limits may point to
abbrev pub shape_of : Structs → ℕ → StructShape → List Shape
shape_of structs tag s = record { runs = flat_map (run_of structs tag s.members) s.members } ∷ []

-- Structures are numbered one after another.
abbrev pub one : StructShape → ℕ
one s = 1

-- the same of each structure of a text
abbrev pub shapes_elaborated : Structs → List Shape
shapes_elaborated structs = numbered (shape_of structs) one 0 structs.shapes

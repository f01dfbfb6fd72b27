-- Members of structures (ISO C11, 6.7.2.1; Checked C specification 0.9, section 3.1, on bounds of members).
use Rattle.std.specs.Prelude.{ℕ, ◌==◌, nat_lt, Bool, ◌&&◌, if◌then◌else◌, find, Option, None, Some}
use Rattle.std.specs.List.{list_any}
use Rattle.ckc_types.specs.declared.types.CType.{CType}
use Rattle.ckc_types.specs.declared.types.CType.TheVariants as ctype
use Rattle.ckc_types.specs.declared.types.MemberBounds.{MemberBounds}
use Rattle.ckc_types.specs.declared.types.MemberBounds.TheVariants as bounds
use Rattle.ckc_types.specs.declared.types.MemberShape.{MemberShape}
use Rattle.ckc_types.specs.declared.types.Structs.{Structs}
use Rattle.ckc_types.specs.Layout.{offset, members_of}
use Rattle.ckc_syntax.specs.declared.tree.Name.{Name}
use Rattle.ckc_syntax.specs.declared.tree.Name.TheVariants as name
use Rattle.ckc_typed.specs.Types.{kind_of}
use Rattle.ckc_typed.specs.Constants.{size_of}
use Rattle.ckc_typed.specs.Environment.{is_member_named}
use Rattle.ckc_source.specs.declared.expr.Integer.{Integer}
use Rattle.ckc_source.specs.declared.expr.Integer.TheVariants.{Int}
use Rattle.ckc_source.specs.declared.expr.Count.{Count}
use Rattle.ckc_source.specs.declared.expr.Count.TheVariants as count
use Rattle.ckc_build_values.specs.Kinds.{integer_of, count_of_kind}

-- a structure that has a size has a member with this number
abbrev pub has_member : Structs → ℕ → ℕ → Bool
has_member structs tag k = nat_lt 0 (size_of structs (ctype.Struct tag)) && list_any (λ m. m.name == k) (members_of structs tag)

-- how many bytes lie before a member in its structure, 0 if there is no such member
abbrev pub offset_of : Structs → ℕ → ℕ → ℕ
offset_of structs tag k = if has_member structs tag k then offset structs tag k else 0

-- the member of the structure with a tag
abbrev pub member_named : Structs → ℕ → Name → Option MemberShape
member_named structs tag n = find (λ m. is_member_named n m.name) (members_of structs tag)

-- the type of an integer member, and `int` if there is no such member
abbrev pub integer_in_member : Option MemberShape → Integer
integer_in_member (Some m) = integer_of m.ctype
integer_in_member None = Int

-- ---- how many elements a member points to

-- No bounds are written, or `count(c)`, or `count(m + c)`; of what has `bounds(unknown)` or another form it is not known.
abbrev pub count_by : Structs → ℕ → CType → MemberBounds → Option Count
count_by structs tag t bounds.Nothing = count_of_kind (kind_of t)
count_by structs tag t bounds.Unknown = None
count_by structs tag t (bounds.Fixed c) = Some (count.Fixed c)
count_by structs tag t (bounds.Named k c) =
    Some (count.Member (offset_of structs tag k) (integer_in_member (member_named structs tag (name.Member k))) c)
count_by structs tag t bounds.NoForm = None

-- how many elements a member points to, if there is such a member and that is known
abbrev pub count_in : Structs → ℕ → Option MemberShape → Option Count
count_in structs tag (Some m) = count_by structs tag m.ctype m.bounds
count_in structs tag None = None

-- how many elements the member of the structure with a tag points to, if it is a pointer of which that is known
abbrev pub count_of_member : Structs → ℕ → Name → Option Count
count_of_member structs tag n = count_in structs tag (member_named structs tag n)

-- The structures of a text with the bounds of their members (ISO C11, 6.7.2.1; Checked C specification 0.9, section
-- 3.1, on bounds of members), whatever its tree notes.
use Rattle.std.specs.Prelude.{ℕ, suc, zero, ◌+◌, max, fold, map, ℤ, if◌then◌else◌, List, [], ◌∷◌, ◌++◌, Option, None, Some, unwrap_or}
use Rattle.ckc_types.specs.declared.types.CType.{CType}
use Rattle.ckc_types.specs.declared.types.MemberBounds.{MemberBounds}
use Rattle.ckc_types.specs.declared.types.MemberBounds.TheVariants as bounds
use Rattle.ckc_types.specs.declared.types.MemberShape.{MemberShape}
use Rattle.ckc_types.specs.declared.types.StructShape.{StructShape}
use Rattle.ckc_types.specs.declared.types.Structs.{Structs}
use Rattle.ckc_syntax.specs.declared.tree.Name.{Name}
use Rattle.ckc_syntax.specs.declared.tree.Name.TheVariants as name
use Rattle.ckc_syntax.specs.declared.tree.Limits.{Limits, Limits-F, out-Limits}
use Rattle.ckc_syntax.specs.declared.tree.Node.{Node}
use Rattle.ckc_syntax.specs.declared.tree.Expr.{Expr}
use Rattle.ckc_syntax.specs.declared.tree.Decl.{Decl}
use Rattle.ckc_syntax.specs.declared.tree.Item.{Item}
use Rattle.ckc_syntax.specs.declared.tree.Item.TheVariants as item
use Rattle.ckc_typed.specs.declared.environment.Amount.{Amount}
use Rattle.ckc_typed.specs.Types.{type_written, element_of}
use Rattle.ckc_typed.specs.Environment.{same_name}
use Rattle.ckc_typed.specs.Constants.{size_of}
use Rattle.ckc_typed.specs.Amounts.{amount_of_form}

-- the number of the member that a name means; 0 for any other name
abbrev pub member_number : Name → ℕ
member_number (name.Member k) = k
member_number _ = 0

-- The variable of an amount of a member is a member.
abbrev pub counted_by : Option Name → ℤ → MemberBounds
counted_by None c = bounds.Fixed c
counted_by (Some (name.Member m)) c = bounds.Named m c
counted_by (Some _) c = bounds.NoForm

-- the bounds of a member, by the amount that they count, if they have one
abbrev pub counted : Option Amount → MemberBounds
counted (Some a) = counted_by a.variable a.number
counted None = bounds.NoForm

-- the bounds of a member, by the form that is written
abbrev pub bounds_by : {A : Type 0} → Structs → ℕ → Limits-F Name A (Limits Name A) (Node Name A) (Expr Name A) → MemberBounds
bounds_by structs size (Limits-F.Unknown at) = bounds.Unknown
bounds_by structs size form = counted (amount_of_form structs size form)

-- the bounds of a member of type t, if some are written
abbrev pub bounds_of : {A : Type 0} → Structs → CType → Option (Limits Name A) → MemberBounds
bounds_of structs t None = bounds.Nothing
bounds_of {A} structs t (Some l) = bounds_by structs (size_of structs (element_of t)) (out-Limits Name A l)

-- a member without its bounds, which suffices for the sizes of types
abbrev pub bare_member : {A : Type 0} → Decl Name A → MemberShape
bare_member d = record { name = member_number d.name; ctype = type_written d.ctype; bounds = bounds.Nothing }

-- a member with its bounds
abbrev pub bounded_member : {A : Type 0} → Structs → Decl Name A → MemberShape
bounded_member structs d = record { name = member_number d.name; ctype = type_written d.ctype; bounds = bounds_of structs (type_written d.ctype) d.bounds }

-- the members that an item declares for a tag
abbrev pub members_in_item : {A : Type 0} → Name → Item Name A → Option (List (Decl Name A))
members_in_item tag (item.Struct n members at) = if same_name n tag then Some members else None
members_in_item tag _ = None

-- the members of the first structure with a tag, none if only tag lines name it
abbrev pub members_declared : {A : Type 0} → List (Item Name A) → Name → List (Decl Name A)
members_declared [] tag = []
members_declared (i ∷ rest) tag = unwrap_or (members_in_item tag i) (members_declared rest tag)

-- one more than the number of the tag that a name means; 0 for any other name
abbrev pub behind_tag : Name → ℕ
behind_tag (name.Tag k) = k + 1
behind_tag _ = 0

-- one more than the number of the tag that an item declares; 0 if it declares none
abbrev pub tags_to : {A : Type 0} → Item Name A → ℕ
tags_to (item.Tag n at) = behind_tag n
tags_to (item.Struct n members at) = behind_tag n
tags_to _ = 0

-- how many tags there are, which are numbered from 0
abbrev pub tag_count : {A : Type 0} → List (Item Name A) → ℕ
tag_count items = fold (λ n i. max n (tags_to i)) 0 items

-- the structure with the tag k, each member as it is wanted: with its bounds or without them
abbrev pub shape_of : {A : Type 0} → (Decl Name A → MemberShape) → List (Item Name A) → ℕ → StructShape
shape_of member items k = record { members = map member (members_declared items (name.Tag k)) }

-- the structures with the tags from 0 to n - 1
abbrev pub shapes_below : (ℕ → StructShape) → ℕ → List StructShape
shapes_below shape zero = []
shapes_below shape (suc n) = shapes_below shape n ++ shape n ∷ []

-- the structures of a source file, each member as it is wanted
abbrev pub structs_with : {A : Type 0} → (Decl Name A → MemberShape) → List (Item Name A) → Structs
structs_with member items = record { shapes = shapes_below (shape_of member items) (tag_count items) }

-- the structures of a source file without the bounds of their members
abbrev pub bare_structs : {A : Type 0} → List (Item Name A) → Structs
bare_structs items = structs_with bare_member items

-- the structures of a text, each at the number of its tag
abbrev pub structs_of : {A : Type 0} → List (Item Name A) → Structs
structs_of items = structs_with (bounded_member (bare_structs items)) items

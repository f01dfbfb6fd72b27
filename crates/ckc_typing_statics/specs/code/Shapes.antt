-- Structures that are put into a list, each at the number of its tag.
use Rattle.std.specs.Prelude.{List, Option, None, Some, map, set}
use Rattle.ckc_types.specs.declared.types.MemberShape.{MemberShape}
use Rattle.ckc_types.specs.declared.types.StructShape.{StructShape}
use Rattle.ckc_types.specs.declared.types.Structs.{Structs}
use Rattle.ckc_syntax.specs.declared.tree.Name.{Name}
use Rattle.ckc_syntax.specs.declared.tree.Name.TheVariants as name
use Rattle.ckc_syntax.specs.declared.tree.Item.TheVariants as item
use Rattle.ckc_typed.specs.Trees.{Item, Decl}
use Rattle.ckc_typed.specs.Layouts.{bare_member, bounded_member}

abbrev pub member_by : Option Structs → Decl → MemberShape
member_by None = bare_member
member_by (Some structs) = bounded_member structs

abbrev pub with_shape : List StructShape → Name → StructShape → List StructShape
with_shape ss (name.Tag k) s = set ss k s
with_shape ss _ s = ss

abbrev pub with_struct : (Decl → MemberShape) → List StructShape → Item → List StructShape
with_struct member ss (item.Struct n members at) = with_shape ss n (record { members = map member members })
with_struct member ss _ = ss

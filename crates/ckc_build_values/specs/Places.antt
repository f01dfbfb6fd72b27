-- Where accesses go (ISO C11, 6.5.2 and 6.5.3.2: elements, members, and what a pointer points to).
use Rattle.std.specs.Prelude.{ℕ, ◌+◌, Option, None, Some}
use Rattle.ckc_base.specs.declared.places.Pos.{Pos}
use Rattle.ckc_types.specs.declared.types.CType.{CType}
use Rattle.ckc_types.specs.declared.types.Structs.{Structs}
use Rattle.ckc_syntax.specs.declared.tree.Name.{Name}
use Rattle.ckc_syntax.specs.declared.tree.Name.TheVariants as name
use Rattle.ckc_typed.specs.declared.typed.Typed.{Typed}
use Rattle.ckc_typed.specs.Types.{kind_of}
use Rattle.ckc_typed.specs.Constants.{size_of}
use Rattle.ckc_typed.specs.Layouts.{member_number}
use Rattle.ckc_source.specs.declared.expr.Access.{Access}
use Rattle.ckc_source.specs.declared.expr.Integer.{Integer}
use Rattle.ckc_source.specs.declared.expr.Integer.TheVariants.{Int}
use Rattle.ckc_source.specs.declared.expr.Through.{Through}
use Rattle.ckc_source.specs.declared.expr.Through.TheVariants.{Named}
use Rattle.ckc_source.specs.declared.expr.Count.{Count}
use Rattle.ckc_source.specs.Code.{Expr, Number, Load, Member, Address, expr_of}
use Rattle.ckc_build_values.specs.declared.places.Placed.{Placed}
use Rattle.ckc_build_values.specs.Kinds.{width_of, through_kind, size_behind, pointee_of}
use Rattle.ckc_build_values.specs.Members.{offset_of}
use Rattle.ckc_build_values.specs.Names.{address_of}

-- A place: the access, the pointer that it goes through, and the index.
pub record Place : Type 0 where
  pub access : Access
  pub pointer : Expr
  pub index : Expr

abbrev pub place_of : Placed → Place
place_of w = record { access = w.access; pointer = expr_of w.pointer; index = expr_of w.index }

-- an element with an index, through a pointer of a kind
abbrev pub place_through : Through → Pos → ℕ → Integer → Expr → Expr → Place
place_through through at size index e f = record {
  access = record { through = through; at = at; size = size; index = index; offset = 0 };
  pointer = e;
  index = f;
}

-- an object by its name, which has no checks
abbrev pub object_place : Typed → CType → Pos → ℕ → Place
object_place p t at k = place_through Named at (size_of p.layout t) Int (Number (address_of p k)) (Number 0)

-- `p[e]`: the element with an index, through a pointer of a type
abbrev pub element_place : Structs → CType → Pos → Integer → Expr → Expr → Place
element_place structs t at index e f = place_through (through_kind (kind_of t)) at (size_behind structs t) index e f

-- `*p`, and the structure of `p->m`
abbrev pub target_place : Structs → CType → Pos → Expr → Place
target_place structs t at e = element_place structs t at Int e (Number 0)

-- the place so many bytes further on in the same element
abbrev pub behind : ℕ → Place → Place
behind bytes q = record q { access = record q.access { offset = q.access.offset + bytes } }

-- a member of the structure at a place
abbrev pub member_place : Structs → ℕ → Name → Place → Place
member_place structs tag n q = behind (offset_of structs tag (member_number n)) q

-- what has no place; a typed text asks for none of it
abbrev pub nowhere : Pos → Place
nowhere at = place_through Named at 0 Int (Number 0) (Number 0)

-- the place of an object of file scope, by its name
abbrev pub name_place : Typed → CType → Pos → Name → Place
name_place p t at (name.Static k) = object_place p t at k
name_place p t at n = nowhere at

-- what is read at a place: a pointer of which the count of elements is known, or another value
abbrev pub read_at : Structs → CType → Option Count → Place → Expr
read_at structs t (Some n) q = Member (pointee_of structs t) n q.access q.pointer q.index
read_at structs t None q = Load (width_of t) q.access q.pointer q.index

-- the address of what is at a place
abbrev pub address_at : Structs → CType → Place → Expr
address_at structs t q = Address (size_of structs t) q.access q.pointer q.index

-- Fresh variables: the numbers that ranges name and that no local holds. An expression has one if it needs it.
use Rattle.std.specs.Prelude.{ℕ, ◌==◌, Bool, true, false, if◌then◌else◌, pos, Option, None, Some, is_some, List, [], ◌∷◌, ◌++◌, find}
use Rattle.ckc_types.specs.declared.types.Kind.{Kind}
use Rattle.ckc_types.specs.declared.types.Kind.TheVariants as kind
use Rattle.ckc_types.specs.declared.types.CType.{CType, CType-F, out-CType}
use Rattle.ckc_types.specs.declared.types.CType.TheVariants as ctype
use Rattle.ckc_types.specs.declared.types.MemberBounds.{MemberBounds}
use Rattle.ckc_types.specs.declared.types.MemberBounds.TheVariants as mbounds
use Rattle.ckc_types.specs.declared.types.MemberShape.{MemberShape}
use Rattle.ckc_types.specs.declared.types.Structs.{Structs}
use Rattle.ckc_types.specs.Layout.{members_of}
use Rattle.ckc_linear.specs.declared.forms.Form.{Form}
use Rattle.ckc_syntax.specs.declared.tree.Name.{Name}
use Rattle.ckc_syntax.specs.declared.tree.Name.TheVariants as name
use Rattle.ckc_syntax.specs.declared.tree.TreeOp.{TreeOp}
use Rattle.ckc_syntax.specs.declared.tree.Node.{Node-F}
use Rattle.ckc_typed.specs.Types.{kind_of, element_of}
use Rattle.ckc_typed.specs.Constants.{size_of}
use Rattle.ckc_bounds_views.specs.declared.variables.Member.{Member}
use Rattle.ckc_bounds_points.specs.Shown.{Known}
use Rattle.ckc_bounds_points.specs.Flow.{State, range_of, with_range}
use Rattle.ckc_bounds_points.specs.Forms.{in_type}
use Rattle.ckc_bounds_views.specs.Parts.{LimitsView, View, NodeView, NodeOfViews, capped, count_of_parts}
use Rattle.ckc_bounds_views.specs.Conditions.{right_point}

-- The member of a structure that a node is, by the structure's tag and its own number.
abbrev pub member_in : Name → CType-F CType → Option Member
member_in (name.Member m) (CType-F.Struct tag) = Some (record { tag = tag; number = m })
member_in n _ = None

-- the member that a node `x.m` or `p->m` is
abbrev pub member_of_node : NodeOfViews → Option Member
member_of_node (Node-F.Dot e n at) = member_in n (out-CType e.ctype)
member_of_node (Node-F.Arrow e n at) = member_in n (out-CType (element_of e.ctype))
member_of_node _ = None

-- the member m of the structure with a tag, with its type and its bounds
abbrev pub shape_of : Structs → ℕ → ℕ → Option MemberShape
shape_of structs tag m = find (λ s. s.name == m) (members_of structs tag)

-- the bounds of a member; none are written if there is no such member
abbrev pub bounds_of_shape : Option MemberShape → MemberBounds
bounds_of_shape (Some s) = s.bounds
bounds_of_shape None = mbounds.Nothing

-- the type of a member, `int` if there is no such member
abbrev pub type_of_shape : Option MemberShape → CType
type_of_shape (Some s) = s.ctype
type_of_shape None = ctype.Int

-- the declared bounds of a member of a structure
abbrev pub member_bounds : Structs → Member → MemberBounds
member_bounds structs m = bounds_of_shape (shape_of structs m.tag m.number)

-- the type of the member that the bounds of another one name
abbrev pub named_type : Structs → ℕ → MemberBounds → Option CType
named_type structs tag (mbounds.Named m c) = Some (type_of_shape (shape_of structs tag m))
named_type structs tag _ = None

-- whether a pointer is of a checked kind
abbrev pub is_checked : Option Kind → Bool
is_checked (Some kind.One) = true
is_checked (Some kind.Arr) = true
is_checked (Some kind.Nt) = true
is_checked _ = false

-- the type of the fresh variable that a member may need if it is a checked pointer and its bounds name a member
abbrev pub member_fresh : Structs → CType → Option Member → Option CType
member_fresh structs t None = None
member_fresh structs t (Some m) = if is_checked (kind_of t) then named_type structs m.tag (member_bounds structs m) else None

-- the type of the amount that the limits of a bounds cast count, if there are limits
abbrev pub counted_there : Option LimitsView → Option CType
counted_there None = None
counted_there (Some l) = l.counted

-- The type of the fresh variable that an expression may need: a checked pointer that is a member whose bounds name a
-- member (what that one is then), a bounds cast with an amount (the amount), and a `calloc` (the count).
abbrev pub may_need_of_node : Structs → NodeOfViews → CType → Option CType
may_need_of_node structs (Node-F.Dot e n spot) t = member_fresh structs t (member_of_node (Node-F.Dot e n spot))
may_need_of_node structs (Node-F.Arrow e n spot) t = member_fresh structs t (member_of_node (Node-F.Arrow e n spot))
may_need_of_node structs (Node-F.Trusted w e l) t = counted_there l
may_need_of_node structs (Node-F.Tested w e l) t = counted_there l
may_need_of_node structs (Node-F.Calloc w e x) t = Some ctype.Int
may_need_of_node structs _ t = None

-- the form of that amount
abbrev pub amount_there : Structs → CType → Option LimitsView → Known → Option Form
amount_there structs t None facts = None
amount_there structs t (Some l) facts = l.amount (size_of structs (element_of t)) facts

-- An amount that has a form needs no fresh variable.
abbrev pub has_form_of_node : Structs → NodeOfViews → CType → Known → Bool
has_form_of_node structs (Node-F.Trusted w e l) t facts = is_some (amount_there structs t l facts)
has_form_of_node structs (Node-F.Tested w e l) t facts = is_some (amount_there structs t l facts)
has_form_of_node structs (Node-F.Calloc w e x) t facts = is_some (in_type facts ctype.Int (e.form facts))
has_form_of_node structs _ t facts = false

-- the type of the fresh variable that an expression itself needs
abbrev pub own_fresh : CType → NodeView → Known → Option CType
own_fresh t n facts = if n.has_form t facts then None else n.may_need t

-- how many expressions may need one
abbrev pub most_after : ℕ → List View → ℕ
most_after n [] = n
most_after n (e ∷ es) = most_after (capped n e.most_fresh) es

-- how many fresh variables the limits of a bounds cast need at most
abbrev pub most_there : Option LimitsView → ℕ
most_there None = 0
most_there (Some l) = l.most_fresh

-- how many fresh variables the parts of a node need at most
abbrev pub most_of_node : NodeOfViews → ℕ
most_of_node n = count_of_parts (λ e. e.most_fresh) most_there (most_after 0) n

-- how many fresh variables an expression needs at most, its own included
abbrev pub with_own_most : CType → NodeView → ℕ
with_own_most t n = if is_some (n.may_need t) then capped n.most_fresh 1 else n.most_fresh

-- the types of the fresh variables that the limits of a bounds cast need at a point
abbrev pub fresh_there : Option LimitsView → State → List CType
fresh_there None at = []
fresh_there (Some l) at = l.fresh at

-- the types of the fresh variables that the arguments of a call need at a point
abbrev pub all_fresh : List View → State → List CType
all_fresh [] at = []
all_fresh (e ∷ es) at = e.fresh at ++ all_fresh es at

-- A right operand needs what it needs at its own point. If none of its parts may need one, there is no need to look.
abbrev pub right_fresh : TreeOp → View → View → State → List CType
right_fresh o e f at = if f.most_fresh == 0 then [] else f.fresh (right_point o e at)

-- the fresh variables that the parts of a node need at a point, by their types and in walk order
abbrev pub fresh_of_node : NodeOfViews → State → List CType
fresh_of_node (Node-F.Un o e) at = e.fresh at
fresh_of_node (Node-F.Bin o e f) at = e.fresh at ++ right_fresh o e f at
fresh_of_node (Node-F.Pick e f g) at = (e.fresh at ++ f.fresh at) ++ g.fresh at
fresh_of_node (Node-F.Index e f) at = e.fresh at ++ f.fresh at
fresh_of_node (Node-F.Dot e n spot) at = e.fresh at
fresh_of_node (Node-F.Arrow e n spot) at = e.fresh at
fresh_of_node (Node-F.Cast w e) at = e.fresh at
fresh_of_node (Node-F.Trusted w e l) at = e.fresh at ++ fresh_there l at
fresh_of_node (Node-F.Tested w e l) at = e.fresh at ++ fresh_there l at
fresh_of_node (Node-F.Call n es) at = all_fresh es at
fresh_of_node (Node-F.Calloc w e x) at = e.fresh at
fresh_of_node _ at = []

-- the ranges of the types of fresh variables, of which the first is variable x
abbrev pub with_types : ℕ → List CType → Known → Known
with_types x [] facts = facts
with_types x (t ∷ ts) facts = with_types (capped x 1) ts (with_range x (range_of t) facts)

-- the form of a fresh variable, by its number among the locals
abbrev pub fresh_form : ℕ → Form
fresh_form k = record { base = None; var = capped k 1; add = pos 0 }

-- The places of pointers, and how values are numbered.
use Rattle.std.specs.Option.{option_or}
use Rattle.std.specs.Prelude.{ℕ, Bool, true, false, ◌&&◌, if◌then◌else◌, Option, None, Some, is_some, is_none, List, [], ◌∷◌, slice_get}
use Rattle.ckc_types.specs.declared.types.CType.{CType}
use Rattle.ckc_linear.specs.declared.forms.Base.TheVariants as base
use Rattle.ckc_linear.specs.declared.forms.Form.{Form}
use Rattle.ckc_syntax.specs.declared.tree.Name.{Name}
use Rattle.ckc_syntax.specs.declared.tree.Name.TheVariants as name
use Rattle.ckc_syntax.specs.declared.tree.TreeOp.{TreeOp}
use Rattle.ckc_syntax.specs.declared.tree.TreeOp.TheVariants as op
use Rattle.ckc_syntax.specs.declared.tree.Node.{Node-F}
use Rattle.ckc_typed.specs.declared.typed.StaticObject.{StaticObject}
use Rattle.ckc_typed.specs.Types.{is_pointer, kind_of}
use Rattle.ckc_typed.specs.Operands.{same_element, is_raw_kind}
use Rattle.ckc_bounds_points.specs.declared.frame.Frame.{Frame}
use Rattle.ckc_bounds_points.specs.Shown.{Known}
use Rattle.ckc_bounds_points.specs.Forms.{sum_of_forms, difference_of_forms, base_form}
use Rattle.ckc_bounds_views.specs.Parts.{LimitsView, View, NodeView, NodeOfViews, capped, count_of_parts}

-- whether an object of file scope is an array
abbrev pub is_array : Option StaticObject → Bool
is_array (Some o) = is_some o.array
is_array None = false

-- the place that a name stands for: that of a local or of a static array
abbrev pub named_place : Frame → Name → Option Form
named_place frame (name.Local k) = Some (base_form (base.Local k))
named_place frame (name.Static k) = if is_array (slice_get frame.statics k) then Some (base_form (base.Array k)) else None
named_place frame _ = None

-- how many pointers in the arguments of a call stand for themselves, beside n others
abbrev pub values_after : ℕ → List View → ℕ
values_after n [] = n
values_after n (e ∷ es) = values_after (capped n e.values) es

-- how many pointers in the limits of a bounds cast stand for themselves
abbrev pub values_there : Option LimitsView → ℕ
values_there None = 0
values_there (Some l) = l.values

-- how many pointers in the parts of a node stand for themselves
abbrev pub values_of_node : NodeOfViews → ℕ
values_of_node n = count_of_parts (λ e. e.values) values_there (values_after 0) n

-- A pointer may stand for itself, unless it is a local, a static array or null.
abbrev pub stands_alone : {A L M E : Type 0} → Frame → Node-F Name A L M E → Bool
stands_alone frame (Node-F.Name n) = is_none (named_place frame n)
stands_alone frame Node-F.Null = false
stands_alone frame _ = true

-- how many pointers in an expression stand for themselves, the expression included
abbrev pub with_own : CType → NodeView → ℕ
with_own t n = if is_pointer t && n.stands_alone then capped n.values 1 else n.values

-- `p + k`, `k + p` and `p - k` on a checked pointer
abbrev pub binary_place : ℕ → Known → TreeOp → View → View → Option Form
binary_place first facts op.Add e f =
    if is_pointer e.ctype then sum_of_forms (e.place first facts) (f.form facts)
    else sum_of_forms (f.place (capped first e.values) facts) (e.form facts)
binary_place first facts op.Sub e f = difference_of_forms (e.place first facts) (f.form facts)
binary_place first facts _ e f = None

-- the place of `&*p` and `&p[e]`
abbrev pub unary_place : ℕ → Known → TreeOp → View → Option Form
unary_place first facts op.Address e = e.target first facts
unary_place first facts _ e = None

-- the place of a pointer that does not stand for itself
abbrev pub place_of_node : Frame → NodeOfViews → CType → ℕ → Known → Option Form
place_of_node frame (Node-F.Name n) t first facts = named_place frame n
place_of_node frame (Node-F.Un o e) t first facts = unary_place first facts o e
place_of_node frame (Node-F.Bin o e f) t first facts = if is_raw_kind (kind_of t) then None else binary_place first facts o e f
place_of_node frame (Node-F.Cast w e) t first facts = if same_element t e.ctype then e.place first facts else None
place_of_node frame _ t first facts = None

-- the place of what `*p` and `p[e]` read
abbrev pub target_of_node : NodeOfViews → ℕ → Known → Option Form
target_of_node (Node-F.Un op.Deref e) first facts = e.place first facts
target_of_node (Node-F.Index e f) first facts =
    if is_raw_kind (kind_of e.ctype) then None else sum_of_forms (e.place first facts) (f.form facts)
target_of_node _ first facts = None

-- the place of a pointer that stands for itself
abbrev pub own_place : NodeView → ℕ → Option Form
own_place n first = if n.stands_alone then Some (base_form (base.Value (capped first n.values))) else None

-- The place of a pointer: `p + 1` is one element after p. One that has no place by its parts stands for itself, and has
-- the number after those of the values in its parts. Null has none.
abbrev pub pointer_place : CType → NodeView → ℕ → Known → Option Form
pointer_place t n first facts = if is_pointer t then option_or (n.place t first facts) (own_place n first) else None

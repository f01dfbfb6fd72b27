-- The ranges of pointers (see the table of places and ranges).
use Rattle.std.specs.Prelude.{ℕ, if◌then◌else◌, pos, Option, None, Some, is_some, List, [], ◌∷◌, ◌++◌, length, slice_get}
use Rattle.ckc_types.specs.declared.types.Kind.{Kind}
use Rattle.ckc_types.specs.declared.types.Kind.TheVariants as kind
use Rattle.ckc_types.specs.declared.types.CType.{CType}
use Rattle.ckc_types.specs.declared.types.CType.TheVariants as ctype
use Rattle.ckc_types.specs.declared.types.MemberBounds.{MemberBounds}
use Rattle.ckc_types.specs.declared.types.MemberBounds.TheVariants as mbounds
use Rattle.ckc_types.specs.declared.types.Structs.{Structs}
use Rattle.ckc_linear.specs.declared.forms.Base.TheVariants as base
use Rattle.ckc_linear.specs.declared.forms.Form.{Form}
use Rattle.ckc_syntax.specs.declared.tree.Name.{Name}
use Rattle.ckc_syntax.specs.declared.tree.Name.TheVariants as name
use Rattle.ckc_syntax.specs.declared.tree.TreeOp.{TreeOp}
use Rattle.ckc_syntax.specs.declared.tree.TreeOp.TheVariants as op
use Rattle.ckc_syntax.specs.declared.tree.Node.{Node-F}
use Rattle.ckc_typed.specs.declared.typed.Range.{Range}
use Rattle.ckc_typed.specs.declared.typed.Range.TheVariants as range
use Rattle.ckc_typed.specs.declared.typed.StaticObject.{StaticObject}
use Rattle.ckc_typed.specs.Types.{is_pointer, kind_of, element_of}
use Rattle.ckc_typed.specs.Constants.{size_of}
use Rattle.ckc_typed.specs.Operands.{same_element, is_raw_kind}
use Rattle.ckc_bounds_points.specs.declared.frame.Bounds.{Bounds}
use Rattle.ckc_bounds_points.specs.declared.frame.HeadBounds.{HeadBounds}
use Rattle.ckc_bounds_points.specs.declared.frame.Frame.{Frame}
use Rattle.ckc_bounds_points.specs.Shown.{Known}
use Rattle.ckc_bounds_points.specs.Flow.{State}
use Rattle.ckc_bounds_points.specs.Forms.{constant_form, moved_form, in_type}
use Rattle.ckc_bounds_ranges.specs.Replaced.{replaced_bounds}
use Rattle.ckc_bounds_ranges.specs.Rows.{range_from, range_of_ends, range_of_local, range_of_array}
use Rattle.ckc_bounds_views.specs.declared.variables.Own.{Own}
use Rattle.ckc_bounds_views.specs.declared.variables.Member.{Member}
use Rattle.ckc_bounds_views.specs.Parts.{LimitsView, View, NodeView, NodeOfViews, capped, next_behind, fresh_behind}
use Rattle.ckc_bounds_views.specs.Fresh.{member_of_node, member_bounds, is_checked, fresh_form}
use Rattle.ckc_bounds_views.specs.Arguments.{bases_by, variables_by, own_by}

-- One element, as of a `_Ptr`.
abbrev pub range_of_one : ℕ → Range
range_of_one own = range_from (base.Value own) (constant_form (pos 1))

-- if no bounds are written: of a `_Ptr` one element, of an `_Nt_array_ptr` none, else nothing is known
abbrev pub range_by_type : Option Kind → ℕ → Range
range_by_type (Some kind.One) own = range_of_one own
range_by_type (Some kind.Nt) own = range_from (base.Value own) (constant_form (pos 0))
range_by_type _ own = range.Missing

-- so many elements from a pointer up; it is missing if their number has no form
abbrev pub range_up_to : ℕ → Option Form → Range
range_up_to own None = range.Missing
range_up_to own (Some k) = range_from (base.Value own) k

-- A member with the bounds `count(m + c)` has as many elements as m says then, which is a fresh variable.
abbrev pub range_in_struct : Option Kind → MemberBounds → Own → Range
range_in_struct kind mbounds.Nothing own = range_by_type kind own.value
range_in_struct kind mbounds.Unknown own = range.Missing
range_in_struct kind mbounds.NoForm own = range.Missing
range_in_struct kind (mbounds.Fixed c) own = range_from (base.Value own.value) (constant_form c)
range_in_struct kind (mbounds.Named m c) own = range_up_to own.value (moved_form (Some (fresh_form own.fresh)) c)

-- the range of a checked pointer that is a member
abbrev pub range_of_member : Structs → CType → Option Member → Own → Range
range_of_member structs t None own = range.Missing
range_of_member structs t (Some m) own =
    if is_checked (kind_of t) then range_in_struct (kind_of t) (member_bounds structs m) own else range.Missing

-- An object has the bounds that are written, or those of its type.
abbrev pub range_of_object : Option (Option Bounds) → CType → ℕ → Range
range_of_object (Some (Some b)) t own = range_of_ends (replaced_bounds (own_by own ∷ []) [] b)
range_of_object _ t own = range_by_type (kind_of t) own

-- the range of a named object of file scope, which is an array or a pointer
abbrev pub range_of_static : Frame → ℕ → Option StaticObject → CType → ℕ → Range
range_of_static frame k None t own = range_of_object (slice_get frame.objects k) t own
range_of_static frame k (Some o) t own =
    if is_some o.array then range_of_array k o else range_of_object (slice_get frame.objects k) t own

-- the range of a pointer or an array that is named
abbrev pub range_of_name : Frame → Name → CType → ℕ → List ℕ → Range
range_of_name frame (name.Local k) t own widened = range_of_local frame k widened
range_of_name frame (name.Static k) t own widened = range_of_static frame k (slice_get frame.statics k) t own
range_of_name frame _ t own widened = range.Missing

-- pointer arithmetic keeps the range of the pointer
abbrev pub range_of_operand : View → View → ℕ → ℕ → State → Range
range_of_operand e f first fresh at =
    if is_pointer e.ctype then e.range first fresh at
    else f.range (capped first e.values) (fresh_behind e fresh at) at

-- the range of `*e` and of `&e`
abbrev pub range_of_unary : TreeOp → View → CType → Own → ℕ → ℕ → State → Range
range_of_unary op.Deref e t own first fresh at = range_by_type (kind_of t) own.value
range_of_unary op.Address e t own first fresh at = e.address own first fresh at
range_of_unary _ e t own first fresh at = range.Missing

-- a form if there is one, or else a fresh variable
abbrev pub form_or_fresh : Option Form → ℕ → Form
form_or_fresh (Some k) fresh = k
form_or_fresh None fresh = fresh_form fresh

-- the range of a bounds cast with limits
abbrev pub range_counted : Option CType → Option Form → Own → Range
range_counted None k own = range.Missing
range_counted (Some t) k own = range_from (base.Value own.value) (form_or_fresh k own.fresh)

-- A bounds cast has as many elements as it counts, one to a `_Ptr`. An amount with no form is a fresh variable.
abbrev pub range_of_cast : Structs → CType → Option LimitsView → Own → Known → Range
range_of_cast structs t None own facts = range_of_one own.value
range_of_cast structs t (Some l) own facts = range_counted l.counted (l.amount (size_of structs (element_of t)) facts) own

-- A call has the bounds of the result, with the arguments in place of the parameters.
abbrev pub range_of_result : Option HeadBounds → List View → ℕ → ℕ → Known → Range
range_of_result None es own first facts = range.Missing
range_of_result (Some h) es own first facts =
    range_of_ends (replaced_bounds (bases_by h.params 0 first facts es ++ own_by own ∷ []) (variables_by h.params 0 facts es) h.bounds)

-- the range of a call of a function of the source file
abbrev pub range_of_call : Frame → Name → List View → ℕ → ℕ → Known → Range
range_of_call frame (name.Function k) es own first facts = range_of_result (slice_get frame.heads k) es own first facts
range_of_call frame _ es own first facts = range.Missing

-- A `calloc` has as many elements as its count in the type `int` says, else a fresh variable. What goes to an
-- `_Nt_array_ptr` is judged where it goes there: its upper end is one less.
abbrev pub range_of_allocation : Known → Option Form → Own → Range
range_of_allocation facts k own = range_from (base.Value own.value) (form_or_fresh (in_type facts ctype.Int k) own.fresh)

-- the range of a pointer, by its node and its type
abbrev pub range_of_node : Frame → NodeOfViews → CType → Own → ℕ → ℕ → State → Range
range_of_node frame (Node-F.Name n) t own first fresh at = range_of_name frame n t own.value at.widened
range_of_node frame (Node-F.Text bytes) t own first fresh at = range_from (base.Value own.value) (constant_form (pos (length bytes)))
range_of_node frame (Node-F.Un o e) t own first fresh at = range_of_unary o e t own first fresh at
range_of_node frame (Node-F.Bin o e f) t own first fresh at =
    if is_raw_kind (kind_of t) then range.Missing else range_of_operand e f first fresh at
range_of_node frame (Node-F.Index e f) t own first fresh at = range_by_type (kind_of t) own.value
range_of_node frame (Node-F.Dot e n spot) t own first fresh at = range_of_member frame.structs t (member_of_node (Node-F.Dot e n spot)) own
range_of_node frame (Node-F.Arrow e n spot) t own first fresh at = range_of_member frame.structs t (member_of_node (Node-F.Arrow e n spot)) own
range_of_node frame (Node-F.Cast w e) t own first fresh at = if same_element t e.ctype then e.range first fresh at else range.Missing
range_of_node frame (Node-F.Trusted w e l) t own first fresh at = range_of_cast frame.structs t l own at.facts
range_of_node frame (Node-F.Tested w e l) t own first fresh at = range_of_cast frame.structs t l own at.facts
range_of_node frame (Node-F.Call n es) t own first fresh at = range_of_call frame n es own.value first at.facts
range_of_node frame (Node-F.Calloc w e x) t own first fresh at = range_of_allocation at.facts (e.form at.facts) own
range_of_node frame _ t own first fresh at = range.Missing

-- What the address of a node may be used for: `&*p` and `&p[k]` what p may, `&s->m` and `&x` that one element. Behind an
-- unchecked pointer nothing is known.
abbrev pub range_of_address : NodeOfViews → Own → ℕ → ℕ → State → Range
range_of_address (Node-F.Un op.Deref e) own first fresh at = e.range first fresh at
range_of_address (Node-F.Index e f) own first fresh at = if is_raw_kind (kind_of e.ctype) then range.Missing else e.range first fresh at
range_of_address (Node-F.Arrow e n spot) own first fresh at = if is_raw_kind (kind_of e.ctype) then range.Missing else range_of_one own.value
range_of_address (Node-F.Dot e n spot) own first fresh at = if is_raw_kind e.behind then range.Missing else range_of_one own.value
range_of_address _ own first fresh at = range_of_one own.value

-- the numbers of a pointer itself, after those in its parts
abbrev pub own_numbers : NodeView → ℕ → ℕ → State → Own
own_numbers n first fresh at = record { value = capped first n.values; fresh = next_behind fresh (n.fresh at) }

-- The range of a pointer. Null may be used for any; what is no pointer has none.
abbrev pub pointer_range : CType → NodeView → ℕ → ℕ → State → Range
pointer_range t n first fresh at =
    if n.null then range.Any
    else (if is_pointer t then n.range t (own_numbers n first fresh at) first fresh at else range.Missing)

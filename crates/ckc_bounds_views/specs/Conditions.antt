-- What conditions make known on their two sides.
use Rattle.std.specs.Prelude.{ℕ, Bool, true, false, not, ◌&&◌, ◌||◌, if◌then◌else◌, ℤ, pos, int_lt, Option, None, Some, [], ◌∷◌, ◌++◌}
use Rattle.ckc_types.specs.declared.types.Kind.{Kind}
use Rattle.ckc_linear.specs.declared.forms.Base.{Base}
use Rattle.ckc_linear.specs.declared.forms.Base.TheVariants as base
use Rattle.ckc_linear.specs.declared.forms.Form.{Form}
use Rattle.ckc_syntax.specs.declared.tree.TreeOp.{TreeOp}
use Rattle.ckc_syntax.specs.declared.tree.TreeOp.TheVariants as op
use Rattle.ckc_syntax.specs.declared.tree.Node.{Node-F}
use Rattle.ckc_typed.specs.Conversions.{is_terminated_kind}
use Rattle.ckc_typed.specs.declared.environment.Constant.{Constant}
use Rattle.ckc_typed.specs.Types.{is_unsigned, kind_of}
use Rattle.ckc_typed.specs.Constants.{value_of}
use Rattle.ckc_bounds_points.specs.declared.frame.Bounds.{Bounds}
use Rattle.ckc_bounds_points.specs.declared.frame.Bounds.TheVariants as bounds
use Rattle.ckc_bounds_points.specs.declared.frame.Local.{Local}
use Rattle.ckc_bounds_points.specs.declared.frame.Frame.{Frame}
use Rattle.ckc_bounds_points.specs.Shown.{Known}
use Rattle.ckc_bounds_points.specs.Frames.{local_at}
use Rattle.ckc_bounds_points.specs.Flow.{State}
use Rattle.ckc_bounds_points.specs.Forms.{constant_form, same_form, with_most, with_less}
use Rattle.ckc_bounds_views.specs.Parts.{View, NodeOfViews}
use Rattle.ckc_bounds_views.specs.Places.{target_of_node}

-- the kind of the pointer that an expression reads through
abbrev pub behind_node : NodeOfViews → Option Kind
behind_node (Node-F.Un op.Deref e) = kind_of e.ctype
behind_node (Node-F.Index e f) = kind_of e.ctype
behind_node _ = None

-- whether a form is the upper end of bounds
abbrev pub is_upper_of : Bounds → Form → Bool
is_upper_of bounds.Unknown f = false
is_upper_of (bounds.Known low high) f = same_form high f

-- whether a form is the declared upper bound of a local `_Nt_array_ptr`
abbrev pub is_upper : Form → Option Local → Bool
is_upper f None = false
is_upper f (Some l) = is_terminated_kind (kind_of l.ctype) && is_upper_of l.bounds f

-- the local `_Nt_array_ptr` that a form has as its base and whose declared upper bound it is
abbrev pub upper_local : Frame → Form → Option Base → Option ℕ
upper_local frame f (Some (base.Local k)) = if is_upper f (local_at frame k) then Some k else None
upper_local frame f _ = None

-- the local `_Nt_array_ptr` whose declared upper bound is a place
abbrev pub widened_by : Frame → Option Form → Option ℕ
widened_by frame None = None
widened_by frame (Some f) = upper_local frame f f.base

-- the place that is read, if the read goes through an `_Nt_array_ptr`
abbrev pub read_place : Option Kind → Option Form → Option Form
read_place behind f = if is_terminated_kind behind then f else None

-- the point with one more widened local, if there is one
abbrev pub wider : Option ℕ → State → State
wider None at = at
wider (Some k) at = if at.reached then record at { widened = at.widened ++ k ∷ [] } else at

-- A condition that reads through a local `_Nt_array_ptr` at its upper bound widens it by one on its true side: after
-- `if (s[n])` with `s : count(n)`, the element n may be passed.
abbrev pub widening : Frame → Option Kind → Option Form → State → State
widening frame behind f at = wider (widened_by frame (read_place behind f)) at

-- A condition that reads through a pointer widens on its true side alone.
abbrev pub widening_side : Frame → Option Kind → (Known → Option Form) → Bool → State → State
widening_side frame behind target true at = widening frame behind (target at.facts) at
widening_side frame behind target false at = at

-- What a comparison says on its true side: `i < n` that i - n <= -1, `i == n` that i - n <= 0 and n - i <= 0, `!=`
-- nothing.
abbrev pub said : TreeOp → Form → Form → Known → Known
said op.Lt x y facts = with_less x y facts
said op.Le x y facts = with_most x y facts
said op.Gt x y facts = with_less y x facts
said op.Ge x y facts = with_most y x facts
said op.Eq x y facts = with_most y x (with_most x y facts)
said _ x y facts = facts

-- the comparison that holds if another one does not
abbrev pub opposite : TreeOp → TreeOp
opposite op.Lt = op.Ge
opposite op.Le = op.Gt
opposite op.Gt = op.Le
opposite op.Ge = op.Lt
opposite op.Eq = op.Ne
opposite op.Ne = op.Eq
opposite o = o

-- the comparison that holds on a side of a condition: the one that is written, or its opposite
abbrev pub holding : TreeOp → Bool → TreeOp
holding o true = o
holding o false = opposite o

-- whether an operator compares
abbrev pub is_comparison : TreeOp → Bool
is_comparison op.Lt = true
is_comparison op.Le = true
is_comparison op.Gt = true
is_comparison op.Ge = true
is_comparison op.Eq = true
is_comparison op.Ne = true
is_comparison _ = false

-- a constant as an operand; a negative one gives nothing if it compares as `unsigned`
abbrev pub constant_operand : Bool → ℤ → Option Form
constant_operand unsigned n = if unsigned && int_lt n (pos 0) then None else Some (constant_form n)

-- an operand that gives facts, by the constant that it is, if it is one
abbrev pub operand_of : Bool → View → Option Constant → Option Form
operand_of unsigned e (Some c) = constant_operand unsigned (value_of c)
operand_of unsigned e None = if unsigned && not (is_unsigned e.ctype) then None else e.variable

-- An operand of a comparison that gives facts: a local or a constant, if it compares as `int`, and an `unsigned`
-- local or a constant that is not negative, if it compares as `unsigned`.
abbrev pub operand : Bool → View → Option Form
operand unsigned e = operand_of unsigned e e.number

-- whether two operands compare as `unsigned`
abbrev pub compares_unsigned : View → View → Bool
compares_unsigned e f = is_unsigned e.ctype || is_unsigned f.ctype

-- `e != 0` widens as e does.
abbrev pub nonzero_side : Frame → TreeOp → View → View → Bool → State → State
nonzero_side frame op.Ne e f side at = if f.is_zero then widening_side frame e.behind (e.target 0) side at else at
nonzero_side frame _ e f side at = at

-- the point on a side of a comparison, by its two operands if both give facts
abbrev pub by_operands : Frame → TreeOp → View → View → Bool → Option Form → Option Form → State → State
by_operands frame o e f side (Some x) (Some y) at =
    if at.reached then record at { facts = said (holding o side) x y at.facts } else at
by_operands frame o e f side _ _ at = nonzero_side frame o e f side at

-- the point on a side of an operator that is neither `&&` nor `||`; only a comparison changes it
abbrev pub comparison_side : Frame → TreeOp → View → View → Bool → State → State
comparison_side frame o e f side at =
    if is_comparison o
    then by_operands frame o e f side (operand (compares_unsigned e f) e) (operand (compares_unsigned e f) f) at
    else at

-- The point at which the right operand of `&&` and of `||` is evaluated. `||` hands on no widening of its operands.
abbrev pub narrowed : State → State → State
narrowed at after = record after { widened = at.widened }

-- The right operand of `&&` and `||` stands on a side of the left one.
abbrev pub right_point : TreeOp → View → State → State
right_point op.AndThen e at = e.side true at
right_point op.OrElse e at = narrowed at (e.side false at)
right_point _ e at = at

-- If `&&` is true, both operands are; if it is false, nothing is known.
abbrev pub and_side : View → View → Bool → State → State
and_side e f true at = f.side true (e.side true at)
and_side e f false at = at

-- If `||` is false, both operands are; if it is true, nothing is known.
abbrev pub or_side : View → View → Bool → State → State
or_side e f true at = at
or_side e f false at = narrowed at (f.side false (narrowed at (e.side false at)))

-- the point on a side of a binary operator
abbrev pub binary_side : Frame → TreeOp → View → View → Bool → State → State
binary_side frame op.AndThen e f side at = and_side e f side at
binary_side frame op.OrElse e f side at = or_side e f side at
binary_side frame o e f side at = comparison_side frame o e f side at

-- What holds on the two sides of a condition. `!` exchanges them.
abbrev pub side_of_node : Frame → NodeOfViews → Bool → State → State
side_of_node frame (Node-F.Un op.Not e) side at = e.side (not side) at
side_of_node frame (Node-F.Bin o e f) side at = binary_side frame o e f side at
side_of_node frame n side at = widening_side frame (behind_node n) (target_of_node n 0) side at

-- The integers that expressions stand for.
use Rattle.std.specs.Prelude.{◌==◌, Bool, true, false, if◌then◌else◌, neg_ℤ, Option, None, Some}
use Rattle.ckc_types.specs.declared.types.CType.{CType}
use Rattle.ckc_linear.specs.declared.forms.Form.{Form}
use Rattle.ckc_syntax.specs.declared.tree.Name.{Name}
use Rattle.ckc_syntax.specs.declared.tree.TreeOp.{TreeOp}
use Rattle.ckc_syntax.specs.declared.tree.TreeOp.TheVariants as op
use Rattle.ckc_syntax.specs.declared.tree.Node.{Node-F}
use Rattle.ckc_typed.specs.declared.environment.Constant.{Constant}
use Rattle.ckc_typed.specs.Types.{type_written, is_integer}
use Rattle.ckc_typed.specs.Constants.{size_of, negated, value_of}
use Rattle.ckc_bounds_points.specs.declared.frame.Frame.{Frame}
use Rattle.ckc_bounds_points.specs.Shown.{Known}
use Rattle.ckc_bounds_points.specs.Frames.{variable}
use Rattle.ckc_bounds_points.specs.Forms.{constant_form, moved_form, in_type}
use Rattle.ckc_bounds_views.specs.declared.forms.Step.{Step}
use Rattle.ckc_bounds_views.specs.Parts.{View, NodeOfViews}

-- the constant that a node is: a number, `sizeof(T)`, or `-` before a constant
abbrev pub number_of_node : Frame → NodeOfViews → Option Constant
number_of_node frame (Node-F.Number n unsigned) = Some (record { word = n; unsigned = unsigned })
number_of_node frame (Node-F.Size t) = Some (record { word = size_of frame.structs (type_written t); unsigned = true })
number_of_node frame (Node-F.Un o e) = negated o e.number
number_of_node frame _ = None

-- whether a node is the number 0
abbrev pub is_zero_node : {A L M E : Type 0} → Node-F Name A L M E → Bool
is_zero_node (Node-F.Number n unsigned) = n == 0
is_zero_node _ = false

-- whether a node is `NULL` or the number 0
abbrev pub null_node : {A L M E : Type 0} → Node-F Name A L M E → Bool
null_node Node-F.Null = true
null_node (Node-F.Number n unsigned) = n == 0
null_node _ = false

-- the integer local that a node names, as a form
abbrev pub variable_of_node : {A L M E : Type 0} → Frame → Node-F Name A L M E → Option Form
variable_of_node frame (Node-F.Name n) = variable frame n
variable_of_node frame _ = None

-- which operand of `+` is moved by the other one, which is a constant
abbrev pub sum_step : Option Constant → Option Constant → Option Step
sum_step c (Some d) = Some (record { left = true; by = value_of d })
sum_step (Some c) None = Some (record { left = false; by = value_of c })
sum_step None None = None

-- `e - c` is e moved down by the constant c.
abbrev pub difference_step : Option Constant → Option Step
difference_step (Some d) = Some (record { left = true; by = neg_ℤ (value_of d) })
difference_step None = None

-- which operand a sum moves, and by which number: `e + c`, `c + e` and `e - c`
abbrev pub step_of : TreeOp → Option Constant → Option Constant → Option Step
step_of op.Add c d = sum_step c d
step_of op.Sub c d = difference_step d
step_of _ c d = None

-- the form of a sum or a difference, if one operand moves the other and the type holds the result
abbrev pub form_after : Known → CType → Option Step → View → View → Option Form
form_after facts t None e f = None
form_after facts t (Some s) e f = in_type facts t (moved_form (if s.left then e.form facts else f.form facts) s.by)

-- the form of what is no constant
abbrev pub form_of_node : Frame → NodeOfViews → CType → Known → Option Form
form_of_node frame (Node-F.Name n) t facts = variable frame n
form_of_node frame (Node-F.Bin o e f) t facts = form_after facts t (step_of o e.number f.number) e f
form_of_node frame (Node-F.Cast w e) t facts = in_type facts t (e.form facts)
form_of_node frame _ t facts = None

-- the form of the constant that an expression is, or else the form that its parts give
abbrev pub constant_or : Option Constant → Option Form → Option Form
constant_or (Some c) f = Some (constant_form (value_of c))
constant_or None f = f

-- The integer form of an expression: a constant and a local are themselves, and `e + c`, `c + e`, `e - c` and a
-- conversion have the form of their parts if the exact result is shown to lie in the type.
abbrev pub integer_form : CType → Option Constant → Option Form → Option Form
integer_form t c f = if is_integer t then constant_or c f else None

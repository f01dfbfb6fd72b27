-- What an expression stands for at a point, and what it makes known as a condition.
use Rattle.std.specs.Prelude.{ℕ, Bool, true, false, Option, None, Some, List, [], ◌++◌}
use Rattle.ckc_types.specs.declared.types.CType.{CType}
use Rattle.ckc_linear.specs.declared.forms.Form.{Form}
use Rattle.ckc_syntax.specs.declared.tree.Name.{Name}
use Rattle.ckc_syntax.specs.declared.tree.Limits.{Limits, Limits-F, fold-Limits}
use Rattle.ckc_syntax.specs.declared.tree.Node.{Node, Node-F, fold-Node}
use Rattle.ckc_syntax.specs.declared.tree.Expr.{Expr, Expr-F, fold-Expr}
use Rattle.ckc_typed.specs.declared.typed.Note.{Note}
use Rattle.ckc_bounds_points.specs.declared.frame.Frame.{Frame}
use Rattle.ckc_bounds_points.specs.Shown.{Known}
use Rattle.ckc_bounds_points.specs.Flow.{State}
use Rattle.ckc_bounds_points.specs.Forms.{elements}
use Rattle.ckc_bounds_views.specs.Parts.{LimitsView, View, NodeView, NodeOfViews, LimitsOfViews, capped, with_last}
use Rattle.ckc_bounds_views.specs.Integers.{number_of_node, is_zero_node, null_node, variable_of_node, form_of_node, integer_form}
use Rattle.ckc_bounds_views.specs.Places.{values_of_node, stands_alone, with_own, place_of_node, target_of_node, pointer_place}
use Rattle.ckc_bounds_views.specs.Conditions.{behind_node, side_of_node}
use Rattle.ckc_bounds_views.specs.Fresh.{member_of_node, may_need_of_node, has_form_of_node, own_fresh, fresh_of_node, most_of_node, with_own_most}
use Rattle.ckc_bounds_views.specs.Ranges.{range_of_node, range_of_address, pointer_range}
use Rattle.ckc_bounds_views.specs.Judged.{limits_judged, node_judged, has_none_of_node, fault_of_node, operand_fault_of_node, expr_judged, operand_judged}

-- how many pointers in the limits of a bounds cast stand for themselves
abbrev pub limits_values : LimitsOfViews → ℕ
limits_values (Limits-F.Count e at) = e.values
limits_values (Limits-F.ByteCount e at) = e.values
limits_values (Limits-F.Between e f at) = capped e.values f.values
limits_values (Limits-F.Unknown at) = 0

-- how many fresh variables limits need at most
abbrev pub limits_most : LimitsOfViews → ℕ
limits_most (Limits-F.Count e pos) = e.most_fresh
limits_most (Limits-F.ByteCount e pos) = e.most_fresh
limits_most (Limits-F.Between e f pos) = capped e.most_fresh f.most_fresh
limits_most (Limits-F.Unknown pos) = 0

-- the types of the fresh variables that limits need at a point
abbrev pub limits_fresh : LimitsOfViews → State → List CType
limits_fresh (Limits-F.Count e pos) at = e.fresh at
limits_fresh (Limits-F.ByteCount e pos) at = e.fresh at
limits_fresh (Limits-F.Between e f pos) at = e.fresh at ++ f.fresh at
limits_fresh (Limits-F.Unknown pos) at = []

-- the type of the amount that limits count
abbrev pub limits_counted : LimitsOfViews → Option CType
limits_counted (Limits-F.Count e at) = Some e.ctype
limits_counted (Limits-F.ByteCount e at) = Some e.ctype
limits_counted _ = None

-- how many elements are counted, by the size of one
abbrev pub limits_amount : LimitsOfViews → ℕ → Known → Option Form
limits_amount (Limits-F.Count e at) size facts = e.form facts
limits_amount (Limits-F.ByteCount e at) size facts = elements size (e.form facts)
limits_amount _ size facts = None

-- what is said of limits, from what is said of their parts
abbrev pub limits_view : LimitsOfViews → LimitsView
limits_view l = record {
  values = limits_values l;
  most_fresh = limits_most l;
  fresh = limits_fresh l;
  counted = limits_counted l;
  amount = limits_amount l;
  judged = limits_judged l;
}

-- whether a node is a `calloc`
abbrev pub allocates_node : {A L M E : Type 0} → Node-F Name A L M E → Bool
allocates_node (Node-F.Calloc w e x) = true
allocates_node _ = false

-- what is said of a node, from what is said of its parts
abbrev pub node_view : Frame → NodeOfViews → NodeView
node_view frame n = record {
  number = number_of_node frame n;
  is_zero = is_zero_node n;
  null = null_node n;
  variable = variable_of_node frame n;
  behind = behind_node n;
  member = member_of_node n;
  allocates = allocates_node n;
  stands_alone = stands_alone frame n;
  values = values_of_node n;
  most_fresh = most_of_node n;
  fresh = fresh_of_node n;
  may_need = may_need_of_node frame.structs n;
  has_form = has_form_of_node frame.structs n;
  linear = form_of_node frame n;
  place = place_of_node frame n;
  target = target_of_node n;
  side = side_of_node frame n;
  range = range_of_node frame n;
  address = range_of_address n;
  no_address = has_none_of_node frame n;
  judged = node_judged frame n;
  fault = fault_of_node frame n;
  operand_fault = operand_fault_of_node frame n;
}

-- The integer form of an expression: a constant and a local are themselves, and `e + c`, `c + e`, `e - c` and a
-- conversion have the form of their parts if the exact result is shown to lie in the type.
abbrev pub expr_view : Expr-F Name Note LimitsView NodeView View → View
expr_view e = record {
  pos = e.pos;
  ctype = e.note.ctype;
  number = e.node.number;
  is_zero = e.node.is_zero;
  null = e.node.null;
  variable = e.node.variable;
  behind = e.node.behind;
  member = e.node.member;
  allocates = e.node.allocates;
  values = with_own e.note.ctype e.node;
  most_fresh = with_own_most e.note.ctype e.node;
  fresh = λ at. with_last (e.node.fresh at) (own_fresh e.note.ctype e.node at.facts);
  form = λ facts. integer_form e.note.ctype e.node.number (e.node.linear e.note.ctype facts);
  place = pointer_place e.note.ctype e.node;
  target = e.node.target;
  side = e.node.side;
  range = pointer_range e.note.ctype e.node;
  address = e.node.address;
  no_address = e.node.no_address;
  judged = expr_judged e.node e.pos e.note;
  operand = operand_judged e.node e.pos e.note;
}

abbrev pub view_of_node : Frame → Node Name Note → NodeView
view_of_node frame = fold-Node Name Note LimitsView NodeView View limits_view (node_view frame) expr_view

abbrev pub view_of_limits : Frame → Limits Name Note → LimitsView
view_of_limits frame = fold-Limits Name Note LimitsView NodeView View limits_view (node_view frame) expr_view

-- what is said of an expression of a function
abbrev pub view : Frame → Expr Name Note → View
view frame = fold-Expr Name Note LimitsView NodeView View limits_view (node_view frame) expr_view

-- The effects in an expression that may not stand where they stand. An effect is a call, an assignment, or a step of a
-- variable within an expression. It is barred in the second and third operand of `?:`, in bounds, in bundles, in what an
-- object of file scope begins as, and in the target of an assignment.
use Rattle.std.specs.Prelude.{Bool, true, false, ◌||◌, List, [], ◌∷◌, ◌++◌, Option, None, is_none, if◌then◌else◌}
use Rattle.ckc_base.specs.declared.places.Pos.{Pos}
use Rattle.ckc_syntax.specs.declared.tree.Name.{Name}
use Rattle.ckc_syntax.specs.declared.tree.Limits.{Limits-F, fold-Limits}
use Rattle.ckc_syntax.specs.declared.tree.Node.{Node-F, fold-Node}
use Rattle.ckc_syntax.specs.declared.tree.Expr.{Expr-F, fold-Expr}
use Rattle.ckc_syntax.specs.Inside.{listed, inside_if, inside_each, inside_limits, inside_node}
use Rattle.ckc_syntax.specs.Trees.{NamedLimits, NamedNode, NamedExpr}
use Rattle.ckc_plain_barred.specs.declared.integers.Integer.{Integer}
use Rattle.ckc_plain_barred.specs.declared.integers.Integers.{Integers}
use Rattle.ckc_plain_barred.specs.declared.forms.Work.{Work}
use Rattle.ckc_plain_barred.specs.declared.forms.Work.TheVariants as work
use Rattle.ckc_plain_barred.specs.declared.forms.Form.{Form}
use Rattle.ckc_plain_barred.specs.declared.forms.Form.TheVariants as form
use Rattle.ckc_plain_barred.specs.Integers.{result_of, local_of}
use Rattle.ckc_plain_barred.specs.Forms.{work_of, form_of_layer, is_call, is_calloc, stays}

-- Of an expression: its form; the places of the refused effects in its parts; and its own place, if it is an effect
-- itself and refused. The truth value says whether the expression stands where effects are barred.
pub record Found : Type 0 where
  pub form : Form
  pub inside : Bool → List Pos
  pub itself : Bool → List Pos

-- all refused effects of an expression
abbrev pub all_in : Found → Bool → List Pos
all_in f barred = f.inside barred ++ f.itself barred

-- the same of an expression that is no effect if it is a call: a call statement, and what a local begins as
abbrev pub whole_in : Found → Bool → List Pos
whole_in f barred = if is_call f.form then f.inside barred else all_in f barred

-- the same of the right side of an assignment
abbrev pub right_in : Found → Found → Bool → List Pos
right_in target f barred = if stays target.form f.form then f.inside barred else all_in f barred

-- the integer type of an operand that is a local of such a type
abbrev pub integer_local : Integers → Form → Option Integer
integer_local known (form.Name n) = local_of known n
integer_local known f = None

-- refused where effects are barred, and if what it sets is no local of integer type, or it sets that to a `calloc`
abbrev pub binary_refused : Integers → Work → Found → Found → Bool → Bool
binary_refused known work.Sets x e barred = barred || (is_none (integer_local known x.form) || is_calloc e.form)
binary_refused known w x e barred = false

-- refused where effects are barred, and if what it steps is no local of integer type
abbrev pub unary_refused : Integers → Work → Found → Bool → Bool
unary_refused known (work.Steps by) x barred = barred || is_none (integer_local known x.form)
unary_refused known w x barred = false

abbrev pub OfLimits : Type 0
OfLimits = List Pos

-- Whether an expression is an effect and refused. A call is also refused if its result is no integer.
abbrev pub is_refused : Integers → Node-F Name (Unit {0}) OfLimits (Pos → Found) Found → Bool → Bool
is_refused known (Node-F.Un o x) barred = unary_refused known (work_of o) x barred
is_refused known (Node-F.Bin o x e) barred = binary_refused known (work_of o) x e barred
is_refused known (Node-F.Call n es) barred = barred || is_none (result_of known n)
is_refused known n barred = false

-- the refused effects in two operands
abbrev pub binary_inside : Work → Found → Found → Bool → List Pos
binary_inside work.Sets x e barred = all_in x true ++ right_in x e barred
binary_inside w x e barred = all_in x barred ++ all_in e barred

-- the refused effects in the parts of an expression, from left to right
abbrev pub inside_of : Node-F Name (Unit {0}) OfLimits (Pos → Found) Found → Bool → List Pos
inside_of (Node-F.Bin o x e) barred = binary_inside (work_of o) x e barred
inside_of (Node-F.Pick e f g) barred = all_in e barred ++ (all_in f true ++ all_in g true)
inside_of n barred = inside_node listed (λ l. l) (λ e. all_in e barred) n

-- what is found in an expression without its place, by what is found in its parts
abbrev pub node_parts : Integers → Node-F Name (Unit {0}) OfLimits (Pos → Found) Found → Pos → Found
node_parts known n pos = record {
  form = form_of_layer n;
  inside = inside_of n;
  itself = λ barred. if is_refused known n barred then pos ∷ [] else [];
}

abbrev pub expr_parts : Expr-F Name (Unit {0}) OfLimits (Pos → Found) Found → Found
expr_parts e = e.node e.pos

-- effects are barred in bounds
abbrev pub limits_parts : Limits-F Name (Unit {0}) OfLimits (Pos → Found) Found → OfLimits
limits_parts = inside_limits listed (λ e. all_in e true)

-- the refused effects in bounds
abbrev pub in_limits : Integers → NamedLimits → List Pos
in_limits known = fold-Limits Name (Unit {0}) OfLimits (Pos → Found) Found limits_parts (node_parts known) expr_parts

abbrev pub found_in_node : Integers → NamedNode → Pos → Found
found_in_node known = fold-Node Name (Unit {0}) OfLimits (Pos → Found) Found limits_parts (node_parts known) expr_parts

-- the form of an expression and the refused effects in it
abbrev pub found_in : Integers → NamedExpr → Found
found_in known = fold-Expr Name (Unit {0}) OfLimits (Pos → Found) Found limits_parts (node_parts known) expr_parts

-- the refused effects of an expression
abbrev pub in_expr : Integers → NamedExpr → Bool → List Pos
in_expr known e barred = all_in (found_in known e) barred

-- the same of an expression that is no effect if it is a call
abbrev pub in_whole : Integers → NamedExpr → Bool → List Pos
in_whole known e barred = whole_in (found_in known e) barred

-- the same of the right side of an assignment
abbrev pub in_right : Integers → NamedExpr → NamedExpr → Bool → List Pos
in_right known target e barred = right_in (found_in known target) (found_in known e) barred

-- the same of expressions from left to right
abbrev pub in_exprs : Integers → List NamedExpr → Bool → List Pos
in_exprs known es barred = inside_each listed (λ e. in_expr known e barred) es

-- the refused effects in bounds that may be left out
abbrev pub in_bounds : Integers → Option NamedLimits → List Pos
in_bounds known l = inside_if listed (in_limits known) l

-- the same of an expression that may be left out
abbrev pub in_maybe : Integers → Option NamedExpr → Bool → List Pos
in_maybe known e barred = inside_if listed (λ a. in_expr known a barred) e

-- What the rules on effects ask of the parts of an expression.
use Rattle.std.specs.Prelude.{Bool, true, false, ◌||◌}
use Rattle.ckc_syntax.specs.declared.tree.Name.{Name}
use Rattle.ckc_syntax.specs.declared.tree.Name.TheVariants as name
use Rattle.ckc_syntax.specs.declared.tree.TreeOp.{TreeOp}
use Rattle.ckc_syntax.specs.declared.tree.TreeOp.TheVariants as op
use Rattle.ckc_syntax.specs.declared.tree.Node.{Node-F, out-Node}
use Rattle.ckc_plain_barred.specs.declared.forms.Work.{Work}
use Rattle.ckc_plain_barred.specs.declared.forms.Work.TheVariants as work
use Rattle.ckc_plain_barred.specs.declared.forms.Form.{Form}
use Rattle.ckc_plain_barred.specs.declared.forms.Form.TheVariants as form
use Rattle.ckc_syntax.specs.Trees.{NamedExpr}

-- What an operator does: `=` sets its left operand, `++` and `--` after their operand step it by `+` and `-`, `&&` and
-- `||` choose whether their right operand is evaluated, and the others compute a value of their operands.
abbrev pub work_of : TreeOp → Work
work_of op.Set = work.Sets
work_of op.PostInc = work.Steps op.Add
work_of op.PostDec = work.Steps op.Sub
work_of op.AndThen = work.IfTrue
work_of op.OrElse = work.IfFalse
work_of other = work.Computes

-- an expression of two operands, by what its operator does
abbrev pub binary_form : Work → Form
binary_form work.Sets = form.Set
binary_form w = form.Other

-- an expression of one operand, by what its operator does
abbrev pub unary_form : Work → Form
unary_form (work.Steps by) = form.Step by
unary_form w = form.Other

-- A name, a call of what a name means, a `calloc`, an assignment, a step after which the old value is used, or another
-- expression.
abbrev pub form_of_layer : {L M E : Type 0} → Node-F Name (Unit {0}) L M E → Form
form_of_layer (Node-F.Name n) = form.Name n
form_of_layer (Node-F.Un o x) = unary_form (work_of o)
form_of_layer (Node-F.Bin o x e) = binary_form (work_of o)
form_of_layer (Node-F.Call n es) = form.Call n
form_of_layer (Node-F.Calloc t e u) = form.Calloc
form_of_layer n = form.Other

-- the form of an expression
abbrev pub form_of : NamedExpr → Form
form_of e = form_of_layer (out-Node Name (Unit {0}) e.node)

-- whether an operator is the assignment
abbrev pub is_set : Work → Bool
is_set work.Sets = true
is_set w = false

abbrev pub is_name : Form → Bool
is_name (form.Name n) = true
is_name f = false

abbrev pub is_call : Form → Bool
is_call (form.Call n) = true
is_call f = false

abbrev pub is_calloc : Form → Bool
is_calloc form.Calloc = true
is_calloc f = false

-- whether a name means `getchar` or `putchar`
abbrev pub is_built_in : Name → Bool
is_built_in name.Getchar = true
is_built_in name.Putchar = true
is_built_in n = false

-- A call that is the whole right side of an assignment is no effect if the target is a name, or if it calls `getchar` or
-- `putchar`.
abbrev pub stays : Form → Form → Bool
stays target (form.Call n) = is_name target || is_built_in n
stays target right = false

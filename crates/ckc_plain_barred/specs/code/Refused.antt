-- Whether an effect is refused, by the forms of its operands.
use Rattle.std.specs.Prelude.{Bool, false, ◌||◌, List, ◌++◌, is_none, if◌then◌else◌}
use Rattle.ckc_base.specs.declared.places.Pos.{Pos}
use Rattle.ckc_syntax.specs.declared.tree.Name.{Name}
use Rattle.ckc_syntax.specs.declared.tree.Node.{Node-F, out-Node}
use Rattle.ckc_syntax.specs.Trees.{NamedLimits, NamedNode, NamedExpr}
use Rattle.ckc_plain_barred.specs.declared.integers.Integers.{Integers}
use Rattle.ckc_plain_barred.specs.declared.forms.Work.{Work}
use Rattle.ckc_plain_barred.specs.declared.forms.Work.TheVariants as work
use Rattle.ckc_plain_barred.specs.declared.forms.Form.{Form}
use Rattle.ckc_plain_barred.specs.Integers.{result_of}
use Rattle.ckc_plain_barred.specs.Forms.{work_of, form_of, is_calloc, stays}
use Rattle.ckc_plain_barred.specs.Effects.{integer_local, found_in, in_expr}

abbrev pub sets_refused : Integers → Work → Form → Form → Bool → Bool
sets_refused known work.Sets target right barred = barred || (is_none (integer_local known target) || is_calloc right)
sets_refused known w target right barred = false

abbrev pub steps_refused : Integers → Work → Form → Bool → Bool
steps_refused known (work.Steps by) operand barred = barred || is_none (integer_local known operand)
steps_refused known w operand barred = false

abbrev pub node_refused : Integers → Node-F Name (Unit {0}) NamedLimits NamedNode NamedExpr → Bool → Bool
node_refused known (Node-F.Un o x) barred = steps_refused known (work_of o) (form_of x) barred
node_refused known (Node-F.Bin o x e) barred = sets_refused known (work_of o) (form_of x) (form_of e) barred
node_refused known (Node-F.Call n es) barred = barred || is_none (result_of known n)
node_refused known n barred = false

-- whether an expression is an effect that is refused
abbrev pub expr_refused : Integers → NamedExpr → Bool → Bool
expr_refused known e barred = node_refused known (out-Node Name (Unit {0}) e.node) barred

-- the refused effects of the right side of an assignment to a target of this form
abbrev pub right_by : Integers → Form → NamedExpr → Bool → List Pos
right_by known target e barred = if stays target (form_of e) then (found_in known e).inside barred else in_expr known e barred

-- What parts of expressions become.
use Rattle.std.specs.Prelude.{ℕ, ◌+◌, Bool, true, false, Option, [], ◌∷◌, ◌++◌, if◌then◌else◌}
use Rattle.ckc_base.specs.declared.places.Pos.{Pos}
use Rattle.ckc_syntax.specs.declared.tree.TreeOp.{TreeOp}
use Rattle.ckc_syntax.specs.declared.tree.Node.TheVariants as node
use Rattle.ckc_syntax.specs.Trees.{NamedTypeTree, NamedLimits, NamedNode, NamedExpr, NamedStmt}
use Rattle.ckc_plain_barred.specs.declared.integers.Integer.TheVariants as integer
use Rattle.ckc_plain_barred.specs.declared.integers.Integers.{Integers}
use Rattle.ckc_plain_bodies.specs.declared.pending.Pending.{Pending}
use Rattle.ckc_plain_barred.specs.declared.forms.Form.{Form}
use Rattle.ckc_plain_barred.specs.declared.forms.Work.{Work}
use Rattle.ckc_plain_barred.specs.declared.forms.Work.TheVariants as work
use Rattle.ckc_plain_barred.specs.Forms.{work_of, form_of, stays}
use Rattle.ckc_plain_bodies.specs.Taken.{expr_at, local_at, number_at, block_at, after, none_pending, with_stmt, with_fresh, taken}
use Rattle.ckc_plain_bodies.specs.Expressions.{choice, if_true, if_false, truth_at, binary_parts, unless_stays, expr_kept, expr_plain}

-- a cast with bounds that it may state
abbrev pub bounded_node : Bool → NamedTypeTree → NamedExpr → Option NamedLimits → NamedNode
bounded_node true = node.Tested
bounded_node false = node.Trusted

-- the `if` of `&&` or of `||`
abbrev pub chosen_by : Bool → NamedExpr → NamedStmt → Pos → NamedStmt
chosen_by true = if_true
chosen_by false = if_false

abbrev pub start_by : Bool → ℕ
start_by true = 0
start_by false = 1

-- `&&` or `||` with effects in the right operand
abbrev pub choice_by : Bool → Pos → NamedExpr → NamedExpr → Pending → Pending → NamedExpr × Pending
choice_by all pos a b inner p = (
  local_at p.next pos,
  with_stmt (record (with_fresh integer.Int (number_at (start_by all) pos) pos p) { next = inner.next })
      (chosen_by all a (block_at (inner.stmts ++ truth_at p.next b pos ∷ []) pos) pos),
)

abbrev pub choice_at : TreeOp → Bool → Pos → NamedExpr → NamedExpr → Pending → Pending → NamedExpr × Pending
choice_at o all pos a b inner p = after (choice o (start_by all) (chosen_by all) pos a (b, inner) p) (λ n q. (expr_at n pos, q))

-- `&&` or `||` after its left operand
abbrev pub choose_by : Integers → TreeOp → Bool → NamedExpr → NamedExpr → Pos → Pending → NamedExpr × Pending
choose_by known o all a e pos p = after (expr_plain known e (none_pending (p.next + 1))) (λ b inner. choice_at o all pos a b inner p)

-- two operands after the left one, by what their operator does
abbrev pub second_by : Integers → Work → TreeOp → NamedExpr → NamedExpr → Pos → Pending → NamedExpr × Pending
second_by known work.Sets o a e pos p = after (unless_stays known a (expr_kept known e p)) (λ b q. (expr_at (node.Bin o a b) pos, q))
second_by known work.IfTrue o a e pos p = choose_by known o true a e pos p
second_by known work.IfFalse o a e pos p = choose_by known o false a e pos p
second_by known w o a e pos p = after (expr_plain known e p) (λ b q. (expr_at (node.Bin o a b) pos, q))

-- two operands with their operator
abbrev pub binary_kept : Integers → TreeOp → NamedExpr → NamedExpr → Pos → Pending → NamedExpr × Pending
binary_kept known o x e pos p = after (binary_parts known (work_of o) o (expr_kept known x) (expr_kept known e) pos p) (λ n q. (expr_at n pos, q))

-- the right side of an assignment to a target of this form
abbrev pub right_by : Integers → Form → NamedExpr → Pending → NamedExpr × Pending
right_by known target e p = if stays target (form_of (expr_kept known e p).0) then expr_kept known e p else taken known (expr_kept known e p)

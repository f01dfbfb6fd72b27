-- Expressions without the effects in them. What is pending are the statements that go before the statement in which the
-- expression stands, in the order in which they run, and the number of the next fresh local.
use Rattle.std.specs.Prelude.{ℕ, ◌+◌, List, [], ◌∷◌, ◌++◌, Option, None, Some, map, if◌then◌else◌}
use Rattle.ckc_base.specs.declared.places.Pos.{Pos}
use Rattle.ckc_syntax.specs.declared.tree.Name.{Name}
use Rattle.ckc_syntax.specs.declared.tree.TreeOp.{TreeOp}
use Rattle.ckc_syntax.specs.declared.tree.TreeOp.TheVariants as op
use Rattle.ckc_syntax.specs.declared.tree.Name.TheVariants as name
use Rattle.ckc_syntax.specs.declared.tree.Limits.{Limits-F, fold-Limits}
use Rattle.ckc_syntax.specs.declared.tree.Limits.TheVariants as limits
use Rattle.ckc_syntax.specs.declared.tree.Node.{Node-F, fold-Node}
use Rattle.ckc_syntax.specs.declared.tree.Node.TheVariants as node
use Rattle.ckc_syntax.specs.declared.tree.Expr.{Expr-F, fold-Expr}
use Rattle.ckc_syntax.specs.declared.tree.Act.TheVariants as act
use Rattle.ckc_syntax.specs.Trees.{NamedLimits, NamedNode, NamedExpr, NamedStmt}
use Rattle.ckc_plain_barred.specs.declared.integers.Integer.TheVariants as integer
use Rattle.ckc_plain_barred.specs.declared.integers.Integers.{Integers}
use Rattle.ckc_plain_bodies.specs.declared.pending.Pending.{Pending}
use Rattle.ckc_plain_barred.specs.declared.forms.Work.{Work}
use Rattle.ckc_plain_barred.specs.declared.forms.Work.TheVariants as work
use Rattle.ckc_plain_barred.specs.Forms.{work_of, form_of, is_call, stays}
use Rattle.ckc_plain_bodies.specs.Taken.{expr_at, local_at, number_at, block_at, assign_at, stmt_at, after, none_pending, with_stmt, with_fresh, taken}

abbrev pub OfLimits : Type 0
OfLimits = Pending → NamedLimits × Pending

-- the place of a node is that of its expression
abbrev pub OfNode : Type 0
OfNode = Pos → Pending → NamedNode × Pending

-- An expression without the effects in its parts, where it may itself still be one.
abbrev pub OfExpr : Type 0
OfExpr = Pending → NamedExpr × Pending

-- an expression without any effect
abbrev pub rest : Integers → OfExpr → OfExpr
rest known e p = taken known (e p)

-- a call that is no effect, and other expressions without any effect
abbrev pub unless_call : Integers → NamedExpr × Pending → NamedExpr × Pending
unless_call known p = if is_call (form_of p.0) then p else taken known p

-- the same of the right side of an assignment to a target
abbrev pub unless_stays : Integers → NamedExpr → NamedExpr × Pending → NamedExpr × Pending
unless_stays known target p = if stays (form_of target) (form_of p.0) then p else taken known p

-- expressions from left to right
abbrev pub each_rest : Integers → List OfExpr → Pending → List NamedExpr × Pending
each_rest known [] p = ([], p)
each_rest known (e ∷ es) p = after (rest known e p) (λ a q. after (each_rest known es q) (λ all r. (a ∷ all, r)))

-- bounds that may be left out
abbrev pub if_bounds : Option OfLimits → Pending → Option NamedLimits × Pending
if_bounds None p = (None, p)
if_bounds (Some l) p = after (l p) (λ k q. (Some k, q))

-- `t = b != 0;`
abbrev pub truth_at : ℕ → NamedExpr → Pos → NamedStmt
truth_at k b pos = assign_at (local_at k pos) (expr_at (node.Bin op.Ne b (number_at 0 pos)) pos) pos

-- `if (a) { prelude of b; t = b != 0; }`
abbrev pub if_true : NamedExpr → NamedStmt → Pos → NamedStmt
if_true a block pos = stmt_at (act.If a block None) pos

-- `if (a) ; else { prelude of b; t = b != 0; }`
abbrev pub if_false : NamedExpr → NamedStmt → Pos → NamedStmt
if_false a block pos = stmt_at (act.If a (stmt_at act.Empty pos) (Some block)) pos

-- whether there are statements decides what is made
abbrev pub if_none : {B : Type 0} → List NamedStmt → B → B → B
if_none [] none some = none
if_none (s ∷ ss) none some = some

-- A right operand b that holds no effect stays. Else there is a fresh t, which begins as what `&&` or `||` gives where b
-- is not evaluated, and an `if` that evaluates b. What holds t has a lower number than the fresh locals of b.
abbrev pub choice : TreeOp → ℕ → (NamedExpr → NamedStmt → Pos → NamedStmt) → Pos → NamedExpr → NamedExpr × Pending → Pending → NamedNode × Pending
choice o start chosen pos a b p =
    if_none b.1.stmts (node.Bin o a b.0, p) (
      node.Name (name.Local p.next),
      with_stmt (record (with_fresh integer.Int (number_at start pos) pos p) { next = b.1.next })
          (chosen a (block_at (b.1.stmts ++ truth_at p.next b.0 pos ∷ []) pos) pos),
    )

-- two operands, by what their operator does
abbrev pub binary_parts : Integers → Work → TreeOp → OfExpr → OfExpr → Pos → Pending → NamedNode × Pending
binary_parts known work.Sets o x e pos p = after (rest known x p) (λ a q. after (unless_stays known a (e q)) (λ b r. (node.Bin o a b, r)))
binary_parts known work.IfTrue o x e pos p = after (rest known x p) (λ a q. choice o 0 if_true pos a (rest known e (none_pending (q.next + 1))) q)
binary_parts known work.IfFalse o x e pos p = after (rest known x p) (λ a q. choice o 1 if_false pos a (rest known e (none_pending (q.next + 1))) q)
binary_parts known w o x e pos p = after (rest known x p) (λ a q. after (rest known e q) (λ b r. (node.Bin o a b, r)))

-- an expression without the effects in its parts
abbrev pub node_parts : Integers → Node-F Name (Unit {0}) OfLimits OfNode OfExpr → OfNode
node_parts known (Node-F.Number n unsigned) pos p = (node.Number n unsigned, p)
node_parts known (Node-F.Text bytes) pos p = (node.Text bytes, p)
node_parts known Node-F.Null pos p = (node.Null, p)
node_parts known (Node-F.Name n) pos p = (node.Name n, p)
node_parts known (Node-F.Un o e) pos p = after (rest known e p) (λ a q. (node.Un o a, q))
node_parts known (Node-F.Bin o e f) pos p = binary_parts known (work_of o) o e f pos p
node_parts known (Node-F.Pick e f g) pos p = after (rest known e p) (λ a q. after (rest known f q) (λ b r. after (rest known g r) (λ c s. (node.Pick a b c, s))))
node_parts known (Node-F.Index e f) pos p = after (rest known e p) (λ a q. after (rest known f q) (λ b r. (node.Index a b, r)))
node_parts known (Node-F.Dot e n at) pos p = after (rest known e p) (λ a q. (node.Dot a n at, q))
node_parts known (Node-F.Arrow e n at) pos p = after (rest known e p) (λ a q. (node.Arrow a n at, q))
node_parts known (Node-F.Cast t e) pos p = after (rest known e p) (λ a q. (node.Cast t a, q))
node_parts known (Node-F.Size t) pos p = (node.Size t, p)
node_parts known (Node-F.Trusted t e l) pos p = after (rest known e p) (λ a q. after (if_bounds l q) (λ k r. (node.Trusted t a k, r)))
node_parts known (Node-F.Tested t e l) pos p = after (rest known e p) (λ a q. after (if_bounds l q) (λ k r. (node.Tested t a k, r)))
node_parts known (Node-F.Call n es) pos p = after (each_rest known es p) (λ all q. (node.Call n all, q))
node_parts known (Node-F.Calloc t e u) pos p = after (rest known e p) (λ a q. (node.Calloc t a u, q))

-- the same with the place of the expression
abbrev pub expr_parts : Expr-F Name (Unit {0}) OfLimits OfNode OfExpr → OfExpr
expr_parts e p = after (e.node e.pos p) (λ n q. (expr_at n e.pos, q))

-- bounds without effects
abbrev pub limits_parts : Integers → Limits-F Name (Unit {0}) OfLimits OfNode OfExpr → OfLimits
limits_parts known (Limits-F.Count e pos) p = after (rest known e p) (λ a q. (limits.Count a pos, q))
limits_parts known (Limits-F.ByteCount e pos) p = after (rest known e p) (λ a q. (limits.ByteCount a pos, q))
limits_parts known (Limits-F.Between e f pos) p = after (rest known e p) (λ a q. after (rest known f q) (λ b r. (limits.Between a b pos, r)))
limits_parts known (Limits-F.Unknown pos) p = (limits.Unknown pos, p)

abbrev pub limits_plain : Integers → NamedLimits → OfLimits
limits_plain known = fold-Limits Name (Unit {0}) OfLimits OfNode OfExpr (limits_parts known) (node_parts known) expr_parts

abbrev pub node_kept : Integers → NamedNode → OfNode
node_kept known = fold-Node Name (Unit {0}) OfLimits OfNode OfExpr (limits_parts known) (node_parts known) expr_parts

-- an expression without the effects in its parts
abbrev pub expr_kept : Integers → NamedExpr → OfExpr
expr_kept known = fold-Expr Name (Unit {0}) OfLimits OfNode OfExpr (limits_parts known) (node_parts known) expr_parts

-- an expression without any effect
abbrev pub expr_plain : Integers → NamedExpr → OfExpr
expr_plain known e = rest known (expr_kept known e)

-- the same of expressions from left to right
abbrev pub exprs_plain : Integers → List NamedExpr → Pending → List NamedExpr × Pending
exprs_plain known es = each_rest known (map (expr_kept known) es)

-- an expression that is no effect if it is a call: a call statement, and what a local begins as
abbrev pub whole_plain : Integers → NamedExpr → OfExpr
whole_plain known e p = unless_call known (expr_kept known e p)

-- the right side of an assignment to a target
abbrev pub right_plain : Integers → NamedExpr → NamedExpr → OfExpr
right_plain known target e p = unless_stays known target (expr_kept known e p)

-- bounds that may be left out
abbrev pub bounds_plain : Integers → Option NamedLimits → Pending → Option NamedLimits × Pending
bounds_plain known None p = (None, p)
bounds_plain known (Some l) p = after (limits_plain known l p) (λ k q. (Some k, q))

-- an expression that may be left out
abbrev pub maybe_plain : Integers → Option NamedExpr → Pending → Option NamedExpr × Pending
maybe_plain known None p = (None, p)
maybe_plain known (Some e) p = after (expr_plain known e p) (λ a q. (Some a, q))

-- How an effect is taken out of an expression: statements go before it, and the name of a local takes its place. Each new
-- node has the place of the effect.
use Rattle.std.specs.Prelude.{ℕ, ◌+◌, false, List, [], ◌∷◌, ◌++◌, Option, None, Some}
use Rattle.ckc_base.specs.declared.places.Pos.{Pos}
use Rattle.ckc_syntax.specs.declared.tree.Name.{Name}
use Rattle.ckc_syntax.specs.declared.tree.Name.TheVariants as name
use Rattle.ckc_syntax.specs.declared.tree.TreeOp.{TreeOp}
use Rattle.ckc_syntax.specs.declared.tree.Length.TheVariants as array
use Rattle.ckc_syntax.specs.declared.tree.Init.TheVariants as init
use Rattle.ckc_syntax.specs.declared.tree.Node.{Node-F, out-Node}
use Rattle.ckc_syntax.specs.declared.tree.Node.TheVariants as node
use Rattle.ckc_syntax.specs.declared.tree.Act.TheVariants as act
use Rattle.ckc_syntax.specs.Trees.{NamedLimits, NamedNode, NamedExpr, NamedStmt, NamedAct}
use Rattle.ckc_plain_barred.specs.declared.integers.Integer.{Integer}
use Rattle.ckc_plain_barred.specs.declared.integers.Integers.{Integers}
use Rattle.ckc_plain_bodies.specs.declared.pending.Pending.{Pending}
use Rattle.ckc_plain_barred.specs.declared.forms.Work.{Work}
use Rattle.ckc_plain_barred.specs.declared.forms.Work.TheVariants as work
use Rattle.ckc_plain_barred.specs.Integers.{type_of, result_of}
use Rattle.ckc_plain_barred.specs.Forms.{work_of, form_of}
use Rattle.ckc_plain_barred.specs.Effects.{integer_local}

-- an expression at a place
abbrev pub expr_at : NamedNode → Pos → NamedExpr
expr_at n pos = record { node = n; pos = pos; note = tt }

-- a statement at a place
abbrev pub stmt_at : NamedAct → Pos → NamedStmt
stmt_at a pos = record { body = a; pos = pos; note = tt }

-- the name of a local
abbrev pub local_at : ℕ → Pos → NamedExpr
local_at k pos = expr_at (node.Name (name.Local k)) pos

-- a number of type `int`
abbrev pub number_at : ℕ → Pos → NamedExpr
number_at n pos = expr_at (node.Number n false) pos

-- a block of statements
abbrev pub block_at : List NamedStmt → Pos → NamedStmt
block_at ss pos = stmt_at (act.Block None ss) pos

-- `x = e;`
abbrev pub assign_at : NamedExpr → NamedExpr → Pos → NamedStmt
assign_at x e pos = stmt_at (act.Assign x e) pos

-- `T t = e;`, where t is the local with a number
abbrev pub declare_at : Integer → ℕ → NamedExpr → Pos → NamedStmt
declare_at t k e pos = stmt_at (act.Local (record {
  ctype = type_of t;
  name = name.Local k;
  length = array.Plain;
  bounds = None;
  init = init.One e;
  pos = pos;
})) pos

-- What is done after a part: from what the part becomes, and from what is pending after it.
abbrev pub after : {A B S : Type 0} → A × S → (A → S → B) → B
after p f = f p.0 p.1

-- nothing is pending, and the next local has this number
abbrev pub none_pending : ℕ → Pending
none_pending n = record { stmts = []; next = n }

-- one statement more is pending
abbrev pub with_stmt : Pending → NamedStmt → Pending
with_stmt p s = record p { stmts = p.stmts ++ s ∷ [] }

-- `T t = e;` is pending, with a fresh t
abbrev pub with_fresh : Integer → NamedExpr → Pos → Pending → Pending
with_fresh t e pos p = record { stmts = p.stmts ++ declare_at t p.next e pos ∷ []; next = p.next + 1 }

-- a call whose result has type T: `T t = f(args);`, and t takes its place
abbrev pub call_taken : Option Integer → NamedExpr → Pending → NamedExpr × Pending
call_taken (Some t) e p = (local_at p.next e.pos, with_fresh t e e.pos p)
call_taken None e p = (e, p)

-- `x = e`: that as a statement, and x takes its place
abbrev pub set_taken : Option Integer → NamedExpr → NamedExpr → Pos → NamedExpr → Pending → NamedExpr × Pending
set_taken (Some t) x e pos whole p = (x, with_stmt p (assign_at x e pos))
set_taken None x e pos whole p = (whole, p)

-- `x++` for x of type T: `T t = x; x = x + 1;`, and t takes its place; `x--` with `-`
abbrev pub step_taken : Option Integer → TreeOp → NamedExpr → Pos → NamedExpr → Pending → NamedExpr × Pending
step_taken (Some t) by x pos whole p =
    (local_at p.next pos, with_stmt (with_fresh t x pos p) (assign_at x (expr_at (node.Bin by x (number_at 1 pos)) pos) pos))
step_taken None by x pos whole p = (whole, p)

abbrev pub binary_taken : Integers → Work → NamedExpr → NamedExpr → NamedExpr → Pending → NamedExpr × Pending
binary_taken known work.Sets x e whole p = set_taken (integer_local known (form_of x)) x e whole.pos whole p
binary_taken known w x e whole p = (whole, p)

abbrev pub unary_taken : Integers → Work → NamedExpr → NamedExpr → Pending → NamedExpr × Pending
unary_taken known (work.Steps by) x whole p = step_taken (integer_local known (form_of x)) by x whole.pos whole p
unary_taken known w x whole p = (whole, p)

abbrev pub node_taken : Integers → Node-F Name (Unit {0}) NamedLimits NamedNode NamedExpr → NamedExpr → Pending → NamedExpr × Pending
node_taken known (Node-F.Un o x) whole p = unary_taken known (work_of o) x whole p
node_taken known (Node-F.Bin o x e) whole p = binary_taken known (work_of o) x e whole p
node_taken known (Node-F.Call n es) whole p = call_taken (result_of known n) whole p
node_taken known n whole p = (whole, p)

-- An expression whose parts hold no effect, without the effect that it is itself, if it is one. What the rules refuse
-- stays.
abbrev pub taken : Integers → NamedExpr × Pending → NamedExpr × Pending
taken known p = node_taken known (out-Node Name (Unit {0}) p.0.node) p.0 p.1

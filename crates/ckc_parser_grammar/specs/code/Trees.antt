-- What the trees of a text are made of, as the table makes them.
pub use Rattle.ckc_grammar.specs.Trees.{Name, Tree, Item, Head, TypeTree, Decl, Init, Limits, Expr, Node, Stmt, Act, expr_at, stmt_at, one_at, assigned_by, set_by, post_op, starred, statics, local_of, locals, function_of, level, joined_at, literal}
pub use Rattle.ckc_grammar.specs.declared.chain.Step.{Step}
unfoldable pub use Rattle.ckc_grammar.specs.Trees.{joined_to, joined}
use Rattle.std.specs.Prelude.{ℕ, List, [], ◌∷◌, Option, None, Some}
use Rattle.ckc_syntax.specs.declared.tree.Node.TheVariants as node
use Rattle.ckc_base.specs.declared.places.Pos.{Pos}
use Rattle.ckc_syntax.specs.declared.tree.Act.TheVariants as act
use Rattle.ckc_syntax.specs.declared.tree.TreeOp.{TreeOp}
use Rattle.ckc_syntax.specs.declared.tree.TreeOp.TheVariants as op
use Rattle.ckc_parser_grammar.specs.declared.parts.Arms.{Arms}
use Rattle.ckc_parser_grammar.specs.declared.parts.Operation.{Operation}
use Rattle.ckc_parser_grammar.specs.declared.parts.Setting.{Setting}
use Rattle.ckc_parser_grammar.specs.declared.parts.Post.{Post}
use Rattle.ckc_parser_grammar.specs.declared.parts.Post.TheVariants as post

-- an expression after which `[e]`, `.m` and `->m` stand
abbrev pub posted : Expr → List Post → Expr
posted e [] = e
posted e (post.Index i pos ∷ ps) = posted (expr_at (node.Index e i) pos) ps
posted e (post.Dot name at pos ∷ ps) = posted (expr_at (node.Dot e name at) pos) ps
posted e (post.Arrow name at pos ∷ ps) = posted (expr_at (node.Arrow e name at) pos) ps

-- the expression `e ? f : g`, or the condition alone if no `?` stands after it
abbrev pub picked : Expr → Option Arms → Expr
picked e None = e
picked e (Some a) = expr_at (node.Pick e a.yes a.no) a.pos

-- an operand with a `++` or `--` behind it, if one stands there
abbrev pub with_increment : Expr → Option Operation → Expr
with_increment x None = x
with_increment x (Some o) = expr_at (node.Un (post_op o.op) x) o.pos

-- `x = e` or `x op= e` as a statement
abbrev pub assigned_to : Expr → Option TreeOp → Pos → Expr → Stmt
assigned_to x None pos e = stmt_at (act.Assign x e) pos
assigned_to x (Some o) pos e = assigned_by x (o, pos) e

abbrev pub assigned : Expr → Setting → Stmt
assigned x s = assigned_to x s.op s.pos s.value

-- and within an expression
abbrev pub set_to : Expr → Option TreeOp → Pos → Expr → Expr
set_to x None pos e = expr_at (node.Bin op.Set x e) pos
set_to x (Some o) pos e = set_by x (o, pos) e

abbrev pub set : Expr → Setting → Expr
set x s = set_to x s.op s.pos s.value

-- `x++` sets x to `x + 1`
abbrev pub by_one : Operation → Setting
by_one o = record { op = Some o.op; pos = o.pos; value = one_at o.pos }

-- an operand as a statement: it is set, or is the target of a setting, or without both is a call
abbrev pub changed : Expr → Option Operation → Option Setting → Stmt
changed x None None = stmt_at (act.Call x) x.pos
changed x (Some o) None = assigned x (by_one o)
changed x i (Some s) = assigned (with_increment x i) s

-- the same with a `++` or `--` before it
abbrev pub stepped : Expr → Operation → Option Setting → Stmt
stepped x o None = assigned x (by_one o)
stepped x o (Some s) = assigned (set x (by_one o)) s

-- operands that are joined already, whose last one goes on with the steps
abbrev pub attached : ℕ → Expr → List Step → List Step → Expr × List Step
attached l e [] ss = joined_at l e ss
attached l e (x ∷ xs) ss = (e, let rest = attached l x.operand xs ss in record { op = x.op; pos = x.pos; operand = rest.0 } ∷ rest.1)

-- What the trees of a text are made of.
pub use Rattle.ckc_syntax.specs.Trees.{Spelling as Name, Tree, Item, Head, TypeTree, Decl, Init, Limits, Expr, Node, Stmt, Act}
pub use Rattle.ckc_grammar.specs.declared.chain.Step.{Step}
use Rattle.std.specs.Prelude.{ℕ, zero, suc, ◌==◌, List, [], ◌∷◌, Option, None, Some, false, if◌then◌else◌}
use Rattle.ckc_base.specs.declared.places.Pos.{Pos}
use Rattle.ckc_syntax.specs.declared.tokens.TokenKind.{TokenKind}
use Rattle.ckc_syntax.specs.declared.tokens.TokenKind.TheVariants as kinds
use Rattle.ckc_syntax.specs.declared.tree.Item.TheVariants as item
use Rattle.ckc_syntax.specs.declared.tree.TypeTree.TheVariants as ctype
use Rattle.ckc_syntax.specs.declared.tree.Node.TheVariants as node
use Rattle.ckc_syntax.specs.declared.tree.Act.TheVariants as act
use Rattle.ckc_syntax.specs.declared.tree.TreeOp.{TreeOp}
use Rattle.ckc_syntax.specs.declared.tree.TreeOp.TheVariants as op

-- an expression of the tree, at its place
abbrev pub expr_at : Node → Pos → Expr
expr_at x pos = record { node = x; pos = pos; note = tt }

-- a statement of the tree, at its place
abbrev pub stmt_at : Act → Pos → Stmt
stmt_at x pos = record { body = x; pos = pos; note = tt }

-- the number 1
abbrev pub one_at : Pos → Expr
one_at pos = expr_at (node.Number 1 false) pos

-- `x op e`, at the operator
abbrev pub operated : Expr → TreeOp × Pos → Expr → Expr
operated x o e = expr_at (node.Bin o.0 x e) o.1

-- `x op= e` as a statement: `x = x op e`
abbrev pub assigned_by : Expr → TreeOp × Pos → Expr → Stmt
assigned_by x o e = stmt_at (act.Assign x (operated x o e)) o.1

-- and within an expression
abbrev pub set_by : Expr → TreeOp × Pos → Expr → Expr
set_by x o e = expr_at (node.Bin op.Set x (operated x o e)) o.1

-- an increment behind its operand
abbrev pub post_op : TreeOp → TreeOp
post_op op.Sub = op.PostDec
post_op _ = op.PostInc

-- an operand with an increment behind it, if one stands there
abbrev pub incremented : Expr → Option (TreeOp × Pos) → Expr
incremented x None = x
incremented x (Some o) = expr_at (node.Un (post_op o.0) x) o.1

-- a type after which stars stand, the first one innermost
abbrev pub starred : TypeTree → List Pos → TypeTree
starred base [] = base
starred base (pos ∷ ps) = starred (ctype.Raw base pos) ps

-- one item for each declared object
abbrev pub statics : List Decl → List Item
statics [] = []
statics (d ∷ ds) = item.Static d ∷ statics ds

-- a statement for each declared local, at its name
abbrev pub local_of : Decl → Stmt
local_of d = stmt_at (act.Local d) d.pos

-- the same for each declared local of a list
abbrev pub locals : List Decl → List Stmt
locals [] = []
locals (d ∷ ds) = local_of d ∷ locals ds

-- a head with or without a body
abbrev pub function_of : Head → Option Stmt → Item
function_of h None = item.Proto h
function_of h (Some body) = item.Function h body

-- how tight a binary operator is, from `||`
abbrev pub level : TreeOp → ℕ
level op.OrElse = 1
level op.AndThen = 2
level op.Or = 3
level op.Xor = 4
level op.And = 5
level op.Eq = 6
level op.Ne = 6
level op.Lt = 7
level op.Le = 7
level op.Gt = 7
level op.Ge = 7
level op.Shl = 8
level op.Shr = 8
level op.Add = 9
level op.Sub = 9
level op.Mul = 10
level op.Div = 10
level op.Rem = 10
level _ = 0

-- Operands joined at the operators of one level, to the left; those of other levels stay.
abbrev pub joined_at : ℕ → Expr → List Step → Expr × List Step
joined_at l e [] = (e, [])
joined_at l e (s ∷ ss) =
    if level s.op == l then joined_at l (expr_at (node.Bin s.op e s.operand) s.pos) ss
    else (e, let rest = joined_at l s.operand ss in record { op = s.op; pos = s.pos; operand = rest.0 } ∷ rest.1)

-- from the tightest level to the loosest
unfoldable pub joined_to : ℕ → Expr × List Step → Expr × List Step
joined_to zero c = c
joined_to (suc l) c = joined_to l (joined_at (suc l) c.0 c.1)

-- an operand and the operators and operands after it as one expression, the tightest operators first
unfoldable pub joined : Expr → List Step → Expr
unfolding joined_to
joined e ss = (joined_to 10 (e, ss)).0

-- the value of a number or character
abbrev pub literal : TokenKind → Node
literal (kinds.Number number unsigned) = node.Number number unsigned
literal (kinds.Character byte) = node.Number byte false
literal _ = node.Null

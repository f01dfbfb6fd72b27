-- Expressions of checked scopes, in which there is no unchecked pointer.
use Rattle.std.specs.Prelude.{◌≡◌, Bool, true, false}
use Rattle.std.specs.List.{Contains}
use Rattle.ckc_base.specs.declared.arithmetic.Mode.TheVariants.{Checked}
use Rattle.ckc_syntax.specs.declared.tree.Name.{Name}
use Rattle.ckc_syntax.specs.declared.tree.Item.TheVariants as item
use Rattle.ckc_syntax.specs.declared.tree.Node.{Node-F, out-Node}
use Rattle.ckc_syntax.specs.declared.tree.Expr.{Expr-F, every-Expr}
use Rattle.ckc_typed.specs.declared.typed.Note.{Note}
use Rattle.ckc_typed.specs.declared.typed.Typed.{Typed}
use Rattle.ckc_typed.specs.Raw.{has_raw}
use Rattle.ckc_typed.specs.Trees.{NotedExpr, NotedHead, NotedLayer, NotedLimits, NotedNode, NotedStmt}
use Rattle.ckc_typed_welltyped.specs.Expressions.{AnyLimits, AnyNode}
use Rattle.ckc_bounds.specs.Phase.{bounding}
use Rattle.ckc_blame_sound.specs.Words.{exprs_in}

-- whether a node is an `_Assume_bounds_cast`
abbrev pub is_assumed : NotedLayer → Bool
is_assumed (Node-F.Trusted w e limits) = true
is_assumed _ = false

-- In a checked scope an expression has a type with no unchecked pointer in it, and is no `_Assume_bounds_cast`.
abbrev pub IsSafePart : Expr-F Name Note NotedLimits NotedNode NotedExpr → Type 0
IsSafePart e = e.note.mode ≡ Checked → (has_raw e.note.ctype ≡ false) × (is_assumed (out-Node Name Note e.node) ≡ false)

-- this of an expression and each expression in it, however deep
abbrev pub IsSafe : NotedExpr → Type 0
IsSafe = every-Expr Name Note AnyLimits AnyNode IsSafePart

-- this of the expressions in a statement, and in each statement in it, however deep
abbrev pub HasOnlySafe : NotedStmt → Type 0
HasOnlySafe st = (e : NotedExpr) → Contains (exprs_in st) e → IsSafe e

-- this of the bodies of the functions of a judged text, before they were judged
abbrev pub AreSafe : Typed → Type 0
AreSafe p =
    (q : Typed) (h : NotedHead) (body : NotedStmt) → bounding.Makes q p → Contains q.tree.items (item.Function h body)
    → HasOnlySafe body

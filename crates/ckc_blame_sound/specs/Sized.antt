-- Expressions, statements and texts in which the elements that a `calloc` makes have a size.
use Rattle.std.specs.Prelude.{◌<◌}
use Rattle.std.specs.List.{Contains}
use Rattle.ckc_types.specs.declared.types.Structs.{Structs}
use Rattle.ckc_syntax.specs.declared.tree.Name.{Name}
use Rattle.ckc_syntax.specs.declared.tree.Item.TheVariants as item
use Rattle.ckc_syntax.specs.declared.tree.Node.{Node-F, out-Node}
use Rattle.ckc_syntax.specs.declared.tree.Expr.{Expr-F, every-Expr}
use Rattle.ckc_typed.specs.declared.typed.Note.{Note}
use Rattle.ckc_typed.specs.declared.typed.Typed.{Typed}
use Rattle.ckc_typed.specs.Constants.{size_of}
use Rattle.ckc_typed.specs.Trees.{NotedLimits, NotedNode, NotedExpr, NotedLayer, NotedHead, NotedStmt}
use Rattle.ckc_typed.specs.Types.{type_written}
use Rattle.ckc_typed_welltyped.specs.Expressions.{AnyLimits, AnyNode}
use Rattle.ckc_typed_welltyped.specs.Texts.{WellTyped}
use Rattle.ckc_bounds.specs.Phase.{bounding}
use Rattle.ckc_blame_sound.specs.Words.{exprs_in}

-- The elements that a `calloc` makes have a size.
abbrev pub IsSizedNode : Structs → NotedLayer → Type 0
IsSizedNode structs (Node-F.Calloc w e u) = 0 < size_of structs (type_written w)
IsSizedNode structs n = Unit {0}

-- the same of the node of an expression
abbrev pub IsSizedPart : Structs → Expr-F Name Note NotedLimits NotedNode NotedExpr → Type 0
IsSizedPart structs e = IsSizedNode structs (out-Node Name Note e.node)

-- this of each `calloc` in an expression, however deep
abbrev pub IsSized : Structs → NotedExpr → Type 0
IsSized structs = every-Expr Name Note AnyLimits AnyNode (IsSizedPart structs)

-- this of the expressions in a statement, and in each statement in it, however deep
abbrev pub HasOnlySized : Structs → NotedStmt → Type 0
HasOnlySized structs st = (e : NotedExpr) → Contains (exprs_in st) e → IsSized structs e

-- this of the bodies of the functions of a judged text, before they were judged
abbrev pub AllocateSizes : Typed → Type 0
AllocateSizes p =
    (q : Typed) (h : NotedHead) (body : NotedStmt) → WellTyped q → bounding.Makes q p
    → Contains q.tree.items (item.Function h body) → HasOnlySized p.layout body

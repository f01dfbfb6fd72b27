-- Statements and texts that the grammar gives.
use Rattle.std.specs.Prelude.{◌≡◌, true}
use Rattle.std.specs.List.{Contains}
use Rattle.ckc_syntax.specs.declared.tree.Item.TheVariants as item
use Rattle.ckc_typed.specs.declared.typed.Typed.{Typed}
use Rattle.ckc_typed.specs.Trees.{NotedHead, NotedStmt}
use Rattle.ckc_typed_welltyped.specs.Productions.{given_stmt}
use Rattle.ckc_bounds.specs.Phase.{bounding}

-- The grammar gives the bodies of the functions of a judged text, as they were before they were judged.
abbrev pub AreGiven : Typed → Type 0
AreGiven p =
    (q : Typed) (h : NotedHead) (body : NotedStmt) → bounding.Makes q p → Contains q.tree.items (item.Function h body)
    → (given_stmt body).fine ≡ true

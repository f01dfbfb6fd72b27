-- How many nodes expressions and statements have, and the room for the fresh variables of a statement.
use Rattle.std.specs.Prelude.{ℕ, ◌+◌, ◌≤◌, length, Option}
use Rattle.std.specs.List.{Contains}
use Rattle.ckc_syntax.specs.declared.tree.Item.TheVariants as item
use Rattle.ckc_syntax_limits.specs.Marks.{is_node, marks_of_expr, marks_of_value, marks_of_stmt}
use Rattle.ckc_syntax_limits.specs.Small.{how_many, most_in_function}
use Rattle.ckc_typed.specs.declared.typed.Typed.{Typed}
use Rattle.ckc_typed.specs.Trees.{NotedExpr, NotedHead, NotedStmt}
use Rattle.ckc_blame_sound.specs.Settings.{Setting}

-- how many nodes an expression has
abbrev pub nodes_of : NotedExpr → ℕ
nodes_of e = how_many is_node (marks_of_expr e)

-- the same of an expression that there may be
abbrev pub nodes_of_value : Option NotedExpr → ℕ
nodes_of_value e = how_many is_node (marks_of_value e)

-- how many nodes a statement has, with those of the statements and the expressions in it
abbrev pub nodes_in : NotedStmt → ℕ
nodes_in st = how_many is_node (marks_of_stmt st)

-- The body of each function of a text has no more nodes than a function may have.
abbrev pub AreFew : Typed → Type 0
AreFew p =
    (h : NotedHead) (body : NotedStmt) → Contains p.tree.items (item.Function h body) → nodes_in body ≤ most_in_function

-- If the bodies of the text are so, there is room for as many fresh variables from a number on: the numbers stay within
-- that of the variables of the function and the nodes that a function may have.
abbrev pub HasRoom : Setting → ℕ → ℕ → Type 0
HasRoom s next n = AreFew s.text → next + n ≤ length s.variables + most_in_function

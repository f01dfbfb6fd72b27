-- How deep statements and expressions stand in one another: the depth of a tree is the number of statements and
-- expressions on the longest path down into it.
use Rattle.std.specs.Prelude.{ℕ, ◌+◌, max, Option}
use Rattle.ckc_syntax.specs.Inside.{highest, inside_each, inside_if, inside_limits, inside_node, inside_init, inside_act, inside_item}
use Rattle.ckc_syntax.specs.declared.tree.Item.{Item}
use Rattle.ckc_syntax.specs.declared.tree.Head.{Head}
use Rattle.ckc_syntax.specs.declared.tree.Decl.{Decl}
use Rattle.ckc_syntax.specs.declared.tree.Init.{Init}
use Rattle.ckc_syntax.specs.declared.tree.Limits.{Limits, Limits-F, fold-Limits}
use Rattle.ckc_syntax.specs.declared.tree.Node.{Node, Node-F, fold-Node}
use Rattle.ckc_syntax.specs.declared.tree.Expr.{Expr, Expr-F, fold-Expr}
use Rattle.ckc_syntax.specs.declared.tree.Act.{Act, Act-F, fold-Act}
use Rattle.ckc_syntax.specs.declared.tree.Stmt.{Stmt, Stmt-F, fold-Stmt}

-- The depth of a tree is the number of statements and expressions on the longest path down into it; that of bounds is
-- the depth of their parts.
abbrev pub limits_depth : {N A : Type 0} → Limits-F N A ℕ ℕ ℕ → ℕ
limits_depth = inside_limits highest (λ e. e)

-- the depth of the operands, arguments and bounds of an expression
abbrev pub node_depth : {N A : Type 0} → Node-F N A ℕ ℕ ℕ → ℕ
node_depth = inside_node highest (λ l. l) (λ e. e)

-- the depth of an expression, which is one more than that of its parts
abbrev pub expr_depth : {N A : Type 0} → Expr-F N A ℕ ℕ ℕ → ℕ
expr_depth e = e.node + 1

-- how deep the expressions in bounds are
abbrev pub depth_of_limits : {N A : Type 0} → Limits N A → ℕ
depth_of_limits {N} {A} = fold-Limits N A ℕ ℕ ℕ limits_depth node_depth expr_depth

abbrev pub depth_of_node : {N A : Type 0} → Node N A → ℕ
depth_of_node {N} {A} = fold-Node N A ℕ ℕ ℕ limits_depth node_depth expr_depth

-- how deep an expression is
abbrev pub depth_of_expr : {N A : Type 0} → Expr N A → ℕ
depth_of_expr {N} {A} = fold-Expr N A ℕ ℕ ℕ limits_depth node_depth expr_depth

-- how deep the bounds of a declaration are, and 0 if it has none
abbrev pub depth_of_bounds : {N A : Type 0} → Option (Limits N A) → ℕ
depth_of_bounds = inside_if highest depth_of_limits

-- how deep an expression is that may be left out, as after `return`
abbrev pub depth_of_value : {N A : Type 0} → Option (Expr N A) → ℕ
depth_of_value = inside_if highest depth_of_expr

-- how deep the expressions of an initialiser are
abbrev pub depth_of_init : {N A : Type 0} → Init N A → ℕ
depth_of_init = inside_init highest depth_of_expr

-- how deep the bounds and the initialiser of a declaration are
abbrev pub depth_of_decl : {N A : Type 0} → Decl N A → ℕ
depth_of_decl d = max (depth_of_bounds d.bounds) (depth_of_init d.init)

-- the depth of what stands in a statement
abbrev pub act_depth : {N A : Type 0} → Act-F N A ℕ ℕ → ℕ
act_depth = inside_act highest depth_of_expr depth_of_decl (λ s. s)

-- the depth of a statement, which is one more than that of its parts
abbrev pub stmt_depth : {N A : Type 0} → Stmt-F N A ℕ ℕ → ℕ
stmt_depth s = s.body + 1

abbrev pub depth_of_act : {N A : Type 0} → Act N A → ℕ
depth_of_act {N} {A} = fold-Act N A ℕ ℕ act_depth stmt_depth

-- how deep a statement is
abbrev pub depth_of_stmt : {N A : Type 0} → Stmt N A → ℕ
depth_of_stmt {N} {A} = fold-Stmt N A ℕ ℕ act_depth stmt_depth

-- how deep the parameters and the bounds of the result of a function are
abbrev pub depth_of_head : {N A : Type 0} → Head N A → ℕ
depth_of_head h = max (inside_each highest depth_of_decl h.params) (depth_of_bounds h.bounds)

-- how deep an item of a text is
abbrev pub depth_of_item : {N A : Type 0} → Item N A → ℕ
depth_of_item = inside_item highest depth_of_decl depth_of_head depth_of_stmt

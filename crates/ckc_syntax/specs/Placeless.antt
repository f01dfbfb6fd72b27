-- Types, expressions, declarations and heads without their places, whatever their names are: each place is set to the
-- start of a text, and all else stands. Two are alike but for their places exactly when these are equal.
use Rattle.std.specs.Prelude.{map, Option, Some, None}
use Rattle.ckc_base.specs.Places.{start}
use Rattle.ckc_syntax.specs.declared.tree.TypeTree.{TypeTree, TypeTree-F, fold-TypeTree, roll-TypeTree}
use Rattle.ckc_syntax.specs.declared.tree.Limits.{Limits, Limits-F, fold-Limits, roll-Limits}
use Rattle.ckc_syntax.specs.declared.tree.Node.{Node, Node-F, fold-Node, roll-Node}
use Rattle.ckc_syntax.specs.declared.tree.Expr.{Expr, Expr-F, fold-Expr, roll-Expr}
use Rattle.ckc_syntax.specs.declared.tree.Init.{Init}
use Rattle.ckc_syntax.specs.declared.tree.Init.TheVariants as init
use Rattle.ckc_syntax.specs.declared.tree.Length.{Length}
use Rattle.ckc_syntax.specs.declared.tree.Length.TheVariants as len
use Rattle.ckc_syntax.specs.declared.tree.Decl.{Decl}
use Rattle.ckc_syntax.specs.declared.tree.Head.{Head}

-- a type whose own place is set, while those of the type that it points to stay
abbrev pub type_at_start : {N : Type 0} → TypeTree-F N (TypeTree N) → TypeTree-F N (TypeTree N)
type_at_start (TypeTree-F.Struct n pos) = TypeTree-F.Struct n start
type_at_start (TypeTree-F.Raw t pos) = TypeTree-F.Raw t start
type_at_start t = t

-- a type put together from its parts, with its own place set
abbrev pub type_rolled : {N : Type 0} → TypeTree-F N (TypeTree N) → TypeTree N
type_rolled {N} t = roll-TypeTree N (type_at_start t)

-- a type with all its places set
abbrev pub placeless_type : {N : Type 0} → TypeTree N → TypeTree N
placeless_type {N} = fold-TypeTree N (TypeTree N) type_rolled

-- what stands in one node of bounds, of a form of an expression, and of an expression, with its parts
abbrev pub LimitsLayer : (N A : Type 0) → Type 0
LimitsLayer N A = Limits-F N A (Limits N A) (Node N A) (Expr N A)

-- the form of an expression with its parts, such as an operator with its operands
abbrev pub NodeLayer : (N A : Type 0) → Type 0
NodeLayer N A = Node-F N A (Limits N A) (Node N A) (Expr N A)

-- an expression with its form, its place and its note
abbrev pub ExprLayer : (N A : Type 0) → Type 0
ExprLayer N A = Expr-F N A (Limits N A) (Node N A) (Expr N A)

-- bounds whose own place is set
abbrev pub limits_at_start : {N A : Type 0} → LimitsLayer N A → LimitsLayer N A
limits_at_start (Limits-F.Count e pos) = Limits-F.Count e start
limits_at_start (Limits-F.ByteCount e pos) = Limits-F.ByteCount e start
limits_at_start (Limits-F.Between e f pos) = Limits-F.Between e f start
limits_at_start (Limits-F.Unknown pos) = Limits-F.Unknown start

-- the form of an expression whose own places are set: those of a member's name and of types
abbrev pub node_at_start : {N A : Type 0} → NodeLayer N A → NodeLayer N A
node_at_start (Node-F.Dot e n pos) = Node-F.Dot e n start
node_at_start (Node-F.Arrow e n pos) = Node-F.Arrow e n start
node_at_start (Node-F.Cast t e) = Node-F.Cast (placeless_type t) e
node_at_start (Node-F.Size t) = Node-F.Size (placeless_type t)
node_at_start (Node-F.Trusted t e l) = Node-F.Trusted (placeless_type t) e l
node_at_start (Node-F.Tested t e l) = Node-F.Tested (placeless_type t) e l
node_at_start (Node-F.Calloc t e u) = Node-F.Calloc (placeless_type t) e (placeless_type u)
node_at_start n = n

-- an expression whose own place is set
abbrev pub expr_at_start : {N A : Type 0} → ExprLayer N A → ExprLayer N A
expr_at_start e = record e { pos = start }

-- bounds put together from their parts, with their own place set
abbrev pub limits_rolled : {N A : Type 0} → LimitsLayer N A → Limits N A
limits_rolled {N} {A} l = roll-Limits N A (limits_at_start l)

-- the form of an expression put together from its parts, with its own places set
abbrev pub node_rolled : {N A : Type 0} → NodeLayer N A → Node N A
node_rolled {N} {A} n = roll-Node N A (node_at_start n)

-- an expression put together from its parts, with its own place set
abbrev pub expr_rolled : {N A : Type 0} → ExprLayer N A → Expr N A
expr_rolled {N} {A} e = roll-Expr N A (expr_at_start e)

-- bounds with all their places set
abbrev pub placeless_limits : {N A : Type 0} → Limits N A → Limits N A
placeless_limits {N} {A} = fold-Limits N A (Limits N A) (Node N A) (Expr N A) limits_rolled node_rolled expr_rolled

abbrev pub placeless_node : {N A : Type 0} → Node N A → Node N A
placeless_node {N} {A} = fold-Node N A (Limits N A) (Node N A) (Expr N A) limits_rolled node_rolled expr_rolled

-- an expression with all its places set
abbrev pub placeless_expr : {N A : Type 0} → Expr N A → Expr N A
placeless_expr {N} {A} = fold-Expr N A (Limits N A) (Node N A) (Expr N A) limits_rolled node_rolled expr_rolled

-- the same of the bounds of a declaration, if it has them
abbrev pub placeless_bounds : {N A : Type 0} → Option (Limits N A) → Option (Limits N A)
placeless_bounds None = None
placeless_bounds (Some l) = Some (placeless_limits l)

-- an initialiser with all its places set
abbrev pub placeless_init : {N A : Type 0} → Init N A → Init N A
placeless_init init.Nothing = init.Nothing
placeless_init (init.One e) = init.One (placeless_expr e)
placeless_init (init.Many es) = init.Many (map placeless_expr es)

-- the brackets of an array with their place set
abbrev pub placeless_length : Length → Length
placeless_length (len.Raw n pos) = len.Raw n start
placeless_length l = l

-- a declaration with all its places set
abbrev pub placeless_decl : {N A : Type 0} → Decl N A → Decl N A
placeless_decl d = record { ctype = placeless_type d.ctype; name = d.name; length = placeless_length d.length; bounds = placeless_bounds d.bounds; init = placeless_init d.init; pos = start }

-- the head of a function with all its places set
abbrev pub placeless_head : {N A : Type 0} → Head N A → Head N A
placeless_head h = record { mode = h.mode; result = placeless_type h.result; name = h.name; params = map placeless_decl h.params; bounds = placeless_bounds h.bounds; pos = start }

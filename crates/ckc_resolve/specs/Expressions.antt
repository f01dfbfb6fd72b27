-- Expressions and bounds with their names replaced by what they mean, and their first error: the parts of an
-- expression are judged from left to right, and then the called name or the member.
use Rattle.std.specs.Prelude.{List, Ok, Option, Some, None, map}
use Rattle.ckc_base.specs.declared.places.Pos.{Pos}
use Rattle.ckc_syntax.specs.declared.tree.Limits.{Limits-F, fold-Limits}
use Rattle.ckc_syntax.specs.declared.tree.Limits.TheVariants as limits
use Rattle.ckc_syntax.specs.declared.tree.Node.{Node-F, fold-Node}
use Rattle.ckc_syntax.specs.declared.tree.Node.TheVariants as node
use Rattle.ckc_syntax.specs.declared.tree.Expr.{Expr-F, fold-Expr}
use Rattle.ckc_resolve.specs.declared.names.Names.{Names}
use Rattle.ckc_resolve.specs.declared.scopes.Scopes.{Scopes}
use Rattle.ckc_base.specs.Outcomes.{Outcome, bind, in_order, if_there}
use Rattle.ckc_resolve.specs.Spellings.{Spelling}
use Rattle.ckc_resolve.specs.Trees.{Limits, Node, Expr, NamedLimits, NamedNode, NamedExpr}
use Rattle.ckc_resolve.specs.Meanings.{meaning_named, member_named}
use Rattle.ckc_resolve.specs.Types.{type_named}

-- bounds with their names replaced, or their first error
abbrev pub OfLimits : Type 0
OfLimits = Outcome NamedLimits

-- the place of a node is that of its expression
abbrev pub OfNode : Type 0
OfNode = Pos → Outcome NamedNode

-- an expression with its names replaced, or its first error
abbrev pub OfExpr : Type 0
OfExpr = Outcome NamedExpr

-- bounds, by what their expressions become
abbrev pub limits_parts : Limits-F Spelling (Unit {0}) OfLimits OfNode OfExpr → OfLimits
limits_parts (Limits-F.Count e pos) = bind e (λ a. Ok (limits.Count a pos))
limits_parts (Limits-F.ByteCount e pos) = bind e (λ a. Ok (limits.ByteCount a pos))
limits_parts (Limits-F.Between e f pos) = bind e (λ a. bind f (λ b. Ok (limits.Between a b pos)))
limits_parts (Limits-F.Unknown pos) = Ok (limits.Unknown pos)

-- an expression, by what its operands, its arguments and its bounds become
abbrev pub node_parts : Names → Scopes → Node-F Spelling (Unit {0}) OfLimits OfNode OfExpr → OfNode
node_parts names scopes (Node-F.Number n unsigned) pos = Ok (node.Number n unsigned)
node_parts names scopes (Node-F.Text bytes) pos = Ok (node.Text bytes)
node_parts names scopes Node-F.Null pos = Ok node.Null
node_parts names scopes (Node-F.Name s) pos = bind (meaning_named names scopes s pos) (λ n. Ok (node.Name n))
node_parts names scopes (Node-F.Un op e) pos = bind e (λ a. Ok (node.Un op a))
node_parts names scopes (Node-F.Bin op e f) pos = bind e (λ a. bind f (λ b. Ok (node.Bin op a b)))
node_parts names scopes (Node-F.Pick e f g) pos = bind e (λ a. bind f (λ b. bind g (λ c. Ok (node.Pick a b c))))
node_parts names scopes (Node-F.Index e f) pos = bind e (λ a. bind f (λ b. Ok (node.Index a b)))
node_parts names scopes (Node-F.Dot e s at) pos = bind e (λ a. bind (member_named names s at) (λ m. Ok (node.Dot a m at)))
node_parts names scopes (Node-F.Arrow e s at) pos = bind e (λ a. bind (member_named names s at) (λ m. Ok (node.Arrow a m at)))
node_parts names scopes (Node-F.Cast t e) pos = bind (type_named names t) (λ u. bind e (λ a. Ok (node.Cast u a)))
node_parts names scopes (Node-F.Size t) pos = bind (type_named names t) (λ u. Ok (node.Size u))
node_parts names scopes (Node-F.Trusted t e l) pos = bind (type_named names t) (λ u. bind e (λ a. bind (if_there l) (λ k. Ok (node.Trusted u a k))))
node_parts names scopes (Node-F.Tested t e l) pos = bind (type_named names t) (λ u. bind e (λ a. bind (if_there l) (λ k. Ok (node.Tested u a k))))
node_parts names scopes (Node-F.Call s es) pos = bind (in_order es) (λ args. bind (meaning_named names scopes s pos) (λ n. Ok (node.Call n args)))
node_parts names scopes (Node-F.Calloc t e u) pos = bind (type_named names t) (λ v. bind e (λ a. bind (type_named names u) (λ w. Ok (node.Calloc v a w))))

-- the same with the place of the expression
abbrev pub expr_parts : Expr-F Spelling (Unit {0}) OfLimits OfNode OfExpr → OfExpr
expr_parts e = bind (e.node e.pos) (λ n. Ok (record { node = n; pos = e.pos; note = tt }))

-- bounds with their names replaced
abbrev pub limits_named : Names → Scopes → Limits → OfLimits
limits_named names scopes = fold-Limits Spelling (Unit {0}) OfLimits OfNode OfExpr limits_parts (node_parts names scopes) expr_parts

abbrev pub node_named : Names → Scopes → Node → OfNode
node_named names scopes = fold-Node Spelling (Unit {0}) OfLimits OfNode OfExpr limits_parts (node_parts names scopes) expr_parts

-- an expression with its names replaced
abbrev pub expr_named : Names → Scopes → Expr → OfExpr
expr_named names scopes = fold-Expr Spelling (Unit {0}) OfLimits OfNode OfExpr limits_parts (node_parts names scopes) expr_parts

-- the same of each expression of a list, from left to right
abbrev pub exprs_named : Names → Scopes → List Expr → Outcome (List NamedExpr)
exprs_named names scopes es = in_order (map (expr_named names scopes) es)

-- the same of the bounds of a declaration, if it has them
abbrev pub bounds_named : Names → Scopes → Option Limits → Outcome (Option NamedLimits)
bounds_named names scopes None = Ok None
bounds_named names scopes (Some l) = bind (limits_named names scopes l) (λ k. Ok (Some k))

-- the same of an expression that may be left out, as after `return`
abbrev pub maybe_named : Names → Scopes → Option Expr → Outcome (Option NamedExpr)
maybe_named names scopes None = Ok None
maybe_named names scopes (Some e) = bind (expr_named names scopes e) (λ a. Ok (Some a))

-- What a limit, a node and an expression become, by what their parts become.
use Rattle.std.proofs.Common.{◌≡◌, ap, sym, ◌∙◌}
use Rattle.std.specs.Prelude.{Ok, Option, None, Some}
use Rattle.ckc_syntax.specs.declared.tree.Limits.{Limits-F, map-Limits, roll-Limits, fold-roll-Limits}
use Rattle.ckc_syntax.specs.declared.tree.Node.{Node-F, map-Node, roll-Node, fold-roll-Node}
use Rattle.ckc_syntax.specs.declared.tree.Node.TheVariants as node
use Rattle.ckc_syntax.specs.declared.tree.Expr.{fold-roll-Expr}
use Rattle.ckc_base.specs.declared.places.Pos.{Pos}
use Rattle.ckc_base.specs.Outcomes.{bind}
use Rattle.ckc_resolve.specs.declared.names.Names.{Names}
use Rattle.ckc_resolve.specs.declared.scopes.Scopes.{Scopes}
use Rattle.ckc_resolve.specs.Spellings.{Spelling}
use Rattle.ckc_resolve.specs.Trees.{TypeTree, Limits, Node, Expr}
use Rattle.ckc_resolve.specs.Expressions.{OfLimits, OfNode, OfExpr, limits_parts, node_parts, expr_parts, limits_named, node_named, expr_named, bounds_named}
use Rattle.ckc_resolve.specs.Types.{type_named}

pub limits_by : (names : Names) (scopes : Scopes) (l : Limits) (x : Limits-F Spelling (Unit {0}) Limits Node Expr) → l ≡ roll-Limits Spelling (Unit {0}) x
    → limits_named names scopes l ≡ limits_parts (map-Limits Spelling (Unit {0}) Limits Node Expr OfLimits OfNode OfExpr (limits_named names scopes) (node_named names scopes) (expr_named names scopes) x)
limits_by names scopes l x is =
    ap (limits_named names scopes) is ∙ fold-roll-Limits Spelling (Unit {0}) OfLimits OfNode OfExpr limits_parts (node_parts names scopes) expr_parts x

pub node_by : (names : Names) (scopes : Scopes) (n : Node) (pos : Pos) (x : Node-F Spelling (Unit {0}) Limits Node Expr) → n ≡ roll-Node Spelling (Unit {0}) x
    → node_named names scopes n pos ≡ node_parts names scopes (map-Node Spelling (Unit {0}) Limits Node Expr OfLimits OfNode OfExpr (limits_named names scopes) (node_named names scopes) (expr_named names scopes) x) pos
node_by names scopes n pos x is =
    ap (λ m. node_named names scopes m pos) is ∙ ap (λ f. f pos) (fold-roll-Node Spelling (Unit {0}) OfLimits OfNode OfExpr limits_parts (node_parts names scopes) expr_parts x)

pub expr_by : (names : Names) (scopes : Scopes) (e : Expr) → expr_named names scopes e ≡ bind (node_named names scopes e.node e.pos) (λ n. Ok (record { node = n; pos = e.pos; note = tt }))
expr_by names scopes e =
    fold-roll-Expr Spelling (Unit {0}) OfLimits OfNode OfExpr limits_parts (node_parts names scopes) expr_parts (record { node = e.node; pos = e.pos; note = e.note })

-- what an assumed or a checked cast becomes, with its bounds or without
pub trusted : (names : Names) (scopes : Scopes) (n : Node) (pos : Pos) (t : TypeTree) (e : Expr) (l : Option Limits) → n ≡ node.Trusted t e l
    → node_named names scopes n pos ≡ bind (type_named names t) (λ u. bind (expr_named names scopes e) (λ a. bind (bounds_named names scopes l) (λ k. Ok (node.Trusted u a k))))
trusted names scopes n pos t e None is = node_by names scopes n pos (Node-F.Trusted t e None) (is ∙ sym (node.rolls-Trusted t e None))
trusted names scopes n pos t e (Some l) is = node_by names scopes n pos (Node-F.Trusted t e (Some l)) (is ∙ sym (node.rolls-Trusted t e (Some l)))

pub tested : (names : Names) (scopes : Scopes) (n : Node) (pos : Pos) (t : TypeTree) (e : Expr) (l : Option Limits) → n ≡ node.Tested t e l
    → node_named names scopes n pos ≡ bind (type_named names t) (λ u. bind (expr_named names scopes e) (λ a. bind (bounds_named names scopes l) (λ k. Ok (node.Tested u a k))))
tested names scopes n pos t e None is = node_by names scopes n pos (Node-F.Tested t e None) (is ∙ sym (node.rolls-Tested t e None))
tested names scopes n pos t e (Some l) is = node_by names scopes n pos (Node-F.Tested t e (Some l)) (is ∙ sym (node.rolls-Tested t e (Some l)))

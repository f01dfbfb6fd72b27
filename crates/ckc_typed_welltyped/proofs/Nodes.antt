-- Layers of expressions and bounds: what is made of a layer, and what well typed expressions hold.
use Rattle.std.proofs.Common.{◌≡◌, List, refl, subst, rules}
use Rattle.ckc_base.specs.declared.places.Pos.{Pos}
use Rattle.ckc_base.specs.declared.arithmetic.Mode.{Mode}
use Rattle.ckc_types.specs.declared.types.CType.{CType}
use Rattle.ckc_syntax.specs.declared.tree.Name.{Name}
use Rattle.ckc_syntax.specs.declared.tree.Limits.{Limits-F, map-Limits, out-Limits, roll-Limits, every_made-Limits}
use Rattle.ckc_syntax.specs.declared.tree.Limits.TheVariants as limits
use Rattle.ckc_syntax.specs.declared.tree.Node.{Node-F, map-Node, out-Node, roll-Node, every_made-Node, the_lemmas}
use Rattle.ckc_syntax.specs.declared.tree.Node.TheVariants as node
use Rattle.ckc_syntax.specs.declared.tree.Expr.{every_made-Expr}
use Rattle.ckc_typed.specs.declared.environment.Globals.{Globals}
use Rattle.ckc_typed.specs.declared.environment.Variable.{Variable}
use Rattle.ckc_typed.specs.declared.typed.Note.{Note}
use Rattle.ckc_typed.specs.Trees.{NotedLimits, NotedNode, NotedExpr, NotedLayer}
use Rattle.ckc_typed.specs.Expressions.{noted}
use Rattle.ckc_typed_welltyped.specs.Parts.{LimitsLayer}
use Rattle.ckc_typed_welltyped.specs.Expressions.{AnyLimits, AnyNode, HasType, IsNoted, WellTypedExpr, WellTypedNode, WellTypedLimits}

-- the bounds and the node that have a layer
abbrev pub limits_of : LimitsLayer → NotedLimits
limits_of (Limits-F.Count e at) = limits.Count e at
limits_of (Limits-F.ByteCount e at) = limits.ByteCount e at
limits_of (Limits-F.Between e f at) = limits.Between e f at
limits_of (Limits-F.Unknown at) = limits.Unknown at

pub limits_rolled : (d : LimitsLayer) → roll-Limits Name Note d ≡ limits_of d
limits_rolled (Limits-F.Count e at) = limits.rolls-Count e at
limits_rolled (Limits-F.ByteCount e at) = limits.rolls-ByteCount e at
limits_rolled (Limits-F.Between e f at) = limits.rolls-Between e f at
limits_rolled (Limits-F.Unknown at) = limits.rolls-Unknown at

abbrev pub node_of : NotedLayer → NotedNode
node_of (Node-F.Number n unsigned) = node.Number n unsigned
node_of (Node-F.Text bytes) = node.Text bytes
node_of Node-F.Null = node.Null
node_of (Node-F.Name n) = node.Name n
node_of (Node-F.Un o e) = node.Un o e
node_of (Node-F.Bin o e f) = node.Bin o e f
node_of (Node-F.Pick e f g) = node.Pick e f g
node_of (Node-F.Index e f) = node.Index e f
node_of (Node-F.Dot e n at) = node.Dot e n at
node_of (Node-F.Arrow e n at) = node.Arrow e n at
node_of (Node-F.Cast t e) = node.Cast t e
node_of (Node-F.Size t) = node.Size t
node_of (Node-F.Trusted t e l) = node.Trusted t e l
node_of (Node-F.Tested t e l) = node.Tested t e l
node_of (Node-F.Call n es) = node.Call n es
node_of (Node-F.Calloc t e u) = node.Calloc t e u

pub node_rolled : (d : NotedLayer) → roll-Node Name Note d ≡ node_of d
node_rolled (Node-F.Number n unsigned) = node.rolls-Number n unsigned
node_rolled (Node-F.Text bytes) = node.rolls-Text bytes
node_rolled Node-F.Null = node.rolls-Null
node_rolled (Node-F.Name n) = node.rolls-Name n
node_rolled (Node-F.Un o e) = node.rolls-Un o e
node_rolled (Node-F.Bin o e f) = node.rolls-Bin o e f
node_rolled (Node-F.Pick e f g) = node.rolls-Pick e f g
node_rolled (Node-F.Index e f) = node.rolls-Index e f
node_rolled (Node-F.Dot e n at) = node.rolls-Dot e n at
node_rolled (Node-F.Arrow e n at) = node.rolls-Arrow e n at
node_rolled (Node-F.Cast t e) = node.rolls-Cast t e
node_rolled (Node-F.Size t) = node.rolls-Size t
node_rolled (Node-F.Trusted t e l) = node.rolls-Trusted t e l
node_rolled (Node-F.Tested t e l) = node.rolls-Tested t e l
node_rolled (Node-F.Call n es) = node.rolls-Call n es
node_rolled (Node-F.Calloc t e u) = node.rolls-Calloc t e u

pub node_out : (d : NotedLayer) → out-Node Name Note (roll-Node Name Note d) ≡ d
node_out d = search (rules, the_lemmas)

pub limits_out : (d : LimitsLayer) → out-Limits Name Note (roll-Limits Name Note d) ≡ d
limits_out d = search (rules, the_lemmas)

module _ (globals : Globals) (variables : List Variable) (mode : Mode) where
  -- each with that it is well typed
  abbrev pub FitLimits : Type 0
  FitLimits = (l : NotedLimits) × WellTypedLimits globals variables mode l

  abbrev pub FitNode : Type 0
  FitNode = (n : NotedNode) × WellTypedNode globals variables mode n

  abbrev pub FitExpr : Type 0
  FitExpr = (e : NotedExpr) × WellTypedExpr globals variables mode e

  abbrev pub bare_limits_layer : Limits-F Name Note FitLimits FitNode FitExpr → LimitsLayer
  bare_limits_layer = map-Limits Name Note FitLimits FitNode FitExpr NotedLimits NotedNode NotedExpr (λ e. e.0) (λ e. e.0) (λ e. e.0)

  abbrev pub bare_node_layer : Node-F Name Note FitLimits FitNode FitExpr → NotedLayer
  bare_node_layer = map-Node Name Note FitLimits FitNode FitExpr NotedLimits NotedNode NotedExpr (λ e. e.0) (λ e. e.0) (λ e. e.0)

  -- bounds and nodes are well typed if their parts are
  pub limits_fit : (z : Limits-F Name Note FitLimits FitNode FitExpr) → WellTypedLimits globals variables mode (limits_of (bare_limits_layer z))
  limits_fit z =
      subst (WellTypedLimits globals variables mode) (limits_rolled (bare_limits_layer z))
      (every_made-Limits Name Note AnyLimits AnyNode (IsNoted globals variables mode) (bare_limits_layer z) z refl tt)

  pub node_fits : (z : Node-F Name Note FitLimits FitNode FitExpr) → WellTypedNode globals variables mode (node_of (bare_node_layer z))
  node_fits z =
      subst (WellTypedNode globals variables mode) (node_rolled (bare_node_layer z))
      (every_made-Node Name Note AnyLimits AnyNode (IsNoted globals variables mode) (bare_node_layer z) z refl tt)

  -- and so is an expression that has its row beside
  pub expr_fits : (n : NotedNode) (at : Pos) (t : CType) → WellTypedNode globals variables mode n → HasType globals variables mode (out-Node Name Note n) t → WellTypedExpr globals variables mode (noted mode at n t)
  expr_fits n at t w r =
      every_made-Expr Name Note AnyLimits AnyNode (IsNoted globals variables mode) (record { node = n; pos = at; note = (noted mode at n t).note }) (record { node = (n, w); pos = at; note = (noted mode at n t).note }) refl
      (record { row = r; scope = refl; range = refl })

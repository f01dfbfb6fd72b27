-- The parts of well typed expressions and bounds are well typed.
use Rattle.std.proofs.Common.{List, [], ◌∷◌, map, ap, subst}
use Rattle.std.specs.Prelude.{Some, None}
use Rattle.std.specs.List.{AllByRecursion}
use Rattle.ckc_base.specs.declared.arithmetic.Mode.{Mode}
use Rattle.ckc_syntax.specs.declared.tree.Name.{Name}
use Rattle.ckc_syntax.specs.declared.tree.Limits.{Limits-F, out-Limits, roll-Limits, every_held-Limits}
use Rattle.ckc_syntax.specs.declared.tree.Node.{Node-F, out-Node, roll-Node, every_held-Node}
use Rattle.ckc_syntax.specs.declared.tree.Expr.{Expr-F, every_here-Expr, every_held-Expr}
use Rattle.ckc_typed.specs.declared.environment.Globals.{Globals}
use Rattle.ckc_typed.specs.declared.environment.Variable.{Variable}
use Rattle.ckc_typed.specs.declared.typed.Note.{Note}
use Rattle.ckc_typed.specs.Trees.{NotedLimits, NotedNode, NotedExpr, NotedLayer}
use Rattle.ckc_typed_welltyped.specs.Expressions.{AnyLimits, AnyNode, IsNoted, WellTypedExpr, WellTypedNode, WellTypedLimits}
use Rattle.ckc_typed_welltyped.specs.Parts.{LimitsLayer, LimitsParts, NodeParts}
use Rattle.ckc_typed_welltyped.proofs.Nodes.{FitLimits, FitNode, FitExpr, bare_limits_layer, bare_node_layer, node_out, limits_out}

module _ (globals : Globals) (variables : List Variable) (mode : Mode) where
  abbrev FitL : Type 0
  FitL = FitLimits globals variables mode

  abbrev FitE : Type 0
  FitE = FitExpr globals variables mode

  limits_parts_of : (z : Limits-F Name Note FitL (FitNode globals variables mode) FitE) → LimitsParts globals variables mode (bare_limits_layer globals variables mode z)
  limits_parts_of (Limits-F.Count e at) = e.1
  limits_parts_of (Limits-F.ByteCount e at) = e.1
  limits_parts_of (Limits-F.Between e f at) = (e.1, f.1)
  limits_parts_of (Limits-F.Unknown at) = tt

  all_fit : (zs : List FitE) → AllByRecursion (WellTypedExpr globals variables mode) (map (λ (e : FitE). e.0) zs)
  all_fit [] = tt
  all_fit (z ∷ zs) = (z.1, all_fit zs)

  node_parts_of : (z : Node-F Name Note FitL (FitNode globals variables mode) FitE) → NodeParts globals variables mode (bare_node_layer globals variables mode z)
  node_parts_of (Node-F.Number n u) = tt
  node_parts_of (Node-F.Text bytes) = tt
  node_parts_of Node-F.Null = tt
  node_parts_of (Node-F.Name n) = tt
  node_parts_of (Node-F.Un o e) = e.1
  node_parts_of (Node-F.Bin o e f) = (e.1, f.1)
  node_parts_of (Node-F.Pick e f g) = (e.1, f.1, g.1)
  node_parts_of (Node-F.Index e f) = (e.1, f.1)
  node_parts_of (Node-F.Dot e n at) = e.1
  node_parts_of (Node-F.Arrow e n at) = e.1
  node_parts_of (Node-F.Cast w e) = e.1
  node_parts_of (Node-F.Size w) = tt
  node_parts_of (Node-F.Trusted w e None) = (e.1, tt)
  node_parts_of (Node-F.Trusted w e (Some l)) = (e.1, l.1)
  node_parts_of (Node-F.Tested w e None) = (e.1, tt)
  node_parts_of (Node-F.Tested w e (Some l)) = (e.1, l.1)
  node_parts_of (Node-F.Call n es) = all_fit es
  node_parts_of (Node-F.Calloc w e u) = e.1

  pub limits_hold : (l : NotedLimits) → WellTypedLimits globals variables mode l → LimitsParts globals variables mode (out-Limits Name Note l)
  limits_hold l w =
      let h = every_held-Limits Name Note AnyLimits AnyNode (IsNoted globals variables mode) l w in
      subst (LimitsParts globals variables mode) h.1 (limits_parts_of h.0)

  pub node_holds : (n : NotedNode) → WellTypedNode globals variables mode n → NodeParts globals variables mode (out-Node Name Note n)
  node_holds n w =
      let h = every_held-Node Name Note AnyLimits AnyNode (IsNoted globals variables mode) n w in
      subst (NodeParts globals variables mode) h.1 (node_parts_of h.0)

  -- at a layer
  pub limits_layer_holds : (d : LimitsLayer) → WellTypedLimits globals variables mode (roll-Limits Name Note d) → LimitsParts globals variables mode d
  limits_layer_holds d w = subst (LimitsParts globals variables mode) (limits_out d) (limits_hold (roll-Limits Name Note d) w)

  pub node_layer_holds : (d : NotedLayer) → WellTypedNode globals variables mode (roll-Node Name Note d) → NodeParts globals variables mode d
  node_layer_holds d w = subst (NodeParts globals variables mode) (node_out d) (node_holds (roll-Node Name Note d) w)

  -- an expression has its row, and its node is well typed
  pub has_row : (e : NotedExpr) → WellTypedExpr globals variables mode e → IsNoted globals variables mode (record { node = e.node; pos = e.pos; note = e.note })
  has_row e w = every_here-Expr Name Note AnyLimits AnyNode (IsNoted globals variables mode) e w

  pub holds_node : (e : NotedExpr) → WellTypedExpr globals variables mode e → WellTypedNode globals variables mode e.node
  holds_node e w =
      let h = every_held-Expr Name Note AnyLimits AnyNode (IsNoted globals variables mode) e w in
      subst (WellTypedNode globals variables mode) (ap (λ (d : Expr-F Name Note NotedLimits NotedNode NotedExpr). d.node) h.1) h.0.node.1

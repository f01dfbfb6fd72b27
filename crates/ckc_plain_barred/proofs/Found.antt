-- What is found in an expression, a bound and a statement, by what is found in their parts.
use Rattle.std.proofs.Common.{◌≡◌, refl, sym, ap, ◌∙◌}
use Rattle.std.specs.Prelude.{Bool, List}
use Rattle.ckc_base.specs.declared.places.Pos.{Pos}
use Rattle.ckc_syntax.specs.declared.tree.Name.{Name}
use Rattle.ckc_syntax.specs.declared.tree.Limits.{Limits-F, map-Limits, roll-Limits, fold-roll-Limits}
use Rattle.ckc_syntax.specs.declared.tree.Node.{Node-F, map-Node, roll-Node, fold-roll-Node}
use Rattle.ckc_syntax.specs.declared.tree.Expr.{fold-roll-Expr}
use Rattle.ckc_syntax.specs.Trees.{NamedLimits, NamedNode, NamedExpr}
use Rattle.ckc_plain_barred.specs.declared.integers.Integers.{Integers}
use Rattle.ckc_plain_barred.specs.Effects.{Found, OfLimits, limits_parts, node_parts, expr_parts, in_limits, found_in_node, found_in}

abbrev pub Layer : Type 0
Layer = Node-F Name (Unit {0}) NamedLimits NamedNode NamedExpr

module _ (known : Integers) where
  abbrev pub found_layer : Layer → Node-F Name (Unit {0}) OfLimits (Pos → Found) Found
  found_layer = map-Node Name (Unit {0}) NamedLimits NamedNode NamedExpr OfLimits (Pos → Found) Found (in_limits known) (found_in_node known) (found_in known)

  pub found_by : (e : NamedExpr) (x : Layer) → e.node ≡ roll-Node Name (Unit {0}) x → found_in known e ≡ node_parts known (found_layer x) e.pos
  found_by e x is =
      fold-roll-Expr Name (Unit {0}) OfLimits (Pos → Found) Found limits_parts (node_parts known) expr_parts (record { node = e.node; pos = e.pos; note = e.note })
      ∙ ap (λ n. found_in_node known n e.pos) is
      ∙ ap (λ f. f e.pos) (fold-roll-Node Name (Unit {0}) OfLimits (Pos → Found) Found limits_parts (node_parts known) expr_parts x)

  pub limits_by : (l : NamedLimits) (x : Limits-F Name (Unit {0}) NamedLimits NamedNode NamedExpr) → l ≡ roll-Limits Name (Unit {0}) x
      → in_limits known l ≡ limits_parts (map-Limits Name (Unit {0}) NamedLimits NamedNode NamedExpr OfLimits (Pos → Found) Found (in_limits known) (found_in_node known) (found_in known) x)
  limits_by l x is = ap (in_limits known) is ∙ fold-roll-Limits Name (Unit {0}) OfLimits (Pos → Found) Found limits_parts (node_parts known) expr_parts x

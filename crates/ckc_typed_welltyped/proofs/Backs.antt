-- Well typed expressions and bounds are what they become without their notes.
use Rattle.std.proofs.Common.{◌≡◌, List, [], ◌∷◌, map, refl, sym, ap, subst, ◌∙◌}
use Rattle.std.specs.Prelude.{Option, Some, None, Ok, ◌||◌}
use Rattle.std.specs.Option.{option_map}
use Rattle.std.specs.List.{AllByRecursion}
use Rattle.ckc_base.specs.declared.places.Pos.{Pos}
use Rattle.ckc_base.specs.declared.arithmetic.Mode.{Mode}
use Rattle.ckc_base.specs.Outcomes.{Outcome, there_or, in_order, if_there}
use Rattle.ckc_types.specs.declared.types.CType.{CType}
use Rattle.ckc_syntax.specs.declared.tree.Name.{Name}
use Rattle.ckc_syntax.specs.declared.tree.Limits.{Limits-F, map-Limits, roll-Limits, fold-roll-Limits}
use Rattle.ckc_syntax.specs.declared.tree.Node.{Node-F, map-Node, out-Node, roll-Node, fold-roll-Node}
use Rattle.ckc_syntax.specs.declared.tree.Node.TheVariants as node
use Rattle.ckc_syntax.specs.declared.tree.Expr.{roll-Expr, fold-roll-Expr}
use Rattle.ckc_syntax.proofs.Layers as kept
use Rattle.ckc_syntax.proofs.Layers.{Steps, Property, inner_limits, inner_node, inner_expr, each_limits, each_expr}
use Rattle.ckc_typed.specs.declared.environment.Globals.{Globals}
use Rattle.ckc_typed.specs.declared.environment.Variable.{Variable}
use Rattle.ckc_typed.specs.declared.typed.Note.{Note}
use Rattle.ckc_typed.specs.declared.typed.Range.{Range}
use Rattle.ckc_typed.specs.declared.typed.Range.TheVariants.{Missing}
use Rattle.ckc_typed.specs.Codes.{bad_operands}
use Rattle.ckc_typed.specs.Trees.{Limits, Node, Expr, NotedLimits, NotedNode, NotedExpr, NotedLayer}
use Rattle.ckc_typed.specs.Types.{type_written, is_void}
use Rattle.ckc_typed.specs.Conversions.{is_null, is_tested, is_trusted, is_bounds_cast}
use Rattle.ckc_typed.specs.Environment.{type_of_name}
use Rattle.ckc_typed.specs.Operands.{binary_type, choice_type, index_type, dot_type, arrow_type, size_type}
use Rattle.ckc_typed.specs.Expressions.{OfLimits, OfNode, OfExpr, noted, unary_typed, binary_typed, choice_typed, index_typed, dot_typed, arrow_typed, cast_typed, allocation_typed, tested_typed, trusted_typed, call_typed, limits_parts, node_parts, expr_parts, limits_typed, node_typed, expr_typed}
use Rattle.ckc_typed_welltyped.specs.Noteless.{bare_limits, bare_node, bare_expr}
use Rattle.ckc_typed_welltyped.specs.Expressions.{HasType, WellTypedExpr, WellTypedNode, WellTypedLimits}
use Rattle.ckc_typed_welltyped.specs.Parts.{LimitsLayer, LimitsParts, NodeParts}
use Rattle.ckc_base.proofs.Outcomes.{goes, is_there}
use Rattle.ckc_typed_welltyped.proofs.Rows.{row_is, unary_is, two_rules, cast_is, allocation_is, call_is}
use Rattle.ckc_typed_welltyped.proofs.Nodes.{limits_of, limits_rolled, node_of, node_rolled, node_out}
use Rattle.ckc_typed_welltyped.proofs.Held.{limits_layer_holds, node_layer_holds, has_row, holds_node}
use Rattle.ckc_typed_welltyped.proofs.Bares.{bared_limits, bared_node, bare_limits_is, bare_node_is, bare_expr_is}

module _ (globals : Globals) (variables : List Variable) (mode : Mode) where
  abbrev LimitsBack : NotedLimits → Type 0
  LimitsBack l = WellTypedLimits globals variables mode l → limits_typed globals variables mode (bare_limits l) ≡ Ok l

  abbrev NodeBack : NotedNode → Type 0
  NodeBack n = (at : Pos) (t : CType) → WellTypedNode globals variables mode n → HasType globals variables mode (out-Node Name Note n) t → node_typed globals variables mode (bare_node n) at ≡ Ok (noted mode at n t)

  abbrev ExprBack : NotedExpr → Type 0
  ExprBack e = WellTypedExpr globals variables mode e → expr_typed globals variables mode (bare_expr e) ≡ Ok e

  -- the property alone, of no value of the tree
  abbrev no_value : Steps Name Note (Unit {0}) (Unit {0}) (Unit {0})
  no_value = record { limits = λ l. tt; node = λ n. tt; expr = λ e. tt }

  abbrev back : Property Name Note (Unit {0}) (Unit {0}) (Unit {0})
  back = record { limits = λ l u. LimitsBack l; node = λ n u. NodeBack n; expr = λ e u. ExprBack e }

  abbrev KeptLimits : Type 0
  KeptLimits = kept.KeptLimits no_value back

  abbrev KeptExpr : Type 0
  KeptExpr = kept.KeptExpr no_value back

  abbrev alone_limits : kept.LimitsLayer no_value back → LimitsLayer
  alone_limits = inner_limits no_value back

  abbrev alone_node : kept.NodeLayer no_value back → NotedLayer
  alone_node = inner_node no_value back

  abbrev judged_limits : Limits-F Name (Unit {0}) Limits Node Expr → Limits-F Name (Unit {0}) OfLimits OfNode OfExpr
  judged_limits = map-Limits Name (Unit {0}) Limits Node Expr OfLimits OfNode OfExpr (limits_typed globals variables mode) (node_typed globals variables mode) (expr_typed globals variables mode)

  abbrev judged_node : Node-F Name (Unit {0}) Limits Node Expr → Node-F Name (Unit {0}) OfLimits OfNode OfExpr
  judged_node = map-Node Name (Unit {0}) Limits Node Expr OfLimits OfNode OfExpr (limits_typed globals variables mode) (node_typed globals variables mode) (expr_typed globals variables mode)

  abbrev typed_expr : Expr → Outcome NotedExpr
  typed_expr = expr_typed globals variables mode

  abbrev first_of_kept : KeptExpr → NotedExpr
  first_of_kept k = k.0

  limits_step : (y : kept.LimitsLayer no_value back) → LimitsParts globals variables mode (alone_limits y) → limits_parts (judged_limits (bared_limits Name Note (alone_limits y))) ≡ Ok (limits_of (alone_limits y))
  limits_step (Limits-F.Count k at) p = goes (typed_expr (bare_expr k.0)) _ k.0 _ (k.1 p) refl
  limits_step (Limits-F.ByteCount k at) p = goes (typed_expr (bare_expr k.0)) _ k.0 _ (k.1 p) refl
  limits_step (Limits-F.Between k j at) p = goes (typed_expr (bare_expr k.0)) _ k.0 _ (k.1 p.0) (goes (typed_expr (bare_expr j.0)) _ j.0 _ (j.1 p.1) refl)
  limits_step (Limits-F.Unknown at) p = refl

  all_back : (ks : List KeptExpr) → AllByRecursion (WellTypedExpr globals variables mode) (map first_of_kept ks) → in_order (map typed_expr (map bare_expr (map first_of_kept ks))) ≡ Ok (map first_of_kept ks)
  all_back [] p = refl
  all_back (k ∷ ks) p = goes (typed_expr (bare_expr k.0)) _ k.0 _ (k.1 p.0) (goes (in_order (map typed_expr (map bare_expr (map first_of_kept ks)))) _ (map first_of_kept ks) _ (all_back ks p.1) refl)

  abbrev there_of : KeptLimits → Outcome (Option NotedLimits)
  there_of l = if_there (option_map (limits_typed globals variables mode) (option_map bare_limits (Some l.0)))

  there_back : (l : KeptLimits) → WellTypedLimits globals variables mode l.0 → there_of l ≡ Ok (Some l.0)
  there_back l p = goes (limits_typed globals variables mode (bare_limits l.0)) (λ a. Ok (Some a)) l.0 (Some l.0) (l.1 p) refl

  node_step : (y : kept.NodeLayer no_value back) (at : Pos) (t : CType) → NodeParts globals variables mode (alone_node y) → HasType globals variables mode (alone_node y) t
      → node_parts globals variables mode (judged_node (bared_node Name Note (alone_node y))) at ≡ Ok (noted mode at (node_of (alone_node y)) t)
  node_step (Node-F.Number n u) at t p r = ap (λ x. Ok (noted mode at (node.Number n u) x)) (sym r)
  node_step (Node-F.Text s) at t p r = ap (λ x. Ok (noted mode at (node.Text s) x)) (sym r)
  node_step Node-F.Null at t p r = ap (λ x. Ok (noted mode at node.Null x)) (sym r)
  node_step (Node-F.Name n) at t p r = goes (there_or bad_operands at (type_of_name globals variables n)) _ t _ (is_there bad_operands at (type_of_name globals variables n) t r) refl
  node_step (Node-F.Un o k) at t p r =
      goes (typed_expr (bare_expr k.0)) _ k.0 _ (k.1 p) (goes (unary_typed globals mode o k.0 at) _ t _ ((unary_is globals mode k.0 at o t).1 r) refl)
  node_step (Node-F.Bin o k j) at t p r =
      goes (typed_expr (bare_expr k.0)) _ k.0 _ (k.1 p.0) (goes (typed_expr (bare_expr j.0)) _ j.0 _ (j.1 p.1)
      (goes (binary_typed o k.0 j.0 at) _ t _ ((row_is (is_void k.0.note.ctype || is_void j.0.note.ctype) at (binary_type o k.0.note.ctype (is_null k.0) j.0.note.ctype (is_null j.0)) t).1 r) refl))
  node_step (Node-F.Pick k j i) at t p r =
      goes (typed_expr (bare_expr k.0)) _ k.0 _ (k.1 p.0) (goes (typed_expr (bare_expr j.0)) _ j.0 _ (j.1 p.1) (goes (typed_expr (bare_expr i.0)) _ i.0 _ (i.1 p.2)
      (goes (choice_typed k.0 j.0 i.0 at) _ t _ ((row_is (is_void k.0.note.ctype || (is_void j.0.note.ctype || is_void i.0.note.ctype)) at (choice_type k.0.note.ctype j.0.note.ctype i.0.note.ctype) t).1 r) refl)))
  node_step (Node-F.Index k j) at t p r =
      goes (typed_expr (bare_expr k.0)) _ k.0 _ (k.1 p.0) (goes (typed_expr (bare_expr j.0)) _ j.0 _ (j.1 p.1)
      (goes (index_typed k.0 j.0 at) _ t _ ((row_is (is_void k.0.note.ctype || is_void j.0.note.ctype) at (index_type k.0.note.ctype j.0.note.ctype) t).1 r) refl))
  node_step (Node-F.Dot k n place) at t p r =
      goes (typed_expr (bare_expr k.0)) _ k.0 _ (k.1 p) (goes (dot_typed globals k.0 n at) _ t _ ((row_is (is_void k.0.note.ctype) at (dot_type globals.structs k.0.note.ctype n) t).1 r) refl)
  node_step (Node-F.Arrow k n place) at t p r =
      goes (typed_expr (bare_expr k.0)) _ k.0 _ (k.1 p) (goes (arrow_typed globals k.0 n at) _ t _ ((row_is (is_void k.0.note.ctype) at (arrow_type globals.structs k.0.note.ctype n) t).1 r) refl)
  node_step (Node-F.Cast w k) at t p r =
      goes (typed_expr (bare_expr k.0)) _ k.0 _ (k.1 p) (goes (cast_typed (type_written w) k.0 at) _ t _ ((cast_is (type_written w) k.0 at t).1 r) refl)
  node_step (Node-F.Size w) at t p r = goes (there_or bad_operands at (size_type (type_written w))) _ t _ (is_there bad_operands at (size_type (type_written w)) t r) refl
  node_step (Node-F.Trusted w k None) at t p r =
      goes (typed_expr (bare_expr k.0)) _ k.0 _ (k.1 p.0)
      (goes (trusted_typed (type_written w) k.0 None at) _ t _ ((two_rules (is_bounds_cast (type_written w) None) (is_trusted (type_written w) k.0) at (type_written w) t).1 r) refl)
  node_step (Node-F.Trusted w k (Some l)) at t p r =
      goes (typed_expr (bare_expr k.0)) _ k.0 _ (k.1 p.0) (goes (there_of l) _ (Some l.0) _ (there_back l p.1)
      (goes (trusted_typed (type_written w) k.0 (Some l.0) at) _ t _ ((two_rules (is_bounds_cast (type_written w) (Some l.0)) (is_trusted (type_written w) k.0) at (type_written w) t).1 r) refl))
  node_step (Node-F.Tested w k None) at t p r =
      goes (typed_expr (bare_expr k.0)) _ k.0 _ (k.1 p.0)
      (goes (tested_typed (type_written w) k.0 None at) _ t _ ((two_rules (is_bounds_cast (type_written w) None) (is_tested (type_written w) k.0) at (type_written w) t).1 r) refl)
  node_step (Node-F.Tested w k (Some l)) at t p r =
      goes (typed_expr (bare_expr k.0)) _ k.0 _ (k.1 p.0) (goes (there_of l) _ (Some l.0) _ (there_back l p.1)
      (goes (tested_typed (type_written w) k.0 (Some l.0) at) _ t _ ((two_rules (is_bounds_cast (type_written w) (Some l.0)) (is_tested (type_written w) k.0) at (type_written w) t).1 r) refl))
  node_step (Node-F.Call n ks) at t p r =
      goes (in_order (map typed_expr (map bare_expr (map first_of_kept ks)))) _ (map first_of_kept ks) _ (all_back ks p)
      (goes (call_typed globals mode n (map first_of_kept ks) at) _ t _ ((call_is globals mode n (map first_of_kept ks) at t).1 r) refl)
  node_step (Node-F.Calloc w k x) at t p r =
      goes (typed_expr (bare_expr k.0)) _ k.0 _ (k.1 p) (goes (allocation_typed (type_written w) k.0 (type_written x) at) _ t _ ((allocation_is (type_written w) k.0 (type_written x) at t).1 r) refl)

  limits_back_by : (y : kept.LimitsLayer no_value back) → LimitsBack (roll-Limits Name Note (alone_limits y))
  limits_back_by y w =
      let x = alone_limits y in
      ap (limits_typed globals variables mode) (bare_limits_is Name Note x)
      ∙ fold-roll-Limits Name (Unit {0}) OfLimits OfNode OfExpr limits_parts (node_parts globals variables mode) expr_parts (bared_limits Name Note x)
      ∙ limits_step y (limits_layer_holds globals variables mode x w)
      ∙ ap Ok (sym (limits_rolled x))

  node_back_by : (y : kept.NodeLayer no_value back) → NodeBack (roll-Node Name Note (alone_node y))
  node_back_by y at t w r =
      let x = alone_node y in
      ap (λ n. node_typed globals variables mode n at) (bare_node_is Name Note x)
      ∙ ap (λ f. f at) (fold-roll-Node Name (Unit {0}) OfLimits OfNode OfExpr limits_parts (node_parts globals variables mode) expr_parts (bared_node Name Note x))
      ∙ node_step y at t (node_layer_holds globals variables mode x w) (subst (λ z. HasType globals variables mode z t) (node_out x) r)
      ∙ ap (λ n. Ok (noted mode at n t)) (sym (node_rolled x))

  abbrev noted_as : NotedNode → Pos → CType → Mode → Range → NotedExpr
  noted_as n at t m range = record { node = n; pos = at; note = record { ctype = t; mode = m; range = range } }

  expr_is : (e : NotedExpr) → NodeBack e.node → ExprBack e
  expr_is e back w =
      let r = has_row globals variables mode e w in
      ap typed_expr (bare_expr_is Name Note e)
      ∙ fold-roll-Expr Name (Unit {0}) OfLimits OfNode OfExpr limits_parts (node_parts globals variables mode) expr_parts (record { node = bare_node e.node; pos = e.pos; note = tt })
      ∙ back e.pos e.note.ctype (holds_node globals variables mode e w) r.row
      ∙ ap (λ m. Ok (noted_as e.node e.pos e.note.ctype m Missing)) (sym r.scope)
      ∙ ap (λ range. Ok (noted_as e.node e.pos e.note.ctype e.note.mode range)) (sym r.range)

  expr_back_by : (y : kept.ExprLayer no_value back) → ExprBack (roll-Expr Name Note (inner_expr no_value back y))
  expr_back_by y = expr_is (roll-Expr Name Note (inner_expr no_value back y)) y.node.1

  pub limits_back : (l : NotedLimits) → WellTypedLimits globals variables mode l → limits_typed globals variables mode (bare_limits l) ≡ Ok l
  limits_back = each_limits no_value back limits_back_by node_back_by expr_back_by

  pub expr_back : (e : NotedExpr) → WellTypedExpr globals variables mode e → expr_typed globals variables mode (bare_expr e) ≡ Ok e
  expr_back = each_expr no_value back limits_back_by node_back_by expr_back_by

-- The claims of all expressions, by induction.
use Rattle.std.proofs.Common.{◌≡◌, sym, ap, subst, ◌∙◌, ℕ, ◌+◌, Bool, rules}
use Rattle.std.specs.Prelude.{None}
use Rattle.ckc_base.specs.declared.places.Pos.{Pos}
use Rattle.ckc_types.specs.declared.types.CType.{CType}
use Rattle.ckc_syntax.specs.declared.tree.Name.{Name}
use Rattle.ckc_syntax.specs.declared.tree.TreeOp.TheVariants as op
use Rattle.ckc_syntax.specs.declared.tree.Limits.{Limits-F, map-Limits, roll-Limits, every-Limits}
use Rattle.ckc_syntax.specs.declared.tree.Node.{Node-F, map-Node, out-Node, roll-Node, fold-roll-Node, every-Node, every_held-Node, the_lemmas}
use Rattle.ckc_syntax.specs.declared.tree.Expr.{Expr-F, map-Expr, ind-Expr, roll-Expr, fold-roll-Expr, every_here-Expr, every_held-Expr}
use Rattle.ckc_typed.specs.declared.environment.Globals.{Globals}
use Rattle.ckc_typed.specs.declared.typed.Note.{Note}
use Rattle.ckc_typed.specs.Constants.{size_of}
use Rattle.ckc_typed.specs.Conversions.{is_null}
use Rattle.ckc_typed.specs.Trees.{NotedLimits, NotedNode, NotedExpr, NotedLayer}
use Rattle.ckc_typed.specs.Types.{type_written}
use Rattle.ckc_typed_welltyped.specs.Expressions.{AnyLimits, AnyNode}
use Rattle.ckc_bounds.specs.ckc_bounds_points.specs.Flow.{State}
use Rattle.ckc_bounds.specs.ckc_bounds_views.specs.Parts.{LimitsView, NodeView, View, NodeOfViews}
use Rattle.ckc_bounds.specs.ckc_bounds_views.specs.Integers.{number_of_node, variable_of_node, form_of_node, step_of, form_after}
use Rattle.ckc_bounds.specs.ckc_bounds_views.specs.Places.{target_of_node}
use Rattle.ckc_bounds.specs.ckc_bounds_views.specs.Conditions.{behind_node, side_of_node, binary_side, widening_side}
use Rattle.ckc_bounds.specs.ckc_bounds_views.specs.Views.{limits_view, node_view, expr_view, view_of_limits, view_of_node, view}
use Rattle.ckc_source.specs.Code.{Expr}
use Rattle.ckc_build_values.specs.Operators.{of_operands}
use Rattle.ckc_build_values.specs.Expressions.{Part, NodePart, LimitsPart, limits_parts, node_parts, expr_parts, node_value, part_of, part_of_node, part_of_limits}
use Rattle.ckc_blame_sound.specs.Settings.{Setting}
use Rattle.ckc_blame_sound.specs.Typed.{IsRow, HasRow, IsTyped, Agrees}
use Rattle.ckc_blame_sound.proofs.Claims.{Claims}
use Rattle.ckc_blame_sound.proofs.Sides.{widening_same}
use Rattle.ckc_blame_sound.proofs.IntegerNodes.{no_claims, whole_claims, binary_claims}
use Rattle.ckc_blame_sound.proofs.Leaves.{literal_claims, size_claims, minus_claims, not_claims, cast_claims, name_claims}

module _ (globals : Globals) (s : Setting) (agrees : Agrees globals s) where
  abbrev TypedNode : NotedNode → Type 0
  TypedNode = every-Node Name Note AnyLimits AnyNode (HasRow globals s)

  -- what is claimed of a node with a note at a place
  abbrev Holds : NotedLayer → Note → NodeView → NodePart → Pos → Type 0
  Holds x note n q place = Claims s.frame note.ctype n.number n.variable (n.linear note.ctype) n.side (λ k. q.value note place s.text s.variables k)

  record AnyClaims (l : NotedLimits) : Type 0 where
    pub any : Unit {0}

  record NodeHolds (n : NotedNode) : Type 0 where
    pub claims : (note : Note) (place : Pos) → IsRow globals s (out-Node Name Note n) note → TypedNode n
        → Claims s.frame note.ctype (view_of_node s.frame n).number (view_of_node s.frame n).variable ((view_of_node s.frame n).linear note.ctype) (view_of_node s.frame n).side
        (λ k. (part_of_node n).value note place s.text s.variables k)

  pub record ExprHolds (e : NotedExpr) : Type 0 where
    pub viewed : (view s.frame e).ctype ≡ e.note.ctype
    pub parted : (part_of e).ctype ≡ e.note.ctype
    pub claims : IsTyped globals s e
        → Claims s.frame e.note.ctype (view s.frame e).number (view s.frame e).variable (view s.frame e).form (view s.frame e).side (λ k. (part_of e).value s.text s.variables k)

  abbrev KeptLimits : Type 0
  KeptLimits = (l : NotedLimits) × AnyClaims l

  abbrev KeptNode : Type 0
  KeptNode = (n : NotedNode) × NodeHolds n

  abbrev KeptExpr : Type 0
  KeptExpr = (e : NotedExpr) × ExprHolds e

  abbrev inner_node : Node-F Name Note KeptLimits KeptNode KeptExpr → NotedLayer
  inner_node = map-Node Name Note KeptLimits KeptNode KeptExpr NotedLimits NotedNode NotedExpr (λ e. e.0) (λ e. e.0) (λ e. e.0)

  abbrev inner_limits : Limits-F Name Note KeptLimits KeptNode KeptExpr → Limits-F Name Note NotedLimits NotedNode NotedExpr
  inner_limits = map-Limits Name Note KeptLimits KeptNode KeptExpr NotedLimits NotedNode NotedExpr (λ e. e.0) (λ e. e.0) (λ e. e.0)

  abbrev inner_expr : Expr-F Name Note KeptLimits KeptNode KeptExpr → Expr-F Name Note NotedLimits NotedNode NotedExpr
  inner_expr = map-Expr Name Note KeptLimits KeptNode KeptExpr NotedLimits NotedNode NotedExpr (λ e. e.0) (λ e. e.0) (λ e. e.0)

  abbrev viewed_node : NotedLayer → NodeOfViews
  viewed_node = map-Node Name Note NotedLimits NotedNode NotedExpr LimitsView NodeView View (view_of_limits s.frame) (view_of_node s.frame) (view s.frame)

  abbrev viewed_expr : Expr-F Name Note NotedLimits NotedNode NotedExpr → Expr-F Name Note LimitsView NodeView View
  viewed_expr = map-Expr Name Note NotedLimits NotedNode NotedExpr LimitsView NodeView View (view_of_limits s.frame) (view_of_node s.frame) (view s.frame)

  abbrev part_node : NotedLayer → Node-F Name Note LimitsPart NodePart Part
  part_node = map-Node Name Note NotedLimits NotedNode NotedExpr LimitsPart NodePart Part part_of_limits part_of_node part_of

  abbrev part_expr : Expr-F Name Note NotedLimits NotedNode NotedExpr → Expr-F Name Note LimitsPart NodePart Part
  part_expr = map-Expr Name Note NotedLimits NotedNode NotedExpr LimitsPart NodePart Part part_of_limits part_of_node part_of

  -- ---- the parts that claims are made of are typed

  abbrev PartsTyped : NotedLayer → Type 0
  PartsTyped (Node-F.Un o e) = IsTyped globals s e
  PartsTyped (Node-F.Bin o e f) = IsTyped globals s e × IsTyped globals s f
  PartsTyped (Node-F.Cast w e) = IsTyped globals s e
  PartsTyped n = Unit {0}

  abbrev FitLimits : Type 0
  FitLimits = (l : NotedLimits) × every-Limits Name Note AnyLimits AnyNode (HasRow globals s) l

  abbrev FitNode : Type 0
  FitNode = (n : NotedNode) × TypedNode n

  abbrev FitExpr : Type 0
  FitExpr = (e : NotedExpr) × IsTyped globals s e

  abbrev bare_node : Node-F Name Note FitLimits FitNode FitExpr → NotedLayer
  bare_node = map-Node Name Note FitLimits FitNode FitExpr NotedLimits NotedNode NotedExpr (λ e. e.0) (λ e. e.0) (λ e. e.0)

  parts_of : (z : Node-F Name Note FitLimits FitNode FitExpr) → PartsTyped (bare_node z)
  parts_of (Node-F.Un o e) = e.1
  parts_of (Node-F.Bin o e f) = (e.1, f.1)
  parts_of (Node-F.Cast w e) = e.1
  parts_of z = tt

  parts_typed : (n : NotedNode) → TypedNode n → PartsTyped (out-Node Name Note n)
  parts_typed n w =
      let h = every_held-Node Name Note AnyLimits AnyNode (HasRow globals s) n w in
      subst PartsTyped h.1 (parts_of h.0)

  node_out : (x : NotedLayer) → out-Node Name Note (roll-Node Name Note x) ≡ x
  node_out x = search (rules, the_lemmas)

  node_typed : (e : NotedExpr) → IsTyped globals s e → TypedNode e.node
  node_typed e w =
      let h = every_held-Expr Name Note AnyLimits AnyNode (HasRow globals s) e w in
      subst TypedNode (ap (λ (d : Expr-F Name Note NotedLimits NotedNode NotedExpr). d.node) h.1) h.0.node.1

  -- ---- a node

  same_side : (n : NodeOfViews) (b : Bool) (at : State) → (widening_side s.frame (behind_node n) (target_of_node n 0) b at).facts ≡ at.facts
  same_side n b at = widening_same s.frame (behind_node n) (target_of_node n 0) b at

  abbrev NodeClaims : NotedLayer → Note → Pos → Type 0
  NodeClaims x note place =
      Claims s.frame note.ctype (number_of_node s.frame (viewed_node x)) (variable_of_node s.frame (viewed_node x)) (form_of_node s.frame (viewed_node x) note.ctype) (side_of_node s.frame (viewed_node x))
      (λ k. node_value (part_node x) note place s.text s.variables k)

  node_step : (y : Node-F Name Note KeptLimits KeptNode KeptExpr) (note : Note) (place : Pos) → IsRow globals s (inner_node y) note → PartsTyped (inner_node y) → NodeClaims (inner_node y) note place
  node_step (Node-F.Number n uns) note place row parts = literal_claims s.frame note.ctype n uns _ (same_side (Node-F.Number n uns)) row.row row.word
  node_step (Node-F.Size w) note place row parts =
      size_claims s.frame note.ctype (type_written w) (size_of s.frame.structs (type_written w)) (size_of s.text.layout (type_written w)) _ (same_side (Node-F.Size w)) row.row row.word
      (ap (λ structs. size_of structs (type_written w)) agrees.structs)
  node_step (Node-F.Name n) note place row parts = name_claims globals s agrees n note place _ (same_side (Node-F.Name n)) row.row row.bare
  node_step (Node-F.Un op.Minus e) note place row parts =
      minus_claims s.frame e.0.note.ctype note.ctype _ _ _ _ _ (λ k. (part_of e.0).value s.text s.variables k) place (e.1.claims parts) (same_side (Node-F.Un op.Minus (view s.frame e.0))) row.row
  node_step (Node-F.Un op.Not e) note place row parts =
      not_claims s.frame e.0.note.ctype note.ctype _ _ _ _ (λ k. (part_of e.0).value s.text s.variables k) place (e.1.claims parts)
  node_step (Node-F.Un o e) note place row parts = no_claims s.frame note.ctype _ _ (same_side (Node-F.Un o (view s.frame e.0)))
  node_step (Node-F.Bin o e f) note place row parts =
      of_types (part_of e.0).ctype (part_of f.0).ctype e.1.parted f.1.parted
    where
      v : ℕ → Expr
      v k = (part_of e.0).value s.text s.variables k

      w : ℕ → Expr
      w k = (part_of f.0).value s.text s.variables k

      of_types : (t u : CType) → t ≡ e.0.note.ctype → u ≡ f.0.note.ctype
          → Claims s.frame note.ctype None None (λ facts. form_after facts note.ctype (step_of o (view s.frame e.0).number (view s.frame f.0).number) (view s.frame e.0) (view s.frame f.0))
          (binary_side s.frame o (view s.frame e.0) (view s.frame f.0)) (λ k. of_operands s.text.layout o t u place (v k) (w (k + (part_of e.0).literals)))
      of_types t u p q =
          subst (λ t. Claims s.frame note.ctype None None (λ facts. form_after facts note.ctype (step_of o (view s.frame e.0).number (view s.frame f.0).number) (view s.frame e.0) (view s.frame f.0))
          (binary_side s.frame o (view s.frame e.0) (view s.frame f.0)) (λ k. of_operands s.text.layout o t u place (v k) (w (k + (part_of e.0).literals)))) (sym p)
          (subst (λ u. Claims s.frame note.ctype None None (λ facts. form_after facts note.ctype (step_of o (view s.frame e.0).number (view s.frame f.0).number) (view s.frame e.0) (view s.frame f.0))
          (binary_side s.frame o (view s.frame e.0) (view s.frame f.0)) (λ k. of_operands s.text.layout o e.0.note.ctype u place (v k) (w (k + (part_of e.0).literals)))) (sym q)
          (binary_claims s e.0.note.ctype f.0.note.ctype note.ctype (view s.frame e.0) (view s.frame f.0) v w place (λ k. k + (part_of e.0).literals) e.1.viewed f.1.viewed
          (e.1.claims parts.0) (f.1.claims parts.1) o (is_null e.0) (is_null f.0) row.row))
  node_step (Node-F.Cast w e) note place row parts =
      cast_claims s.frame (type_written w) e.0.note.ctype note.ctype (part_of e.0).ctype _ _ _ _ _ (λ k. (part_of e.0).value s.text s.variables k) (e.1.claims parts) (same_side (Node-F.Cast w (view s.frame e.0))) row.row.1
  node_step y note place row parts = no_claims s.frame note.ctype _ _ (same_side (viewed_node (inner_node y)))

  -- ---- the induction

  node_by : (x : NotedLayer) (y : Node-F Name Note KeptLimits KeptNode KeptExpr) → inner_node y ≡ x → NodeHolds (roll-Node Name Note x)
  node_by x y is = record {
    claims = λ note place row typed.
        let P : NodeView → NodePart → Type 0 = λ n q. Claims s.frame note.ctype n.number n.variable (n.linear note.ctype) n.side (λ k. q.value note place s.text s.variables k) in
        let there : IsRow globals s (inner_node y) note = subst (λ z. IsRow globals s z note) (node_out x ∙ sym is) row in
        let parts : PartsTyped (inner_node y) = subst PartsTyped (node_out x ∙ sym is) (parts_typed (roll-Node Name Note x) typed) in
        let n_is : view_of_node s.frame (roll-Node Name Note x) ≡ node_view s.frame (viewed_node (inner_node y)) =
        fold-roll-Node Name Note LimitsView NodeView View limits_view (node_view s.frame) expr_view x ∙ ap (λ z. node_view s.frame (viewed_node z)) (sym is) in
        let q_is : part_of_node (roll-Node Name Note x) ≡ node_parts (part_node (inner_node y)) =
        fold-roll-Node Name Note LimitsPart NodePart Part limits_parts node_parts expr_parts x ∙ ap (λ z. node_parts (part_node z)) (sym is) in
        subst (λ n. P n (part_of_node (roll-Node Name Note x))) (sym n_is)
        (subst (λ q. P (node_view s.frame (viewed_node (inner_node y))) q) (sym q_is) (node_step y note place there parts));
  }

  limits_by : (x : Limits-F Name Note NotedLimits NotedNode NotedExpr) (y : Limits-F Name Note KeptLimits KeptNode KeptExpr) → inner_limits y ≡ x → AnyClaims (roll-Limits Name Note x)
  limits_by x y is = record { any = tt }

  expr_by : (x : Expr-F Name Note NotedLimits NotedNode NotedExpr) (y : Expr-F Name Note KeptLimits KeptNode KeptExpr) → inner_expr y ≡ x → ExprHolds (roll-Expr Name Note x)
  expr_by x y is =
      let v_is : view s.frame (roll-Expr Name Note x) ≡ expr_view (viewed_expr (inner_expr y)) =
      fold-roll-Expr Name Note LimitsView NodeView View limits_view (node_view s.frame) expr_view x ∙ ap (λ z. expr_view (viewed_expr z)) (sym is) in
      let q_is : part_of (roll-Expr Name Note x) ≡ expr_parts (part_expr (inner_expr y)) =
      fold-roll-Expr Name Note LimitsPart NodePart Part limits_parts node_parts expr_parts x ∙ ap (λ z. expr_parts (part_expr z)) (sym is) in
      let note_is : y.note ≡ (roll-Expr Name Note x).note = ap (λ (z : Expr-F Name Note NotedLimits NotedNode NotedExpr). z.note) is in
      record {
        viewed = ap (λ (v : View). v.ctype) v_is ∙ ap (λ (n : Note). n.ctype) note_is;
        parted = ap (λ (q : Part). q.ctype) q_is ∙ ap (λ (n : Note). n.ctype) note_is;
        claims = λ typed.
            let P : View → Part → CType → Type 0 = λ v q t. Claims s.frame t v.number v.variable v.form v.side (λ k. q.value s.text s.variables k) in
            let node : NodeHolds y.node.0 = y.node.1 in
            let n_is : y.node.0 ≡ (roll-Expr Name Note x).node = ap (λ (z : Expr-F Name Note NotedLimits NotedNode NotedExpr). z.node) is in
            let row : IsRow globals s (out-Node Name Note y.node.0) y.note =
            subst (λ n. IsRow globals s (out-Node Name Note n) y.note) (sym n_is)
            (subst (λ a. IsRow globals s (out-Node Name Note (roll-Expr Name Note x).node) a) (sym note_is) (every_here-Expr Name Note AnyLimits AnyNode (HasRow globals s) (roll-Expr Name Note x) typed)) in
            let inside : TypedNode y.node.0 = subst TypedNode (sym n_is) (node_typed (roll-Expr Name Note x) typed) in
            subst (λ v. P v (part_of (roll-Expr Name Note x)) (roll-Expr Name Note x).note.ctype) (sym v_is)
            (subst (λ q. P (expr_view (viewed_expr (inner_expr y))) q (roll-Expr Name Note x).note.ctype) (sym q_is)
            (subst (λ t. P (expr_view (viewed_expr (inner_expr y))) (expr_parts (part_expr (inner_expr y))) t) (ap (λ (n : Note). n.ctype) note_is)
            (whole_claims s.frame y.note.ctype (view_of_node s.frame y.node.0).number (view_of_node s.frame y.node.0).variable ((view_of_node s.frame y.node.0).linear y.note.ctype)
            (view_of_node s.frame y.node.0).side (λ k. (part_of_node y.node.0).value y.note y.pos s.text s.variables k) (node.claims y.note y.pos row inside))));
      }

  pub expr_holds : (e : NotedExpr) → ExprHolds e
  expr_holds = ind-Expr Name Note AnyClaims NodeHolds ExprHolds limits_by node_by expr_by

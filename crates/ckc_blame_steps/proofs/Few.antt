-- Each expression in one with few nodes has few values.
use Rattle.std.proofs.Common.{◌≡◌, sym, ap, subst, refl, arith, ◌+◌, ◌<◌, List, [], ◌∷◌, ◌++◌, map}
use Rattle.std.specs.Prelude.{◌^◌, Some, None}
use Rattle.ckc_syntax.specs.declared.tree.Name.{Name}
use Rattle.ckc_syntax.specs.declared.tree.Limits.{Limits-F, map-Limits, roll-Limits, fold-roll-Limits, every_made-Limits}
use Rattle.ckc_syntax.specs.declared.tree.Node.{Node-F, map-Node, roll-Node, fold-roll-Node, every_made-Node}
use Rattle.ckc_syntax.specs.declared.tree.Expr.{Expr-F, map-Expr, ind-Expr, roll-Expr, fold-roll-Expr, every_made-Expr}
use Rattle.ckc_syntax.specs.Inside.{listed, inside_each, inside_limits}
use Rattle.ckc_syntax_limits.specs.Marks.{Mark, is_node, node_marks, expr_marks, marks_of_limits, marks_of_node, marks_of_expr}
use Rattle.ckc_syntax_limits.specs.Small.{how_many}
use Rattle.ckc_typed.specs.declared.typed.Note.{Note}
use Rattle.ckc_typed.specs.Trees.{NotedLimits, NotedNode, NotedExpr, NotedLayer}
use Rattle.ckc_typed_welltyped.specs.Expressions.{AnyLimits, AnyNode}
use Rattle.ckc_blame_sound.specs.ckc_bounds_points.specs.declared.frame.Frame.{Frame}
use Rattle.ckc_blame_sound.specs.ckc_bounds_views.specs.Views.{view}
use Rattle.ckc_blame_sound.proofs.Every.{EachLimits, EachNode, EachExpr}
use Rattle.ckc_blame_steps.specs.Values.{HasFewValues}
use Rattle.ckc_blame_sound.proofs.Tallies.{tally, is_tally, tally-append}
use Rattle.ckc_blame_steps.proofs.Values.{values_are_few}

module _ (frame : Frame) where
  abbrev Q : Expr-F Name Note NotedLimits NotedNode NotedExpr → Type 0
  Q = HasFewValues frame

  -- fewer nodes than there are words
  abbrev IsLow : List Mark → Type 0
  IsLow ms = tally is_node ms + 1 < 2 ^ 32

  halves : (ms ns : List Mark) → IsLow (ms ++ ns) → IsLow ms × IsLow ns
  halves ms ns h = let e = tally-append is_node ms ns in (omega (arith, h, e), omega (arith, h, e))

  record LimitsHold (l : NotedLimits) : Type 0 where
    pub hold : IsLow (marks_of_limits l) → EachLimits Q l

  record NodeHolds (n : NotedNode) : Type 0 where
    pub hold : IsLow (marks_of_node n) → EachNode Q n

  record ExprHolds (e : NotedExpr) : Type 0 where
    pub hold : IsLow (marks_of_expr e) → EachExpr Q e

  abbrev KeptLimits : Type 0
  KeptLimits = (l : NotedLimits) × LimitsHold l

  abbrev KeptNode : Type 0
  KeptNode = (n : NotedNode) × NodeHolds n

  abbrev KeptExpr : Type 0
  KeptExpr = (e : NotedExpr) × ExprHolds e

  abbrev FitLimits : Type 0
  FitLimits = (l : NotedLimits) × EachLimits Q l

  abbrev FitNode : Type 0
  FitNode = (n : NotedNode) × EachNode Q n

  abbrev FitExpr : Type 0
  FitExpr = (e : NotedExpr) × EachExpr Q e

  abbrev Layer : Type 0
  Layer = Limits-F Name Note NotedLimits NotedNode NotedExpr

  abbrev inner_limits : Limits-F Name Note KeptLimits KeptNode KeptExpr → Layer
  inner_limits = map-Limits Name Note KeptLimits KeptNode KeptExpr NotedLimits NotedNode NotedExpr (λ e. e.0) (λ e. e.0) (λ e. e.0)

  abbrev inner_node : Node-F Name Note KeptLimits KeptNode KeptExpr → NotedLayer
  inner_node = map-Node Name Note KeptLimits KeptNode KeptExpr NotedLimits NotedNode NotedExpr (λ e. e.0) (λ e. e.0) (λ e. e.0)

  abbrev inner_expr : Expr-F Name Note KeptLimits KeptNode KeptExpr → Expr-F Name Note NotedLimits NotedNode NotedExpr
  inner_expr = map-Expr Name Note KeptLimits KeptNode KeptExpr NotedLimits NotedNode NotedExpr (λ e. e.0) (λ e. e.0) (λ e. e.0)

  abbrev limits_fit : Limits-F Name Note FitLimits FitNode FitExpr → Layer
  limits_fit = map-Limits Name Note FitLimits FitNode FitExpr NotedLimits NotedNode NotedExpr (λ e. e.0) (λ e. e.0) (λ e. e.0)

  abbrev node_fit : Node-F Name Note FitLimits FitNode FitExpr → NotedLayer
  node_fit = map-Node Name Note FitLimits FitNode FitExpr NotedLimits NotedNode NotedExpr (λ e. e.0) (λ e. e.0) (λ e. e.0)

  abbrev limits_marks : Layer → List Mark
  limits_marks x = inside_limits listed (λ (ms : List Mark). ms) (map-Limits Name Note NotedLimits NotedNode NotedExpr (List Mark) (List Mark) (List Mark) marks_of_limits marks_of_node marks_of_expr x)

  abbrev layer_marks : NotedLayer → List Mark
  layer_marks x = node_marks (map-Node Name Note NotedLimits NotedNode NotedExpr (List Mark) (List Mark) (List Mark) marks_of_limits marks_of_node marks_of_expr x)

  abbrev MadeLimits : Layer → Type 0
  MadeLimits x = (z : Limits-F Name Note FitLimits FitNode FitExpr) × (limits_fit z ≡ x)

  abbrev MadeNode : NotedLayer → Type 0
  MadeNode x = (z : Node-F Name Note FitLimits FitNode FitExpr) × (node_fit z ≡ x)

  abbrev one : (k : KeptExpr) → IsLow (marks_of_expr k.0) → FitExpr
  one k h = (k.0, k.1.hold h)

  abbrev bounds : (l : KeptLimits) → IsLow (marks_of_limits l.0) → FitLimits
  bounds l h = (l.0, l.1.hold h)

  limits_step : (y : Limits-F Name Note KeptLimits KeptNode KeptExpr) → IsLow (limits_marks (inner_limits y)) → MadeLimits (inner_limits y)
  limits_step (Limits-F.Count k at) h = (Limits-F.Count (one k h) at, refl)
  limits_step (Limits-F.ByteCount k at) h = (Limits-F.ByteCount (one k h) at, refl)
  limits_step (Limits-F.Between k j at) h = let b = halves (marks_of_expr k.0) (marks_of_expr j.0) h in (Limits-F.Between (one k b.0) (one j b.1) at, refl)
  limits_step (Limits-F.Unknown at) h = (Limits-F.Unknown at, refl)

  abbrev firsts : List KeptExpr → List NotedExpr
  firsts ks = map (λ (k : KeptExpr). k.0) ks

  all_step : (ks : List KeptExpr) → IsLow (inside_each listed (λ (ms : List Mark). ms) (map (λ (e : NotedExpr). marks_of_expr e) (firsts ks))) → (zs : List FitExpr) × (map (λ (e : FitExpr). e.0) zs ≡ firsts ks)
  all_step [] h = ([], refl)
  all_step (k ∷ ks) h =
      let b = halves (marks_of_expr k.0) (inside_each listed (λ (ms : List Mark). ms) (map (λ (e : NotedExpr). marks_of_expr e) (firsts ks))) h in
      let r = all_step ks b.1 in
      (one k b.0 ∷ r.0, ap (λ es. k.0 ∷ es) r.1)

  node_step : (y : Node-F Name Note KeptLimits KeptNode KeptExpr) → IsLow (layer_marks (inner_node y)) → MadeNode (inner_node y)
  node_step (Node-F.Number n u) h = (Node-F.Number n u, refl)
  node_step (Node-F.Text bytes) h = (Node-F.Text bytes, refl)
  node_step Node-F.Null h = (Node-F.Null, refl)
  node_step (Node-F.Name n) h = (Node-F.Name n, refl)
  node_step (Node-F.Un o k) h = (Node-F.Un o (one k h), refl)
  node_step (Node-F.Bin o k j) h = let b = halves (marks_of_expr k.0) (marks_of_expr j.0) h in (Node-F.Bin o (one k b.0) (one j b.1), refl)
  node_step (Node-F.Pick k j i) h =
      let b = halves (marks_of_expr k.0 ++ marks_of_expr j.0) (marks_of_expr i.0) h in
      let c = halves (marks_of_expr k.0) (marks_of_expr j.0) b.0 in
      (Node-F.Pick (one k c.0) (one j c.1) (one i b.1), refl)
  node_step (Node-F.Index k j) h = let b = halves (marks_of_expr k.0) (marks_of_expr j.0) h in (Node-F.Index (one k b.0) (one j b.1), refl)
  node_step (Node-F.Dot k n at) h = (Node-F.Dot (one k h) n at, refl)
  node_step (Node-F.Arrow k n at) h = (Node-F.Arrow (one k h) n at, refl)
  node_step (Node-F.Cast t k) h = (Node-F.Cast t (one k h), refl)
  node_step (Node-F.Size t) h = (Node-F.Size t, refl)
  node_step (Node-F.Trusted t k None) h = let b = halves (marks_of_expr k.0) [] h in (Node-F.Trusted t (one k b.0) None, refl)
  node_step (Node-F.Trusted t k (Some l)) h = let b = halves (marks_of_expr k.0) (marks_of_limits l.0) h in (Node-F.Trusted t (one k b.0) (Some (bounds l b.1)), refl)
  node_step (Node-F.Tested t k None) h = let b = halves (marks_of_expr k.0) [] h in (Node-F.Tested t (one k b.0) None, refl)
  node_step (Node-F.Tested t k (Some l)) h = let b = halves (marks_of_expr k.0) (marks_of_limits l.0) h in (Node-F.Tested t (one k b.0) (Some (bounds l b.1)), refl)
  node_step (Node-F.Call n ks) h = let r = all_step ks h in (Node-F.Call n r.0, ap (λ es. Node-F.Call n es) r.1)
  node_step (Node-F.Calloc t k u) h = (Node-F.Calloc t (one k h) u, refl)

  limits_by : (x : Layer) (y : Limits-F Name Note KeptLimits KeptNode KeptExpr) → inner_limits y ≡ x → LimitsHold (roll-Limits Name Note x)
  limits_by x y is = record {
    hold = λ h.
        let m = limits_step y (subst (λ z. IsLow (limits_marks z)) (sym is) (subst IsLow (fold-roll-Limits Name Note (List Mark) (List Mark) (List Mark) (inside_limits listed (λ e. e)) node_marks expr_marks x) h)) in
        subst (λ z. EachLimits Q (roll-Limits Name Note z)) is (every_made-Limits Name Note AnyLimits AnyNode Q (inner_limits y) m.0 m.1 tt);
  }

  node_by : (x : NotedLayer) (y : Node-F Name Note KeptLimits KeptNode KeptExpr) → inner_node y ≡ x → NodeHolds (roll-Node Name Note x)
  node_by x y is = record {
    hold = λ h.
        let m = node_step y (subst (λ z. IsLow (layer_marks z)) (sym is) (subst IsLow (fold-roll-Node Name Note (List Mark) (List Mark) (List Mark) (inside_limits listed (λ e. e)) node_marks expr_marks x) h)) in
        subst (λ z. EachNode Q (roll-Node Name Note z)) is (every_made-Node Name Note AnyLimits AnyNode Q (inner_node y) m.0 m.1 tt);
  }

  expr_low : (e : NotedExpr) → IsLow (marks_of_expr e) → IsLow (marks_of_node e.node)
  expr_low e h =
      let same : tally is_node (marks_of_expr e) ≡ 1 + tally is_node (marks_of_node e.node) =
      ap (tally is_node) (fold-roll-Expr Name Note (List Mark) (List Mark) (List Mark) (inside_limits listed (λ e. e)) node_marks expr_marks (record { node = e.node; pos = e.pos; note = e.note })) in
      omega (arith, h, same)

  own_few : (e : NotedExpr) → IsLow (marks_of_expr e) → (view frame e).values + 1 < 2 ^ 32
  own_few e h = omega (arith, h, values_are_few frame e, is_tally is_node (marks_of_expr e))

  expr_is : (e : NotedExpr) → NodeHolds e.node → ExprHolds e
  expr_is e n = record {
    hold = λ h.
        every_made-Expr Name Note AnyLimits AnyNode Q (record { node = e.node; pos = e.pos; note = e.note })
        (record { node = (e.node, n.hold (expr_low e h)); pos = e.pos; note = e.note }) refl (own_few e h);
  }

  expr_by : (x : Expr-F Name Note NotedLimits NotedNode NotedExpr) (y : Expr-F Name Note KeptLimits KeptNode KeptExpr) → inner_expr y ≡ x → ExprHolds (roll-Expr Name Note x)
  expr_by x y is = subst (λ z. ExprHolds (roll-Expr Name Note z)) is (expr_is (roll-Expr Name Note (inner_expr y)) y.node.1)

  exprs_hold : (e : NotedExpr) → ExprHolds e
  exprs_hold = ind-Expr Name Note LimitsHold NodeHolds ExprHolds limits_by node_by expr_by

pub each_has_few : (frame : Frame) (e : NotedExpr) → how_many is_node (marks_of_expr e) + 1 < 2 ^ 32 → EachExpr (HasFewValues frame) e
each_has_few frame e h = (exprs_hold frame e).hold (omega (arith, h, is_tally is_node (marks_of_expr e)))

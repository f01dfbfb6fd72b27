-- An expression needs at most as many fresh variables as it has nodes.
use Rattle.std.proofs.Common.{◌≡◌, sym, subst, arith, ◌+◌, ◌≤◌, Bool, true, false, List, [], ◌∷◌, ◌++◌, map, length, length-append}
use Rattle.std.specs.Prelude.{◌==◌, if◌then◌else◌, Option, Some, None}
use Rattle.ckc_types.specs.declared.types.CType.{CType}
use Rattle.ckc_syntax.specs.declared.tree.Name.{Name}
use Rattle.ckc_syntax.specs.declared.tree.Limits.{Limits-F, map-Limits, roll-Limits, fold-roll-Limits}
use Rattle.ckc_syntax.specs.declared.tree.Node.{Node-F, map-Node, roll-Node, fold-roll-Node}
use Rattle.ckc_syntax.specs.declared.tree.Expr.{Expr-F, map-Expr, ind-Expr, roll-Expr, fold-roll-Expr}
use Rattle.ckc_syntax.specs.Inside.{listed, inside_each, inside_limits}
use Rattle.ckc_syntax_limits.specs.Marks.{Mark, is_node, node_marks, expr_marks, marks_of_limits, marks_of_node, marks_of_expr}
use Rattle.ckc_typed.specs.declared.typed.Note.{Note}
use Rattle.ckc_typed.specs.Trees.{NotedLimits, NotedNode, NotedExpr, NotedLayer}
use Rattle.ckc_blame_sound.specs.ckc_bounds_points.specs.declared.frame.Frame.{Frame}
use Rattle.ckc_blame_sound.specs.ckc_bounds_points.specs.Flow.{State}
use Rattle.ckc_blame_sound.specs.ckc_bounds_views.specs.Conditions.{right_point}
use Rattle.ckc_blame_sound.specs.ckc_bounds_views.specs.Fresh.{own_fresh, all_fresh, fresh_of_node}
use Rattle.ckc_blame_sound.specs.ckc_bounds_views.specs.Parts.{LimitsView, NodeView, View, NodeOfViews, LimitsOfViews, with_last}
use Rattle.ckc_blame_sound.specs.ckc_bounds_views.specs.Views.{limits_fresh, limits_view, node_view, expr_view, view_of_limits, view_of_node, view}
use Rattle.ckc_blame_sound.specs.Few.{nodes_of}
use Rattle.ckc_blame_sound.proofs.Tallies.{tally, is_tally, tally-append}

-- fresh variables are no more than the nodes among marks
record IsFew (ts : List CType) (ms : List Mark) : Type 0 where
  pub few : length ts ≤ tally is_node ms

none_few : (ms : List Mark) → IsFew [] ms
none_few ms = record { few = omega arith }

both : (ts us : List CType) (ms ns : List Mark) → IsFew ts ms → IsFew us ns → IsFew (ts ++ us) (ms ++ ns)
both ts us ms ns h g =
    let p = h.few in
    let q = g.few in
    record { few = omega (arith, p, q, length-append ts us, tally-append is_node ms ns) }

maybe : (b : Bool) (ts : List CType) (ms : List Mark) → IsFew ts ms → IsFew (if b then [] else ts) ms
maybe true ts ms h = none_few ms
maybe false ts ms h = h

last : (ts : List CType) (o : Option CType) (ms : List Mark) → IsFew ts ms → length (with_last ts o) ≤ 1 + tally is_node ms
last ts None ms h = let p = h.few in omega (arith, p)
last ts (Some t) ms h = let p = h.few in omega (arith, p, length-append ts (t ∷ []))

module _ (frame : Frame) where
  abbrev LimitsFew : NotedLimits → Type 0
  LimitsFew l = (at : State) → IsFew ((view_of_limits frame l).fresh at) (marks_of_limits l)

  abbrev NodeFew : NotedNode → Type 0
  NodeFew n = (at : State) → IsFew ((view_of_node frame n).fresh at) (marks_of_node n)

  abbrev ExprFew : NotedExpr → Type 0
  ExprFew e = (at : State) → IsFew ((view frame e).fresh at) (marks_of_expr e)

  abbrev KeptLimits : Type 0
  KeptLimits = (l : NotedLimits) × LimitsFew l

  abbrev KeptNode : Type 0
  KeptNode = (n : NotedNode) × NodeFew n

  abbrev KeptExpr : Type 0
  KeptExpr = (e : NotedExpr) × ExprFew e

  abbrev Layer : Type 0
  Layer = Limits-F Name Note NotedLimits NotedNode NotedExpr

  abbrev inner_limits : Limits-F Name Note KeptLimits KeptNode KeptExpr → Layer
  inner_limits = map-Limits Name Note KeptLimits KeptNode KeptExpr NotedLimits NotedNode NotedExpr (λ e. e.0) (λ e. e.0) (λ e. e.0)

  abbrev inner_node : Node-F Name Note KeptLimits KeptNode KeptExpr → NotedLayer
  inner_node = map-Node Name Note KeptLimits KeptNode KeptExpr NotedLimits NotedNode NotedExpr (λ e. e.0) (λ e. e.0) (λ e. e.0)

  abbrev inner_expr : Expr-F Name Note KeptLimits KeptNode KeptExpr → Expr-F Name Note NotedLimits NotedNode NotedExpr
  inner_expr = map-Expr Name Note KeptLimits KeptNode KeptExpr NotedLimits NotedNode NotedExpr (λ e. e.0) (λ e. e.0) (λ e. e.0)

  abbrev limits_views : Layer → LimitsOfViews
  limits_views = map-Limits Name Note NotedLimits NotedNode NotedExpr LimitsView NodeView View (view_of_limits frame) (view_of_node frame) (view frame)

  abbrev node_views : NotedLayer → NodeOfViews
  node_views = map-Node Name Note NotedLimits NotedNode NotedExpr LimitsView NodeView View (view_of_limits frame) (view_of_node frame) (view frame)

  abbrev limits_marks : Layer → Limits-F Name Note (List Mark) (List Mark) (List Mark)
  limits_marks = map-Limits Name Note NotedLimits NotedNode NotedExpr (List Mark) (List Mark) (List Mark) marks_of_limits marks_of_node marks_of_expr

  abbrev marks_in : NotedLayer → Node-F Name Note (List Mark) (List Mark) (List Mark)
  marks_in = map-Node Name Note NotedLimits NotedNode NotedExpr (List Mark) (List Mark) (List Mark) marks_of_limits marks_of_node marks_of_expr

  limits_step : (y : Limits-F Name Note KeptLimits KeptNode KeptExpr) (at : State) → IsFew (limits_fresh (limits_views (inner_limits y)) at) (inside_limits listed (λ (ms : List Mark). ms) (limits_marks (inner_limits y)))
  limits_step (Limits-F.Count k pos) at = k.1 at
  limits_step (Limits-F.ByteCount k pos) at = k.1 at
  limits_step (Limits-F.Between k l pos) at = both ((view frame k.0).fresh at) ((view frame l.0).fresh at) (marks_of_expr k.0) (marks_of_expr l.0) (k.1 at) (l.1 at)
  limits_step (Limits-F.Unknown pos) at = none_few []

  arguments : (ks : List KeptExpr) (at : State)
      → IsFew (all_fresh (map (view frame) (map (λ (k : KeptExpr). k.0) ks)) at) (inside_each listed (λ (ms : List Mark). ms) (map (λ (e : NotedExpr). marks_of_expr e) (map (λ (k : KeptExpr). k.0) ks)))
  arguments [] at = none_few []
  arguments (k ∷ ks) at =
      both ((view frame k.0).fresh at) (all_fresh (map (view frame) (map (λ (k : KeptExpr). k.0) ks)) at) (marks_of_expr k.0)
      (inside_each listed (λ (ms : List Mark). ms) (map (λ (e : NotedExpr). marks_of_expr e) (map (λ (k : KeptExpr). k.0) ks))) (k.1 at) (arguments ks at)

  node_step : (y : Node-F Name Note KeptLimits KeptNode KeptExpr) (at : State) → IsFew (fresh_of_node (node_views (inner_node y)) at) (node_marks (marks_in (inner_node y)))
  node_step (Node-F.Number n u) at = none_few _
  node_step (Node-F.Text bytes) at = none_few _
  node_step Node-F.Null at = none_few _
  node_step (Node-F.Name n) at = none_few _
  node_step (Node-F.Un o k) at = k.1 at
  node_step (Node-F.Bin o k j) at =
      both ((view frame k.0).fresh at) (if (view frame j.0).most_fresh == 0 then [] else (view frame j.0).fresh (right_point o (view frame k.0) at)) (marks_of_expr k.0) (marks_of_expr j.0) (k.1 at)
      (maybe ((view frame j.0).most_fresh == 0) ((view frame j.0).fresh (right_point o (view frame k.0) at)) (marks_of_expr j.0) (j.1 (right_point o (view frame k.0) at)))
  node_step (Node-F.Pick k j i) at =
      both ((view frame k.0).fresh at ++ (view frame j.0).fresh at) ((view frame i.0).fresh at) (marks_of_expr k.0 ++ marks_of_expr j.0) (marks_of_expr i.0)
      (both ((view frame k.0).fresh at) ((view frame j.0).fresh at) (marks_of_expr k.0) (marks_of_expr j.0) (k.1 at) (j.1 at)) (i.1 at)
  node_step (Node-F.Index k j) at = both ((view frame k.0).fresh at) ((view frame j.0).fresh at) (marks_of_expr k.0) (marks_of_expr j.0) (k.1 at) (j.1 at)
  node_step (Node-F.Dot k n pos) at = k.1 at
  node_step (Node-F.Arrow k n pos) at = k.1 at
  node_step (Node-F.Cast t k) at = k.1 at
  node_step (Node-F.Size t) at = none_few _
  node_step (Node-F.Trusted t k None) at = both ((view frame k.0).fresh at) [] (marks_of_expr k.0) [] (k.1 at) (none_few [])
  node_step (Node-F.Trusted t k (Some l)) at = both ((view frame k.0).fresh at) ((view_of_limits frame l.0).fresh at) (marks_of_expr k.0) (marks_of_limits l.0) (k.1 at) (l.1 at)
  node_step (Node-F.Tested t k None) at = both ((view frame k.0).fresh at) [] (marks_of_expr k.0) [] (k.1 at) (none_few [])
  node_step (Node-F.Tested t k (Some l)) at = both ((view frame k.0).fresh at) ((view_of_limits frame l.0).fresh at) (marks_of_expr k.0) (marks_of_limits l.0) (k.1 at) (l.1 at)
  node_step (Node-F.Call n ks) at = arguments ks at
  node_step (Node-F.Calloc t k u) at = k.1 at

  limits_by : (x : Layer) (y : Limits-F Name Note KeptLimits KeptNode KeptExpr) → inner_limits y ≡ x → LimitsFew (roll-Limits Name Note x)
  limits_by x y is at =
      subst (λ (v : LimitsView). IsFew (v.fresh at) (marks_of_limits (roll-Limits Name Note x))) (sym (fold-roll-Limits Name Note LimitsView NodeView View limits_view (node_view frame) expr_view x))
      (subst (IsFew (limits_fresh (limits_views x) at)) (sym (fold-roll-Limits Name Note (List Mark) (List Mark) (List Mark) (inside_limits listed (λ e. e)) node_marks expr_marks x))
      (subst (λ z. IsFew (limits_fresh (limits_views z) at) (inside_limits listed (λ (ms : List Mark). ms) (limits_marks z))) is (limits_step y at)))

  node_by : (x : NotedLayer) (y : Node-F Name Note KeptLimits KeptNode KeptExpr) → inner_node y ≡ x → NodeFew (roll-Node Name Note x)
  node_by x y is at =
      subst (λ (v : NodeView). IsFew (v.fresh at) (marks_of_node (roll-Node Name Note x))) (sym (fold-roll-Node Name Note LimitsView NodeView View limits_view (node_view frame) expr_view x))
      (subst (IsFew (fresh_of_node (node_views x) at)) (sym (fold-roll-Node Name Note (List Mark) (List Mark) (List Mark) (inside_limits listed (λ e. e)) node_marks expr_marks x))
      (subst (λ z. IsFew (fresh_of_node (node_views z) at) (node_marks (marks_in z))) is (node_step y at)))

  expr_is : (e : NotedExpr) → NodeFew e.node → ExprFew e
  expr_is e h at =
      let S : Expr-F Name Note NotedLimits NotedNode NotedExpr = record { node = e.node; pos = e.pos; note = e.note } in
      subst (λ (v : View). IsFew (v.fresh at) (marks_of_expr e)) (sym (fold-roll-Expr Name Note LimitsView NodeView View limits_view (node_view frame) expr_view S))
      (subst (IsFew (with_last ((view_of_node frame e.node).fresh at) (own_fresh e.note.ctype (view_of_node frame e.node) at.facts)))
      (sym (fold-roll-Expr Name Note (List Mark) (List Mark) (List Mark) (inside_limits listed (λ e. e)) node_marks expr_marks S))
      (record { few = last ((view_of_node frame e.node).fresh at) (own_fresh e.note.ctype (view_of_node frame e.node) at.facts) (marks_of_node e.node) (h at) }))

  expr_by : (x : Expr-F Name Note NotedLimits NotedNode NotedExpr) (y : Expr-F Name Note KeptLimits KeptNode KeptExpr) → inner_expr y ≡ x → ExprFew (roll-Expr Name Note x)
  expr_by x y is = subst (λ z. ExprFew (roll-Expr Name Note z)) is (expr_is (roll-Expr Name Note (inner_expr y)) y.node.1)

  fresh_few : (e : NotedExpr) → ExprFew e
  fresh_few = ind-Expr Name Note LimitsFew NodeFew ExprFew limits_by node_by expr_by

pub fresh_are_few : (frame : Frame) (e : NotedExpr) (at : State) → length ((view frame e).fresh at) ≤ nodes_of e
fresh_are_few frame e at =
    let few = (fresh_few frame e at).few in
    omega (arith, few, is_tally is_node (marks_of_expr e))

-- An expression has at most as many values as nodes.
use Rattle.std.proofs.Common.{◌≡◌, sym, subst, arith, ℕ, ◌+◌, ◌≤◌, Bool, true, false, List, [], ◌∷◌, ◌++◌, append_assoc, map}
use Rattle.std.specs.Prelude.{◌&&◌, if◌then◌else◌, Some, None}
use Rattle.ckc_syntax.specs.declared.tree.Name.{Name}
use Rattle.ckc_syntax.specs.declared.tree.Limits.{Limits-F, map-Limits, roll-Limits, fold-roll-Limits}
use Rattle.ckc_syntax.specs.declared.tree.Node.{Node-F, map-Node, roll-Node, fold-roll-Node}
use Rattle.ckc_syntax.specs.declared.tree.Expr.{Expr-F, map-Expr, ind-Expr, roll-Expr, fold-roll-Expr}
use Rattle.ckc_syntax.specs.Inside.{listed, inside_each, inside_limits}
use Rattle.ckc_syntax_limits.specs.Marks.{Mark, is_node, node_marks, expr_marks, marks_of_limits, marks_of_node, marks_of_expr}
use Rattle.ckc_syntax_limits.specs.Small.{how_many}
use Rattle.ckc_typed.specs.declared.typed.Note.{Note}
use Rattle.ckc_typed.specs.Trees.{NotedLimits, NotedNode, NotedExpr, NotedLayer}
use Rattle.ckc_typed.specs.Types.{is_pointer}
use Rattle.ckc_blame_sound.specs.ckc_bounds_points.specs.declared.frame.Frame.{Frame}
use Rattle.ckc_blame_sound.specs.ckc_bounds_views.specs.Parts.{LimitsView, NodeView, View, NodeOfViews, LimitsOfViews, capped}
use Rattle.ckc_blame_sound.specs.ckc_bounds_views.specs.Places.{values_after, values_of_node, with_own}
use Rattle.ckc_blame_sound.specs.ckc_bounds_views.specs.Views.{limits_values, limits_view, node_view, expr_view, view_of_limits, view_of_node, view}
use Rattle.ckc_blame_sound.proofs.Tallies.{tally, is_tally, tally-append}

-- a capped sum is at most the sum
capped_most : (a b m n : ℕ) → a ≤ m → b ≤ n → capped a b ≤ m + n
capped_most a b m n p q = omega (arith, p, q)

-- values are no more than the nodes among marks
record IsFew (n : ℕ) (ms : List Mark) : Type 0 where
  pub few : n ≤ tally is_node ms

zero_few : (ms : List Mark) → IsFew 0 ms
zero_few ms = record { few = omega arith }

both : (a b : ℕ) (ms ns : List Mark) → IsFew a ms → IsFew b ns → IsFew (capped a b) (ms ++ ns)
both a b ms ns h g =
    let p = h.few in
    let q = g.few in
    record { few = omega (arith, capped_most a b (tally is_node ms) (tally is_node ns) p q, tally-append is_node ms ns) }

module _ (frame : Frame) where
  abbrev LimitsFew : NotedLimits → Type 0
  LimitsFew l = IsFew (view_of_limits frame l).values (marks_of_limits l)

  abbrev NodeFew : NotedNode → Type 0
  NodeFew n = IsFew (view_of_node frame n).values (marks_of_node n)

  abbrev ExprFew : NotedExpr → Type 0
  ExprFew e = IsFew (view frame e).values (marks_of_expr e)

  abbrev KeptLimits : Type 0
  KeptLimits = (l : NotedLimits) × LimitsFew l

  abbrev KeptNode : Type 0
  KeptNode = (n : NotedNode) × NodeFew n

  abbrev KeptExpr : Type 0
  KeptExpr = (e : NotedExpr) × ExprFew e

  abbrev Layer : Type 0
  Layer = Limits-F Name Note NotedLimits NotedNode NotedExpr

  abbrev inner_limits : Limits-F Name Note KeptLimits KeptNode KeptExpr → Layer
  inner_limits = map-Limits Name Note KeptLimits KeptNode KeptExpr NotedLimits NotedNode NotedExpr (λ e. e.0) (λ e. e.0) (λ e. e.0)

  abbrev inner_node : Node-F Name Note KeptLimits KeptNode KeptExpr → NotedLayer
  inner_node = map-Node Name Note KeptLimits KeptNode KeptExpr NotedLimits NotedNode NotedExpr (λ e. e.0) (λ e. e.0) (λ e. e.0)

  abbrev inner_expr : Expr-F Name Note KeptLimits KeptNode KeptExpr → Expr-F Name Note NotedLimits NotedNode NotedExpr
  inner_expr = map-Expr Name Note KeptLimits KeptNode KeptExpr NotedLimits NotedNode NotedExpr (λ e. e.0) (λ e. e.0) (λ e. e.0)

  abbrev limits_views : Layer → LimitsOfViews
  limits_views = map-Limits Name Note NotedLimits NotedNode NotedExpr LimitsView NodeView View (view_of_limits frame) (view_of_node frame) (view frame)

  abbrev node_views : NotedLayer → NodeOfViews
  node_views = map-Node Name Note NotedLimits NotedNode NotedExpr LimitsView NodeView View (view_of_limits frame) (view_of_node frame) (view frame)

  abbrev limits_marks : Layer → Limits-F Name Note (List Mark) (List Mark) (List Mark)
  limits_marks = map-Limits Name Note NotedLimits NotedNode NotedExpr (List Mark) (List Mark) (List Mark) marks_of_limits marks_of_node marks_of_expr

  abbrev marks_in : NotedLayer → Node-F Name Note (List Mark) (List Mark) (List Mark)
  marks_in = map-Node Name Note NotedLimits NotedNode NotedExpr (List Mark) (List Mark) (List Mark) marks_of_limits marks_of_node marks_of_expr

  limits_step : (y : Limits-F Name Note KeptLimits KeptNode KeptExpr) → IsFew (limits_values (limits_views (inner_limits y))) (inside_limits listed (λ (ms : List Mark). ms) (limits_marks (inner_limits y)))
  limits_step (Limits-F.Count k at) = k.1
  limits_step (Limits-F.ByteCount k at) = k.1
  limits_step (Limits-F.Between k l at) = both (view frame k.0).values (view frame l.0).values (marks_of_expr k.0) (marks_of_expr l.0) k.1 l.1
  limits_step (Limits-F.Unknown at) = zero_few []

  arguments : (n : ℕ) (front : List Mark) (ks : List KeptExpr) → IsFew n front
      → IsFew (values_after n (map (view frame) (map (λ (k : KeptExpr). k.0) ks))) (front ++ inside_each listed (λ (ms : List Mark). ms) (map (λ (e : NotedExpr). marks_of_expr e) (map (λ (k : KeptExpr). k.0) ks)))
  arguments n front [] h = record { few = (let p = h.few in omega (arith, tally-append is_node front [], p)) }
  arguments n front (k ∷ ks) h =
      subst (IsFew (values_after (capped n (view frame k.0).values) (map (view frame) (map (λ (k : KeptExpr). k.0) ks))))
      (append_assoc front (marks_of_expr k.0) (inside_each listed (λ (ms : List Mark). ms) (map (λ (e : NotedExpr). marks_of_expr e) (map (λ (k : KeptExpr). k.0) ks))))
      (arguments (capped n (view frame k.0).values) (front ++ marks_of_expr k.0) ks (both n (view frame k.0).values front (marks_of_expr k.0) h k.1))

  more_few : (n : ℕ) (ms : List Mark) → IsFew n ms → IsFew (capped n 0) (ms ++ [])
  more_few n ms h = both n 0 ms [] h (zero_few [])

  node_step : (y : Node-F Name Note KeptLimits KeptNode KeptExpr) → IsFew (values_of_node (node_views (inner_node y))) (node_marks (marks_in (inner_node y)))
  node_step (Node-F.Number n u) = zero_few _
  node_step (Node-F.Text bytes) = zero_few _
  node_step Node-F.Null = zero_few _
  node_step (Node-F.Name n) = zero_few _
  node_step (Node-F.Un o k) = k.1
  node_step (Node-F.Bin o k j) = both (view frame k.0).values (view frame j.0).values (marks_of_expr k.0) (marks_of_expr j.0) k.1 j.1
  node_step (Node-F.Pick k j i) =
      both (capped (view frame k.0).values (view frame j.0).values) (view frame i.0).values (marks_of_expr k.0 ++ marks_of_expr j.0) (marks_of_expr i.0)
      (both (view frame k.0).values (view frame j.0).values (marks_of_expr k.0) (marks_of_expr j.0) k.1 j.1) i.1
  node_step (Node-F.Index k j) = both (view frame k.0).values (view frame j.0).values (marks_of_expr k.0) (marks_of_expr j.0) k.1 j.1
  node_step (Node-F.Dot k n at) = k.1
  node_step (Node-F.Arrow k n at) = k.1
  node_step (Node-F.Cast t k) = k.1
  node_step (Node-F.Size t) = zero_few _
  node_step (Node-F.Trusted t k None) = more_few (view frame k.0).values (marks_of_expr k.0) k.1
  node_step (Node-F.Trusted t k (Some l)) = both (view frame k.0).values (view_of_limits frame l.0).values (marks_of_expr k.0) (marks_of_limits l.0) k.1 l.1
  node_step (Node-F.Tested t k None) = more_few (view frame k.0).values (marks_of_expr k.0) k.1
  node_step (Node-F.Tested t k (Some l)) = both (view frame k.0).values (view_of_limits frame l.0).values (marks_of_expr k.0) (marks_of_limits l.0) k.1 l.1
  node_step (Node-F.Call n ks) = arguments 0 [] ks (zero_few [])
  node_step (Node-F.Calloc t k u) = k.1

  limits_by : (x : Layer) (y : Limits-F Name Note KeptLimits KeptNode KeptExpr) → inner_limits y ≡ x → LimitsFew (roll-Limits Name Note x)
  limits_by x y is =
      subst (λ (v : LimitsView). IsFew v.values (marks_of_limits (roll-Limits Name Note x))) (sym (fold-roll-Limits Name Note LimitsView NodeView View limits_view (node_view frame) expr_view x))
      (subst (IsFew (limits_values (limits_views x))) (sym (fold-roll-Limits Name Note (List Mark) (List Mark) (List Mark) (inside_limits listed (λ e. e)) node_marks expr_marks x))
      (subst (λ z. IsFew (limits_values (limits_views z)) (inside_limits listed (λ (ms : List Mark). ms) (limits_marks z))) is (limits_step y)))

  node_by : (x : NotedLayer) (y : Node-F Name Note KeptLimits KeptNode KeptExpr) → inner_node y ≡ x → NodeFew (roll-Node Name Note x)
  node_by x y is =
      subst (λ (v : NodeView). IsFew v.values (marks_of_node (roll-Node Name Note x))) (sym (fold-roll-Node Name Note LimitsView NodeView View limits_view (node_view frame) expr_view x))
      (subst (IsFew (values_of_node (node_views x))) (sym (fold-roll-Node Name Note (List Mark) (List Mark) (List Mark) (inside_limits listed (λ e. e)) node_marks expr_marks x))
      (subst (λ z. IsFew (values_of_node (node_views z)) (node_marks (marks_in z))) is (node_step y)))

  own_few : (b : Bool) (n : ℕ) (ms : List Mark) → n ≤ tally is_node ms → (if b then capped n 1 else n) ≤ 1 + tally is_node ms
  own_few true n ms h = omega (arith, h)
  own_few false n ms h = omega (arith, h)

  expr_is : (e : NotedExpr) → NodeFew e.node → ExprFew e
  expr_is e h =
      let S : Expr-F Name Note NotedLimits NotedNode NotedExpr = record { node = e.node; pos = e.pos; note = e.note } in
      subst (λ (v : View). IsFew v.values (marks_of_expr e)) (sym (fold-roll-Expr Name Note LimitsView NodeView View limits_view (node_view frame) expr_view S))
      (subst (IsFew (with_own e.note.ctype (view_of_node frame e.node))) (sym (fold-roll-Expr Name Note (List Mark) (List Mark) (List Mark) (inside_limits listed (λ e. e)) node_marks expr_marks S))
      (record { few = own_few (is_pointer e.note.ctype && (view_of_node frame e.node).stands_alone) (view_of_node frame e.node).values (marks_of_node e.node) h.few }))

  expr_by : (x : Expr-F Name Note NotedLimits NotedNode NotedExpr) (y : Expr-F Name Note KeptLimits KeptNode KeptExpr) → inner_expr y ≡ x → ExprFew (roll-Expr Name Note x)
  expr_by x y is = subst (λ z. ExprFew (roll-Expr Name Note z)) is (expr_is (roll-Expr Name Note (inner_expr y)) y.node.1)

  values_few : (e : NotedExpr) → ExprFew e
  values_few = ind-Expr Name Note LimitsFew NodeFew ExprFew limits_by node_by expr_by

pub values_are_few : (frame : Frame) (e : NotedExpr) → (view frame e).values ≤ how_many is_node (marks_of_expr e)
values_are_few frame e =
    let few = (values_few frame e).few in
    omega (arith, few, is_tally is_node (marks_of_expr e))

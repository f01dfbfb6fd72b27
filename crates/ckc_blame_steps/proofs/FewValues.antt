-- If an expression has few values, so has each expression in it.
use Rattle.std.proofs.Common.{◌≡◌, ap, subst, ℕ, ◌+◌, ◌<◌, ◌^◌, Bool, true, false, List, [], ◌∷◌, map, arith}
use Rattle.std.specs.Prelude.{◌&&◌, if◌then◌else◌, Some, None}
use Rattle.ckc_syntax.specs.declared.tree.Name.{Name}
use Rattle.ckc_syntax.specs.declared.tree.Limits.{Limits-F, map-Limits, out-Limits, fold_out-Limits}
use Rattle.ckc_syntax.specs.declared.tree.Node.{Node-F, map-Node, out-Node, fold_out-Node}
use Rattle.ckc_syntax.specs.declared.tree.Expr.{fold-roll-Expr}
use Rattle.ckc_typed.specs.declared.typed.Note.{Note}
use Rattle.ckc_typed.specs.Trees.{NotedLimits, NotedNode, NotedExpr, NotedLayer}
use Rattle.ckc_typed.specs.Types.{is_pointer}
use Rattle.ckc_blame_sound.specs.ckc_bounds_points.specs.declared.frame.Frame.{Frame}
use Rattle.ckc_blame_sound.specs.ckc_bounds_views.specs.Parts.{LimitsView, NodeView, View, NodeOfViews, LimitsOfViews, capped}
use Rattle.ckc_blame_sound.specs.ckc_bounds_views.specs.Places.{values_after, values_of_node, with_own}
use Rattle.ckc_blame_sound.specs.ckc_bounds_views.specs.Views.{limits_values, limits_view, node_view, expr_view, view_of_limits, view_of_node, view}
use Rattle.ckc_blame_sound.proofs.Every.{LimitsLayer, ExprLayer, EachExpr}
use Rattle.ckc_blame_steps.proofs.Down.{layer, AllDown, DownLimits, Down, each_down}

-- a count is few if one more is a word
abbrev pub IsFew : ℕ → Type 0
IsFew n = n + 1 < 2 ^ 32

few_first : (a b : ℕ) → IsFew (capped a b) → IsFew a
few_first a b h = omega (arith, h)

few_second : (a b : ℕ) → IsFew (capped a b) → IsFew b
few_second a b h = omega (arith, h)

few_before : (n : ℕ) (es : List View) → IsFew (values_after n es) → IsFew n
few_before n [] h = h
few_before n (e ∷ es) h = few_first n e.values (few_before (capped n e.values) es h)

few_own : (b : Bool) (n : ℕ) → IsFew (if b then capped n 1 else n) → IsFew n
few_own true n h = few_first n 1 h
few_own false n h = h

module _ (frame : Frame) where
  abbrev ExprFew : NotedExpr → Type 0
  ExprFew e = IsFew (view frame e).values

  abbrev LimitsFew : NotedLimits → Type 0
  LimitsFew l = IsFew (view_of_limits frame l).values

  abbrev pub FewHere : ExprLayer → Type 0
  FewHere x = IsFew (view frame (record { node = x.node; pos = x.pos; note = x.note })).values

  abbrev limits_views : LimitsLayer → LimitsOfViews
  limits_views = map-Limits Name Note NotedLimits NotedNode NotedExpr LimitsView NodeView View (view_of_limits frame) (view_of_node frame) (view frame)

  abbrev node_views : NotedLayer → NodeOfViews
  node_views = map-Node Name Note NotedLimits NotedNode NotedExpr LimitsView NodeView View (view_of_limits frame) (view_of_node frame) (view frame)

  args_few : (n : ℕ) (es : List NotedExpr) → IsFew (values_after n (map (view frame) es)) → AllDown ExprFew es
  args_few n [] h = tt
  args_few n (e ∷ es) h =
      (few_second n (view frame e).values (few_before (capped n (view frame e).values) (map (view frame) es) h), args_few (capped n (view frame e).values) es h)

  limits_few : (x : LimitsLayer) → IsFew (limits_values (limits_views x)) → DownLimits ExprFew x
  limits_few (Limits-F.Count e at) h = h
  limits_few (Limits-F.ByteCount e at) h = h
  limits_few (Limits-F.Between e f at) h = (few_first (view frame e).values (view frame f).values h, few_second (view frame e).values (view frame f).values h)
  limits_few (Limits-F.Unknown at) h = tt

  node_few : (x : NotedLayer) → IsFew (values_of_node (node_views x)) → Down ExprFew LimitsFew x
  node_few (Node-F.Number n u) h = tt
  node_few (Node-F.Text bytes) h = tt
  node_few Node-F.Null h = tt
  node_few (Node-F.Name n) h = tt
  node_few (Node-F.Un o e) h = h
  node_few (Node-F.Bin o e f) h = (few_first (view frame e).values (view frame f).values h, few_second (view frame e).values (view frame f).values h)
  node_few (Node-F.Pick e f g) h =
      let both = few_first (capped (view frame e).values (view frame f).values) (view frame g).values h in (
        few_first (view frame e).values (view frame f).values both,
        few_second (view frame e).values (view frame f).values both,
        few_second (capped (view frame e).values (view frame f).values) (view frame g).values h,
      )
  node_few (Node-F.Index e f) h = (few_first (view frame e).values (view frame f).values h, few_second (view frame e).values (view frame f).values h)
  node_few (Node-F.Dot e n at) h = h
  node_few (Node-F.Arrow e n at) h = h
  node_few (Node-F.Cast w e) h = h
  node_few (Node-F.Size w) h = tt
  node_few (Node-F.Trusted w e None) h = (few_first (view frame e).values 0 h, tt)
  node_few (Node-F.Trusted w e (Some l)) h = (few_first (view frame e).values (view_of_limits frame l).values h, few_second (view frame e).values (view_of_limits frame l).values h)
  node_few (Node-F.Tested w e None) h = (few_first (view frame e).values 0 h, tt)
  node_few (Node-F.Tested w e (Some l)) h = (few_first (view frame e).values (view_of_limits frame l).values h, few_second (view frame e).values (view_of_limits frame l).values h)
  node_few (Node-F.Call n es) h = args_few 0 es h
  node_few (Node-F.Calloc w e u) h = h

  view_is : (e : NotedExpr) → (view frame e).values ≡ with_own e.note.ctype (view_of_node frame e.node)
  view_is e = ap (λ (v : View). v.values) (fold-roll-Expr Name Note LimitsView NodeView View limits_view (node_view frame) expr_view (layer e))

  node_is : (n : NotedNode) → (view_of_node frame n).values ≡ values_of_node (node_views (out-Node Name Note n))
  node_is n = ap (λ (v : NodeView). v.values) (fold_out-Node Name Note LimitsView NodeView View limits_view (node_view frame) expr_view n)

  limits_is : (l : NotedLimits) → (view_of_limits frame l).values ≡ limits_values (limits_views (out-Limits Name Note l))
  limits_is l = ap (λ (v : LimitsView). v.values) (fold_out-Limits Name Note LimitsView NodeView View limits_view (node_view frame) expr_view l)

  pub parts_few : (e : NotedExpr) → IsFew (view frame e).values → EachExpr FewHere e
  parts_few =
      each_down ExprFew LimitsFew FewHere (λ e h. h)
      (λ e h. node_few (out-Node Name Note e.node)
      (subst IsFew (node_is e.node)
      (few_own (is_pointer e.note.ctype && (view_of_node frame e.node).stands_alone) (view_of_node frame e.node).values (subst IsFew (view_is e) h))))
      (λ l h. limits_few (out-Limits Name Note l) (subst IsFew (limits_is l) h))

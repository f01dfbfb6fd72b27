-- Judging keeps each rule on the expressions in an expression that does not look at ranges.
use Rattle.std.proofs.Common.{◌≡◌, ◌∙◌, sym, ap, subst, refl, ℕ, Bool, true, false, List, [], ◌∷◌, map}
use Rattle.std.specs.Prelude.{if◌then◌else◌, Some, None, Ok}
use Rattle.ckc_base.specs.declared.places.Pos.{Pos}
use Rattle.ckc_syntax.specs.declared.tree.Name.{Name}
use Rattle.ckc_syntax.specs.declared.tree.Limits.{Limits-F, map-Limits, roll-Limits, out-Limits, fold-Limits, fold_out-Limits}
use Rattle.ckc_syntax.specs.declared.tree.Node.{Node-F, map-Node, roll-Node, out-Node, fold-Node, fold_out-Node}
use Rattle.ckc_syntax.specs.declared.tree.Expr.{roll-Expr, fold-Expr, fold-roll-Expr, every_here-Expr}
use Rattle.ckc_typed.specs.declared.typed.Note.{Note}
use Rattle.ckc_typed.specs.declared.typed.Range.{Range}
use Rattle.ckc_typed.specs.declared.typed.Range.TheVariants.{Missing}
use Rattle.ckc_typed.specs.Trees.{NotedLimits, NotedNode, NotedExpr, NotedLayer}
use Rattle.ckc_typed.specs.Types.{is_pointer}
use Rattle.ckc_typed_welltyped.specs.Expressions.{AnyLimits, AnyNode}
use Rattle.ckc_typed_welltyped.proofs.Nodes.{node_out, limits_out}
use Rattle.ckc_blame_sound.specs.ckc_bounds_points.specs.declared.frame.Frame.{Frame}
use Rattle.ckc_blame_sound.specs.ckc_bounds_points.specs.Flow.{State}
use Rattle.ckc_blame_sound.specs.ckc_bounds_views.specs.Judged.{noted_range}
use Rattle.ckc_blame_sound.specs.ckc_bounds_views.specs.Views.{view}
use Rattle.ckc_blame_sound.proofs.Judging.{outline}
use Rattle.ckc_blame_sound.proofs.Every.{LimitsLayer, ExprLayer, EachLimits, EachExpr}
use Rattle.ckc_blame_sound.proofs.KeptTrees.{same_fold}
use Rattle.ckc_blame_steps.proofs.Down.{layer, AllDown, DownLimits, Down, each_down, each_parts, each_limits_parts}

-- ---- an expression without its ranges

abbrev bare_limits_layer : LimitsLayer → NotedLimits
bare_limits_layer x = roll-Limits Name Note x

abbrev bare_node_layer : NotedLayer → NotedNode
bare_node_layer x = roll-Node Name Note x

abbrev bare_note : Note → Note
bare_note note = record note { range = Missing }

abbrev bare_expr_layer : ExprLayer → NotedExpr
bare_expr_layer x = roll-Expr Name Note (record { node = x.node; pos = x.pos; note = bare_note x.note })

abbrev bare_limits : NotedLimits → NotedLimits
bare_limits = fold-Limits Name Note NotedLimits NotedNode NotedExpr bare_limits_layer bare_node_layer bare_expr_layer

abbrev bare_node : NotedNode → NotedNode
bare_node = fold-Node Name Note NotedLimits NotedNode NotedExpr bare_limits_layer bare_node_layer bare_expr_layer

abbrev bare_expr : NotedExpr → NotedExpr
bare_expr = fold-Expr Name Note NotedLimits NotedNode NotedExpr bare_limits_layer bare_node_layer bare_expr_layer

abbrev bared : NotedLayer → NotedLayer
bared = map-Node Name Note NotedLimits NotedNode NotedExpr NotedLimits NotedNode NotedExpr bare_limits bare_node bare_expr

abbrev limits_bared : LimitsLayer → LimitsLayer
limits_bared = map-Limits Name Note NotedLimits NotedNode NotedExpr NotedLimits NotedNode NotedExpr bare_limits bare_node bare_expr

bare_is : (e : NotedExpr) → bare_expr e ≡ record { node = bare_node e.node; pos = e.pos; note = bare_note e.note }
bare_is e = fold-roll-Expr Name Note NotedLimits NotedNode NotedExpr bare_limits_layer bare_node_layer bare_expr_layer (layer e)

bare_type : (e : NotedExpr) → (bare_expr e).note.ctype ≡ e.note.ctype
bare_type e = ap (λ (x : NotedExpr). x.note.ctype) (bare_is e)

node_is : (n : NotedNode) → out-Node Name Note (bare_node n) ≡ bared (out-Node Name Note n)
node_is n =
    ap (out-Node Name Note) (fold_out-Node Name Note NotedLimits NotedNode NotedExpr bare_limits_layer bare_node_layer bare_expr_layer n)
    ∙ node_out (bared (out-Node Name Note n))

limits_is : (l : NotedLimits) → out-Limits Name Note (bare_limits l) ≡ limits_bared (out-Limits Name Note l)
limits_is l =
    ap (out-Limits Name Note) (fold_out-Limits Name Note NotedLimits NotedNode NotedExpr bare_limits_layer bare_node_layer bare_expr_layer l)
    ∙ limits_out (limits_bared (out-Limits Name Note l))

layer_is : (e : NotedExpr) → out-Node Name Note (bare_expr e).node ≡ bared (out-Node Name Note e.node)
layer_is e = ap (λ (x : NotedExpr). out-Node Name Note x.node) (bare_is e) ∙ node_is e.node

outline_bared : (x : NotedLayer) → outline (bared x) ≡ outline x
outline_bared (Node-F.Number n u) = refl
outline_bared (Node-F.Text bytes) = refl
outline_bared Node-F.Null = refl
outline_bared (Node-F.Name n) = refl
outline_bared (Node-F.Un o e) = refl
outline_bared (Node-F.Bin o e f) = refl
outline_bared (Node-F.Pick e f g) = refl
outline_bared (Node-F.Index e f) = refl
outline_bared (Node-F.Dot e n at) = refl
outline_bared (Node-F.Arrow e n at) = refl
outline_bared (Node-F.Cast w e) = refl
outline_bared (Node-F.Size w) = refl
outline_bared (Node-F.Trusted w e None) = refl
outline_bared (Node-F.Trusted w e (Some l)) = refl
outline_bared (Node-F.Tested w e None) = refl
outline_bared (Node-F.Tested w e (Some l)) = refl
outline_bared (Node-F.Call n es) = refl
outline_bared (Node-F.Calloc w e u) = refl

same_outline : (e : NotedExpr) → outline (out-Node Name Note (bare_expr e).node) ≡ outline (out-Node Name Note e.node)
same_outline e = ap outline (layer_is e) ∙ outline_bared (out-Node Name Note e.node)

-- a range is not looked at
no_range : (n : NotedNode) (pos : Pos) (note : Note) (r : Range)
    → bare_expr_layer (record { node = n; pos = pos; note = noted_range note r }) ≡ bare_expr_layer (record { node = n; pos = pos; note = note })
no_range n pos note r = by (is_pointer note.ctype) refl
  where
    by : (b : Bool) → is_pointer note.ctype ≡ b
        → bare_expr_layer (record { node = n; pos = pos; note = if b then record note { range = r } else note }) ≡ bare_expr_layer (record { node = n; pos = pos; note = note })
    by true is = refl
    by false is = refl

module _ (P : ExprLayer → Type 0) (blind : (x y : ExprLayer) → y.note.ctype ≡ x.note.ctype → outline (out-Node Name Note y.node) ≡ outline (out-Node Name Note x.node) → P x → P y) where
  -- ---- without ranges

  abbrev IsBare : NotedExpr → Type 0
  IsBare g = (e : NotedExpr) × (bare_expr e ≡ g) × EachExpr P e

  abbrev IsBareLimits : NotedLimits → Type 0
  IsBareLimits m = (l : NotedLimits) × (bare_limits l ≡ m) × EachLimits P l

  all_bare : (es : List NotedExpr) → AllDown (EachExpr P) es → AllDown IsBare (map bare_expr es)
  all_bare [] h = tt
  all_bare (e ∷ es) h = ((e, refl, h.0), all_bare es h.1)

  parts_bare : (x : NotedLayer) → Down (EachExpr P) (EachLimits P) x → Down IsBare IsBareLimits (bared x)
  parts_bare (Node-F.Number n u) h = tt
  parts_bare (Node-F.Text bytes) h = tt
  parts_bare Node-F.Null h = tt
  parts_bare (Node-F.Name n) h = tt
  parts_bare (Node-F.Un o e) h = (e, refl, h)
  parts_bare (Node-F.Bin o e f) h = ((e, refl, h.0), (f, refl, h.1))
  parts_bare (Node-F.Pick e f g) h = ((e, refl, h.0), (f, refl, h.1), (g, refl, h.2))
  parts_bare (Node-F.Index e f) h = ((e, refl, h.0), (f, refl, h.1))
  parts_bare (Node-F.Dot e n at) h = (e, refl, h)
  parts_bare (Node-F.Arrow e n at) h = (e, refl, h)
  parts_bare (Node-F.Cast w e) h = (e, refl, h)
  parts_bare (Node-F.Size w) h = tt
  parts_bare (Node-F.Trusted w e None) h = ((e, refl, h.0), tt)
  parts_bare (Node-F.Trusted w e (Some l)) h = ((e, refl, h.0), (l, refl, h.1))
  parts_bare (Node-F.Tested w e None) h = ((e, refl, h.0), tt)
  parts_bare (Node-F.Tested w e (Some l)) h = ((e, refl, h.0), (l, refl, h.1))
  parts_bare (Node-F.Call n es) h = all_bare es h
  parts_bare (Node-F.Calloc w e u) h = (e, refl, h)

  limits_parts_bare : (x : LimitsLayer) → DownLimits (EachExpr P) x → DownLimits IsBare (limits_bared x)
  limits_parts_bare (Limits-F.Count e at) h = (e, refl, h)
  limits_parts_bare (Limits-F.ByteCount e at) h = (e, refl, h)
  limits_parts_bare (Limits-F.Between e f at) h = ((e, refl, h.0), (f, refl, h.1))
  limits_parts_bare (Limits-F.Unknown at) h = tt

  to_bare : (e : NotedExpr) → EachExpr P e → EachExpr P (bare_expr e)
  to_bare e h = each_down IsBare IsBareLimits P here down down_limits (bare_expr e) (e, refl, h)
    where
      here : (g : NotedExpr) → IsBare g → P (layer g)
      here g w =
          subst (λ (x : NotedExpr). P (layer x)) w.1
          (blind (layer w.0) (layer (bare_expr w.0)) (bare_type w.0) (same_outline w.0) (every_here-Expr Name Note AnyLimits AnyNode P w.0 w.2))

      down : (g : NotedExpr) → IsBare g → Down IsBare IsBareLimits (out-Node Name Note g.node)
      down g w =
          subst (λ (x : NotedExpr). Down IsBare IsBareLimits (out-Node Name Note x.node)) w.1
          (subst (Down IsBare IsBareLimits) (sym (layer_is w.0)) (parts_bare (out-Node Name Note w.0.node) (each_parts P w.0 w.2)))

      down_limits : (m : NotedLimits) → IsBareLimits m → DownLimits IsBare (out-Limits Name Note m)
      down_limits m w =
          subst (λ x. DownLimits IsBare (out-Limits Name Note x)) w.1
          (subst (DownLimits IsBare) (sym (limits_is w.0)) (limits_parts_bare (out-Limits Name Note w.0) (each_limits_parts P w.0 w.2)))

  -- ---- and with them again

  abbrev HasBare : NotedExpr → Type 0
  HasBare e = EachExpr P (bare_expr e)

  abbrev HasBareLimits : NotedLimits → Type 0
  HasBareLimits l = EachLimits P (bare_limits l)

  all_back : (es : List NotedExpr) → AllDown (EachExpr P) (map bare_expr es) → AllDown HasBare es
  all_back [] h = tt
  all_back (e ∷ es) h = (h.0, all_back es h.1)

  parts_back : (x : NotedLayer) → Down (EachExpr P) (EachLimits P) (bared x) → Down HasBare HasBareLimits x
  parts_back (Node-F.Number n u) h = tt
  parts_back (Node-F.Text bytes) h = tt
  parts_back Node-F.Null h = tt
  parts_back (Node-F.Name n) h = tt
  parts_back (Node-F.Un o e) h = h
  parts_back (Node-F.Bin o e f) h = h
  parts_back (Node-F.Pick e f g) h = h
  parts_back (Node-F.Index e f) h = h
  parts_back (Node-F.Dot e n at) h = h
  parts_back (Node-F.Arrow e n at) h = h
  parts_back (Node-F.Cast w e) h = h
  parts_back (Node-F.Size w) h = tt
  parts_back (Node-F.Trusted w e None) h = (h.0, tt)
  parts_back (Node-F.Trusted w e (Some l)) h = h
  parts_back (Node-F.Tested w e None) h = (h.0, tt)
  parts_back (Node-F.Tested w e (Some l)) h = h
  parts_back (Node-F.Call n es) h = all_back es h
  parts_back (Node-F.Calloc w e u) h = h

  limits_parts_back : (x : LimitsLayer) → DownLimits (EachExpr P) (limits_bared x) → DownLimits HasBare x
  limits_parts_back (Limits-F.Count e at) h = h
  limits_parts_back (Limits-F.ByteCount e at) h = h
  limits_parts_back (Limits-F.Between e f at) h = h
  limits_parts_back (Limits-F.Unknown at) h = tt

  from_bare : (e : NotedExpr) → EachExpr P (bare_expr e) → EachExpr P e
  from_bare = each_down HasBare HasBareLimits P here down down_limits
    where
      here : (e : NotedExpr) → HasBare e → P (layer e)
      here e h = blind (layer (bare_expr e)) (layer e) (sym (bare_type e)) (sym (same_outline e)) (every_here-Expr Name Note AnyLimits AnyNode P (bare_expr e) h)

      down : (e : NotedExpr) → HasBare e → Down HasBare HasBareLimits (out-Node Name Note e.node)
      down e h = parts_back (out-Node Name Note e.node) (subst (Down (EachExpr P) (EachLimits P)) (layer_is e) (each_parts P (bare_expr e) h))

      down_limits : (l : NotedLimits) → HasBareLimits l → DownLimits HasBare (out-Limits Name Note l)
      down_limits l h = limits_parts_back (out-Limits Name Note l) (subst (DownLimits (EachExpr P)) (limits_is l) (each_limits_parts P (bare_limits l) h))

  pub judging_keeps : (frame : Frame) (e f : NotedExpr) (fresh : ℕ) (at : State) → (view frame e).judged fresh at ≡ Ok f → EachExpr P e → EachExpr P f
  judging_keeps frame e f fresh at is h =
      from_bare f
      (subst (EachExpr P) (sym (same_fold frame NotedLimits NotedNode NotedExpr bare_limits_layer bare_node_layer bare_expr_layer no_range e f fresh at is)) (to_bare e h))

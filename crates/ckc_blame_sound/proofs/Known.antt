-- The variable of the form of an integer is 0 or that of an integer local.
use Rattle.std.proofs.Common.{◌≡◌, inl, inr, refl, sym, ap, subst, ◌∙◌, ℕ, ◌+◌, Bool, true, false}
use Rattle.std.specs.Prelude.{◌&&◌, if◌then◌else◌, ℤ, pos, ◌+ℤ◌, Option, None, Some}
use Rattle.ckc_types.specs.declared.types.CType.{CType}
use Rattle.ckc_linear.specs.declared.forms.Form.{Form}
use Rattle.ckc_syntax.specs.declared.tree.Name.{Name}
use Rattle.ckc_syntax.specs.declared.tree.Name.TheVariants as name
use Rattle.ckc_syntax.specs.declared.tree.Limits.{Limits-F, map-Limits, roll-Limits}
use Rattle.ckc_syntax.specs.declared.tree.Node.{Node-F, map-Node, roll-Node, fold-roll-Node}
use Rattle.ckc_syntax.specs.declared.tree.Expr.{Expr-F, map-Expr, ind-Expr, roll-Expr, fold-roll-Expr}
use Rattle.ckc_typed.specs.declared.environment.Constant.{Constant}
use Rattle.ckc_typed.specs.declared.typed.Note.{Note}
use Rattle.ckc_typed.specs.Constants.{value_of}
use Rattle.ckc_typed.specs.Trees.{NotedLimits, NotedNode, NotedExpr, NotedLayer}
use Rattle.ckc_typed.specs.Types.{is_integer}
use Rattle.ckc_bounds.specs.ckc_bounds_known.specs.declared.intervals.Interval.{Interval}
use Rattle.ckc_bounds.specs.ckc_bounds_known.specs.Ranges.{range_of}
use Rattle.ckc_bounds.specs.ckc_bounds_points.specs.declared.frame.Frame.{Frame}
use Rattle.ckc_bounds.specs.ckc_bounds_points.specs.declared.frame.Local.{Local}
use Rattle.ckc_bounds.specs.ckc_bounds_points.specs.Shown.{Known, is_shown}
use Rattle.ckc_bounds.specs.ckc_bounds_points.specs.Frames.{local_at, variable_of, variable}
use Rattle.ckc_bounds.specs.ckc_bounds_points.specs.Forms.{is_small, below, above, constant_form, moved_form, within_interval, in_type}
use Rattle.ckc_bounds.specs.ckc_bounds_views.specs.declared.forms.Step.{Step}
use Rattle.ckc_bounds.specs.ckc_bounds_views.specs.Parts.{LimitsView, NodeView, View, NodeOfViews}
use Rattle.ckc_bounds.specs.ckc_bounds_views.specs.Integers.{step_of, form_after, form_of_node, constant_or}
use Rattle.ckc_bounds.specs.ckc_bounds_views.specs.Views.{limits_view, node_view, expr_view, view_of_limits, view_of_node, view}
use Rattle.ckc_blame_sound.specs.Variables.{IsKnownVariable}

module _ (frame : Frame) where
  -- a form of an integer, if there is one, is over known variables
  abbrev pub IsKnownForm : Option Form → Type 0
  IsKnownForm o = (g : Form) → o ≡ Some g → IsKnownVariable frame g.var

  none_known : IsKnownForm None
  none_known g e = absurd (cc)

  some_known : (f : Form) → IsKnownVariable frame f.var → IsKnownForm (Some f)
  some_known f h g e = let same : f ≡ g = cc in subst (λ (g : Form). IsKnownVariable frame g.var) same h

  moved_known : (o : Option Form) (c : ℤ) → IsKnownForm o → IsKnownForm (moved_form o c)
  moved_known None c h = none_known
  moved_known (Some f) c h = by (is_small f.add && is_small c)
    where
      by : (b : Bool) → IsKnownForm (if b then Some (record f { add = f.add +ℤ c }) else None)
      by true = some_known (record f { add = f.add +ℤ c }) (h f refl)
      by false = none_known

  typed_known : (facts : Known) (t : CType) (o : Option Form) → IsKnownForm o → IsKnownForm (in_type facts t o)
  typed_known facts t None h = none_known
  typed_known facts t (Some f) h = by_range (range_of t)
    where
      by_range : (r : Option Interval) → IsKnownForm (within_interval facts f r)
      by_range None = none_known
      by_range (Some r) = by (is_small f.add && (is_shown facts (below f r) && is_shown facts (above f r)))
        where
          by : (b : Bool) → IsKnownForm (if b then Some f else None)
          by true = h
          by false = none_known

  variable_known : (k : ℕ) (o : Option Local) → local_at frame k ≡ o → IsKnownForm (variable_of k o)
  variable_known k None there = none_known
  variable_known k (Some l) there = by (is_integer l.ctype) refl
    where
      by : (b : Bool) → is_integer l.ctype ≡ b → IsKnownForm (if b then Some (record { base = None; var = k + 1; add = pos 0 }) else None)
      by true e = some_known _ (inr (k, l, refl, there, e))
      by false e = none_known

  name_known : (n : Name) → IsKnownForm (variable frame n)
  name_known (name.Local k) = variable_known k (local_at frame k) refl
  name_known n = none_known

  record AnyLimits (l : NotedLimits) : Type 0 where
    pub any : Unit {0}

  record NodeHolds (n : NotedNode) : Type 0 where
    pub linear : (t : CType) (facts : Known) → IsKnownForm ((view_of_node frame n).linear t facts)

  record ExprHolds (e : NotedExpr) : Type 0 where
    pub form : (facts : Known) → IsKnownForm ((view frame e).form facts)

  abbrev KeptLimits : Type 0
  KeptLimits = (l : NotedLimits) × AnyLimits l

  abbrev KeptNode : Type 0
  KeptNode = (n : NotedNode) × NodeHolds n

  abbrev KeptExpr : Type 0
  KeptExpr = (e : NotedExpr) × ExprHolds e

  abbrev inner_node : Node-F Name Note KeptLimits KeptNode KeptExpr → NotedLayer
  inner_node = map-Node Name Note KeptLimits KeptNode KeptExpr NotedLimits NotedNode NotedExpr (λ e. e.0) (λ e. e.0) (λ e. e.0)

  abbrev inner_expr : Expr-F Name Note KeptLimits KeptNode KeptExpr → Expr-F Name Note NotedLimits NotedNode NotedExpr
  inner_expr = map-Expr Name Note KeptLimits KeptNode KeptExpr NotedLimits NotedNode NotedExpr (λ e. e.0) (λ e. e.0) (λ e. e.0)

  abbrev viewed_node : NotedLayer → NodeOfViews
  viewed_node = map-Node Name Note NotedLimits NotedNode NotedExpr LimitsView NodeView View (view_of_limits frame) (view_of_node frame) (view frame)

  abbrev viewed_expr : Expr-F Name Note NotedLimits NotedNode NotedExpr → Expr-F Name Note LimitsView NodeView View
  viewed_expr = map-Expr Name Note NotedLimits NotedNode NotedExpr LimitsView NodeView View (view_of_limits frame) (view_of_node frame) (view frame)

  after_known : (facts : Known) (t : CType) (o : Option Step) (k j : KeptExpr) → IsKnownForm (form_after facts t o (view frame k.0) (view frame j.0))
  after_known facts t None k j = none_known
  after_known facts t (Some s) k j = typed_known facts t (moved_form (if s.left then (view frame k.0).form facts else (view frame j.0).form facts) s.by) (moved_known _ s.by (either s.left))
    where
      either : (b : Bool) → IsKnownForm (if b then (view frame k.0).form facts else (view frame j.0).form facts)
      either true = k.1.form facts
      either false = j.1.form facts

  node_step : (y : Node-F Name Note KeptLimits KeptNode KeptExpr) (t : CType) (facts : Known) → IsKnownForm (form_of_node frame (viewed_node (inner_node y)) t facts)
  node_step (Node-F.Name n) t facts = name_known n
  node_step (Node-F.Bin o k j) t facts = after_known facts t (step_of o (view frame k.0).number (view frame j.0).number) k j
  node_step (Node-F.Cast w k) t facts = typed_known facts t ((view frame k.0).form facts) (k.1.form facts)
  node_step y t facts = none_known

  abbrev inner_limits : Limits-F Name Note KeptLimits KeptNode KeptExpr → Limits-F Name Note NotedLimits NotedNode NotedExpr
  inner_limits = map-Limits Name Note KeptLimits KeptNode KeptExpr NotedLimits NotedNode NotedExpr (λ e. e.0) (λ e. e.0) (λ e. e.0)

  limits_by : (x : Limits-F Name Note NotedLimits NotedNode NotedExpr) (y : Limits-F Name Note KeptLimits KeptNode KeptExpr) → inner_limits y ≡ x → AnyLimits (roll-Limits Name Note x)
  limits_by x y is = record { any = tt }

  node_by : (x : NotedLayer) (y : Node-F Name Note KeptLimits KeptNode KeptExpr) → inner_node y ≡ x → NodeHolds (roll-Node Name Note x)
  node_by x y is = record {
    linear = λ t facts.
        subst (λ (v : NodeView). IsKnownForm (v.linear t facts))
        (sym (fold-roll-Node Name Note LimitsView NodeView View limits_view (node_view frame) expr_view x ∙ ap (λ z. node_view frame (viewed_node z)) (sym is)))
        (node_step y t facts);
  }

  constant_known : (b : Bool) (c : Option Constant) (o : Option Form) → IsKnownForm o → IsKnownForm (if b then constant_or c o else None)
  constant_known true (Some c) o h = some_known (constant_form (value_of c)) (inl refl)
  constant_known true None o h = h
  constant_known false c o h = none_known

  expr_by : (x : Expr-F Name Note NotedLimits NotedNode NotedExpr) (y : Expr-F Name Note KeptLimits KeptNode KeptExpr) → inner_expr y ≡ x → ExprHolds (roll-Expr Name Note x)
  expr_by x y is = record {
    form = λ facts.
        subst (λ (v : View). IsKnownForm (v.form facts))
        (sym (fold-roll-Expr Name Note LimitsView NodeView View limits_view (node_view frame) expr_view x ∙ ap (λ z. expr_view (viewed_expr z)) (sym is)))
        (constant_known (is_integer y.note.ctype) (view_of_node frame y.node.0).number ((view_of_node frame y.node.0).linear y.note.ctype facts) (y.node.1.linear y.note.ctype facts));
  }

  expr_holds : (e : NotedExpr) → ExprHolds e
  expr_holds = ind-Expr Name Note AnyLimits NodeHolds ExprHolds limits_by node_by expr_by

  pub form_known : (e : NotedExpr) (facts : Known) (g : Form) → (view frame e).form facts ≡ Some g → IsKnownVariable frame g.var
  form_known e facts g is = (expr_holds e).form facts g is

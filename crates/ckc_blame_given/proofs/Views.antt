-- What is said of an expression, by its node.
use Rattle.std.proofs.Common.{◌≡◌, refl, sym, ap, ◌∙◌, rules}
use Rattle.std.specs.Prelude.{ℕ, Bool, true, false, if◌then◌else◌, Option, None, Some}
use Rattle.std.specs.Option.{option_or}
use Rattle.ckc_syntax.specs.declared.tree.Name.{Name}
use Rattle.ckc_syntax.specs.declared.tree.Node.{Node-F, map-Node, out-Node, roll-Node, fold-roll-Node, the_lemmas as node_lemmas}
use Rattle.ckc_syntax.specs.declared.tree.Expr.{fold-roll-Expr}
use Rattle.ckc_typed.specs.declared.typed.Note.{Note}
use Rattle.ckc_typed.specs.declared.typed.Range.TheVariants as range
use Rattle.ckc_typed.specs.Conversions.{is_null_form, is_null, is_string_form, is_string, is_allocation_form, is_allocation}
use Rattle.ckc_typed.specs.Trees.{NotedLimits, NotedNode, NotedExpr, NotedLayer}
use Rattle.ckc_typed.specs.Types.{is_pointer}
use Rattle.ckc_linear.specs.declared.forms.Form.{Form}
use Rattle.ckc_blame_sound.specs.ckc_bounds_points.specs.declared.frame.Frame.{Frame}
use Rattle.ckc_blame_sound.specs.ckc_bounds_points.specs.Flow.{State}
use Rattle.ckc_blame_sound.specs.ckc_bounds_points.specs.Shown.{Known}
use Rattle.ckc_blame_sound.specs.ckc_bounds_views.specs.Integers.{null_node}
use Rattle.ckc_blame_sound.specs.ckc_bounds_views.specs.Parts.{LimitsView, View, NodeView, NodeOfViews}
use Rattle.ckc_blame_sound.specs.ckc_bounds_views.specs.Places.{own_place}
use Rattle.ckc_blame_sound.specs.ckc_bounds_views.specs.Ranges.{own_numbers, pointer_range}
use Rattle.ckc_blame_sound.specs.ckc_bounds_views.specs.Views.{allocates_node, limits_view, node_view, expr_view, view_of_limits, view_of_node, view}

pub node_back : (n : NotedNode) → roll-Node Name Note (out-Node Name Note n) ≡ n
node_back n = search (rules, node_lemmas)

module _ (frame : Frame) where
  abbrev pub viewed_layer : NotedLayer → NodeOfViews
  viewed_layer = map-Node Name Note NotedLimits NotedNode NotedExpr LimitsView NodeView View (view_of_limits frame) (view_of_node frame) (view frame)

  -- what is said of the node of an expression
  abbrev pub node_in : NotedExpr → NodeView
  node_in e = node_view frame (viewed_layer (out-Node Name Note e.node))

  pub view_is : (e : NotedExpr) → view frame e ≡ expr_view (record { node = node_in e; pos = e.pos; note = e.note })
  view_is e =
      fold-roll-Expr Name Note LimitsView NodeView View limits_view (node_view frame) expr_view (record { node = e.node; pos = e.pos; note = e.note })
      ∙ ap (λ (n : NodeView). expr_view (record { node = n; pos = e.pos; note = e.note }))
      (ap (view_of_node frame) (sym (node_back e.node)) ∙ fold-roll-Node Name Note LimitsView NodeView View limits_view (node_view frame) expr_view (out-Node Name Note e.node))

  null_form_is : (n : NotedLayer) → null_node (viewed_layer n) ≡ is_null_form n
  null_form_is Node-F.Null = refl
  null_form_is n = refl

  pub null_is : (e : NotedExpr) → (view frame e).null ≡ is_null e
  null_is e = ap (λ (v : View). v.null) (view_is e) ∙ null_form_is (out-Node Name Note e.node)

  allocates_form_is : (n : NotedLayer) → allocates_node (viewed_layer n) ≡ is_allocation_form n
  allocates_form_is (Node-F.Calloc w e x) = refl
  allocates_form_is n = refl

  pub allocates_is : (e : NotedExpr) → (view frame e).allocates ≡ is_allocation e
  allocates_is e = ap (λ (v : View). v.allocates) (view_is e) ∙ allocates_form_is (out-Node Name Note e.node)

  -- a known range is that of a pointer that is not null
  pub known_range : (e : NotedExpr) (first fresh : ℕ) (at : State) (low high : Form) → (view frame e).range first fresh at ≡ range.Known low high
      → (is_pointer e.note.ctype ≡ true) × (is_null e ≡ false)
  known_range e first fresh at low high is =
      by (node_in e).null (is_pointer e.note.ctype) refl refl (sym (ap (λ (v : View). v.range first fresh at) (view_is e)) ∙ is)
    where
      by : (n p : Bool) → (node_in e).null ≡ n → is_pointer e.note.ctype ≡ p
          → (if n then range.Any else (if p then (node_in e).range e.note.ctype (own_numbers (node_in e) first fresh at) first fresh at else range.Missing)) ≡ range.Known low high
          → (p ≡ true) × (is_null e ≡ false)
      by true p a b h = absurd cc
      by false true a b h = (refl, sym (null_form_is (out-Node Name Note e.node)) ∙ a)
      by false false a b h = absurd cc

  -- a string literal has one range wherever it is
  pub string_range : (e : NotedExpr) → is_string e ≡ true → (first fresh : ℕ) (at other : State) → (view frame e).range first fresh at ≡ (view frame e).range first fresh other
  string_range e string first fresh at other =
      ap (λ (v : View). v.range first fresh at) (view_is e) ∙ by (out-Node Name Note e.node) string ∙ sym (ap (λ (v : View). v.range first fresh other) (view_is e))
    where
      by : (n : NotedLayer) → is_string_form n ≡ true
          → pointer_range e.note.ctype (node_view frame (viewed_layer n)) first fresh at ≡ pointer_range e.note.ctype (node_view frame (viewed_layer n)) first fresh other
      by (Node-F.Text bytes) s = refl
      by n s = absurd cc

  -- a place is that of a pointer
  pub placed_pointer : (e : NotedExpr) (first : ℕ) (facts : Known) (f : Form) → (view frame e).place first facts ≡ Some f → is_pointer e.note.ctype ≡ true
  placed_pointer e first facts f is =
      by (is_pointer e.note.ctype) (option_or ((node_in e).place e.note.ctype first facts) (own_place (node_in e) first)) (sym (ap (λ (v : View). v.place first facts) (view_is e)) ∙ is)
    where
      by : (p : Bool) (o : Option Form) → (if p then o else None) ≡ Some f → p ≡ true
      by true o h = refl
      by false o h = absurd cc

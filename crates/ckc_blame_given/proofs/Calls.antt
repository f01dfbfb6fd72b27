-- What a call gives that gives no pointer is a word of which nothing more is known.
use Rattle.std.proofs.Common.{◌≡◌, ◌≢◌, refl, sym, ap, ◌∙◌, ℕ, Bool, true, false, List}
use Rattle.std.specs.Prelude.{◌<◌, ◌^◌, if◌then◌else◌, Option, None}
use Rattle.ckc_linear.specs.declared.forms.Form.{Form}
use Rattle.ckc_syntax.specs.declared.tree.Name.{Name}
use Rattle.ckc_syntax.specs.declared.tree.Node.{Node-F, map-Node, out-Node, fold-roll-Node}
use Rattle.ckc_types.specs.declared.types.CType.{CType}
use Rattle.ckc_typed.specs.declared.typed.Note.{Note}
use Rattle.ckc_typed.specs.Trees.{NotedExpr, NotedLayer, NotedLimits, NotedNode}
use Rattle.ckc_typed.specs.Types.{is_integer, is_pointer}
use Rattle.ckc_blame_sound.specs.ckc_bounds_points.specs.declared.frame.Frame.{Frame}
use Rattle.ckc_blame_sound.specs.ckc_bounds_points.specs.Shown.{Known}
use Rattle.ckc_blame_sound.specs.ckc_bounds_points.specs.Forms.{in_type}
use Rattle.ckc_blame_sound.specs.ckc_bounds_points.specs.Flow.{State}
use Rattle.ckc_blame_sound.specs.ckc_bounds_views.specs.Parts.{LimitsView, NodeView, View, NodeOfViews, capped}
use Rattle.ckc_blame_sound.specs.ckc_bounds_views.specs.Views.{limits_view, node_view, expr_view, view_of_limits, view_of_node, view}
use Rattle.ckc_blame_sound.specs.ckc_bounds_stores.specs.declared.values.Numbered.{Numbered}
use Rattle.ckc_blame_sound.specs.ckc_bounds_stores.specs.Values.{narrow, range_received, has_element}
use Rattle.ckc_source.specs.Eval.{Store}
use Rattle.ckc_blame_sound.specs.Settings.{Setting}
use Rattle.ckc_blame_sound.proofs.Types.{none_is_some}
use Rattle.ckc_blame_sound.specs.Valuations.{Valuation, AreNumbersOf}
use Rattle.ckc_blame_sound.specs.GivenValues.{memory_of}
use Rattle.ckc_blame_given.specs.Written.{IsReceived}
use Rattle.ckc_blame_given.proofs.Named.{node_back}
use Rattle.ckc_blame_given.proofs.Given.{view_is, no_place, received_bare, ranged_bare}

module _ (frame : Frame) (e : NotedExpr) (n : Name) (es : List NotedExpr) (is : out-Node Name Note e.node ≡ Node-F.Call n es) where
  abbrev viewed : NotedLayer → NodeOfViews
  viewed = map-Node Name Note NotedLimits NotedNode NotedExpr LimitsView NodeView View (view_of_limits frame) (view_of_node frame) (view frame)

  node_is : view_of_node frame e.node ≡ node_view frame (viewed (Node-F.Call n es))
  node_is =
      ap (view_of_node frame) (sym (node_back e.node)) ∙ fold-roll-Node Name Note LimitsView NodeView View limits_view (node_view frame) expr_view (out-Node Name Note e.node)
      ∙ ap (λ x. node_view frame (viewed x)) is

  -- a call has no form
  pub no_form : (facts : Known) → (view frame e).form facts ≡ None
  no_form facts =
      ap (λ (v : View). v.form facts) (view_is frame e)
      ∙ ap (λ (m : NodeView). (expr_view (record { node = m; pos = e.pos; note = e.note })).form facts) node_is ∙ by (is_integer e.note.ctype)
    where
      by : (b : Bool) → ◌≡◌ {A = Option Form} (if b then None else None) None
      by true = refl
      by false = refl

  -- and is not null
  not_null : (view frame e).null ≡ false
  not_null = ap (λ (v : View). v.null) (view_is frame e) ∙ ap (λ (m : NodeView). m.null) node_is

-- what such a call gives
pub call_received : (s : Setting) (store : Store) (v : Valuation) (at : State) (t : CType) (e : NotedExpr) (first : Numbered) (w : ℕ) (n : Name) (es : List NotedExpr)
    → out-Node Name Note e.node ≡ Node-F.Call n es → w < 2 ^ 32 → is_pointer e.note.ctype ≡ false
    → (w ≢ 0 → AreNumbersOf v (capped first.fresh 1) ((view s.frame e).fresh at)) → IsReceived s store v at t e first w
call_received s store v at t e first w n es is small bare fresh = record {
  word = small;
  gives = record {
    place = λ facts f all there. absurd (no_place s.frame e bare first.value facts f there);
    value = record {
      null = λ z. (let none : true ≡ false = sym z ∙ not_null s.frame e n es is in absurd cc);
      ranged = ranged_bare s.frame e bare (memory_of s store t) v w (range_received s.frame t e first at) (range_received s.frame t e first (narrow at)) (has_element t (view s.frame e).allocates)
          (received_bare s.frame e bare t first at) (received_bare s.frame e bare t first (narrow at));
      fresh = fresh;
    };
  };
  form = λ facts f all there. none_is_some f (sym (ap (in_type facts t) (no_form s.frame e n es is facts)) ∙ there);
  bare = λ c. bare;
}

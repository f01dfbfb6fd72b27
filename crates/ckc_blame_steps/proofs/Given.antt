-- What a call gives, said of what it is judged to be and of the place that gets it.
use Rattle.std.proofs.Common.{◌≡◌, sym, ap, subst, ◌∙◌, ℕ, arith}
use Rattle.std.specs.Prelude.{◌≤◌, ◌^◌, ◌-◌, true, false}
use Rattle.ckc_syntax.specs.declared.tree.Name.{Name}
use Rattle.ckc_syntax.specs.declared.tree.Node.{Node-F, out-Node}
use Rattle.ckc_types.specs.declared.types.CType.{CType}
use Rattle.ckc_typed.specs.declared.typed.Note.{Note}
use Rattle.ckc_typed.specs.Trees.{NotedExpr}
use Rattle.ckc_typed.specs.Types.{is_char, is_pointer}
use Rattle.ckc_blame_sound.specs.ckc_bounds_points.specs.declared.frame.Frame.{Frame}
use Rattle.ckc_blame_sound.specs.ckc_bounds_points.specs.Flow.{State}
use Rattle.ckc_blame_sound.specs.ckc_bounds_points.specs.Forms.{in_type}
use Rattle.ckc_blame_sound.specs.ckc_bounds_views.specs.Parts.{View, capped, fresh_behind}
use Rattle.ckc_blame_sound.specs.ckc_bounds_views.specs.Views.{node_view, expr_view, view}
use Rattle.ckc_blame_sound.specs.ckc_bounds_stores.specs.declared.values.Numbered.{Numbered}
use Rattle.ckc_blame_sound.specs.ckc_bounds_stores.specs.Values.{narrow, received_range, has_element}
use Rattle.ckc_blame_sound.specs.ckc_bounds_statements.specs.Paths.{Here}
use Rattle.ckc_source.specs.Eval.{Store}
use Rattle.ckc_blame_sound.specs.Settings.{Setting}
use Rattle.ckc_blame_sound.specs.Valuations.{Valuation, AreNumbersOf}
use Rattle.ckc_blame_sound.proofs.Types.{none_is_some}
use Rattle.ckc_blame_sound.specs.Containment.{Memory, IsRanged}
use Rattle.ckc_blame_sound.specs.GivenValues.{memory_of, IsFrom}
use Rattle.ckc_blame_given.specs.Written.{IsReceived}
use Rattle.ckc_blame_steps.specs.Results.{IsResultGiven}
use Rattle.ckc_blame_given.proofs.Views.{viewed_layer, view_is}

-- a name needs no fresh variable
pub name_needs_none : (frame : Frame) (e : NotedExpr) (n : Name) (fresh : ℕ) (at : State) → fresh ≤ 2 ^ 32 - 1 → out-Node Name Note e.node ≡ Node-F.Name n → fresh_behind (view frame e) fresh at ≡ fresh
name_needs_none frame e n fresh at word is =
    ap (λ (v : View). fresh_behind v fresh at) (view_is frame e)
    ∙ ap (λ x. fresh_behind (expr_view (record { node = node_view frame (viewed_layer frame x); pos = e.pos; note = e.note })) fresh at) is ∙ none
  where
    none : fresh_behind (expr_view (record { node = node_view frame (viewed_layer frame (Node-F.Name n)); pos = e.pos; note = e.note })) fresh at ≡ fresh
    none = omega arith

-- of two expressions of which the same is said, one gives what the other does
module _ (frame : Frame) (m : Memory) (v : Valuation) (t : CType) (e f : NotedExpr) (from : Numbered) (at : State) (n : ℕ) (same : view frame e ≡ view frame f) where
  abbrev Ranged : View → Type 0
  Ranged z =
      IsRanged m v n (received_range t z.allocates (z.range from.value from.fresh at)) (received_range t z.allocates (z.range from.value from.fresh (narrow at))) (has_element t z.allocates)

  pub from_same : IsFrom frame m v t e from at n → IsFrom frame m v t f from at n
  from_same h = record {
    place = λ facts g all there. h.place facts g all (ap (λ (z : View). z.place from.value facts) same ∙ there);
    value = record {
      null = λ z. h.value.null (ap (λ (w : View). w.null) same ∙ z);
      ranged = subst Ranged same h.value.ranged;
      fresh = λ some. subst (λ (z : View). AreNumbersOf v (capped from.fresh 1) (z.fresh at)) same (h.value.fresh some);
    };
  }

-- What a call gives to a place of a type is received there.
pub result_received : (s : Setting) (store : Store) (v : Valuation) (here : Here) (t : CType) (call made : NotedExpr) (n : ℕ) → IsResultGiven s store v here t call n → view s.frame call ≡ view s.frame made
    → (is_char t ≡ true → is_pointer made.note.ctype ≡ false) → IsReceived s store v here.at t made (record { value = 0; fresh = here.next }) n
result_received s store v here t call made n given same bare = record {
  word = given.word;
  gives = from_same s.frame (memory_of s store t) v t call made (record { value = 0; fresh = here.next }) here.at n same given.from;
  form = λ facts f all there. none_is_some f (sym (ap (in_type facts t) (ap (λ (z : View). z.form facts) (sym same) ∙ given.form facts)) ∙ there);
  bare = bare;
}

-- What a call gives to the place that keeps its result.
use Rattle.std.proofs.Common.{◌≡◌, refl, sym, ap, subst, ◌∙◌, ℕ, List, [], ◌∷◌, map, ◌+ℤ◌, arith}
use Rattle.std.specs.Prelude.{◌≤◌, ◌^◌, ◌-◌, ◌*◌, Bool, true, false, if◌then◌else◌, pos, ◌*ℤ◌, slice_get, Option, None, Some}
use Rattle.std.proofs.lemmas.Int.{ints}
use Rattle.std.proofs.Math.IntN.{pos-*ℤ-pos}
use Rattle.ckc_linear.specs.declared.forms.Base.{Base}
use Rattle.ckc_linear.specs.declared.forms.Base.TheVariants as base
use Rattle.ckc_linear.specs.declared.forms.Form.{Form}
use Rattle.ckc_syntax.specs.declared.tree.Name.{Name}
use Rattle.ckc_syntax.specs.declared.tree.Name.TheVariants as name
use Rattle.ckc_syntax.specs.declared.tree.Node.{Node-F, out-Node}
use Rattle.ckc_types.specs.declared.types.CType.{CType}
use Rattle.ckc_typed.specs.declared.typed.Note.{Note}
use Rattle.ckc_typed.specs.declared.typed.Range.{Range}
use Rattle.ckc_typed.specs.declared.typed.Range.TheVariants as range
use Rattle.ckc_typed.specs.Trees.{NotedExpr, NotedLayer}
use Rattle.ckc_typed.specs.Types.{is_integer, is_pointer}
use Rattle.ckc_blame_sound.specs.ckc_bounds_points.specs.declared.frame.Frame.{Frame}
use Rattle.ckc_blame_sound.specs.ckc_bounds_points.specs.Flow.{State}
use Rattle.ckc_blame_sound.specs.ckc_bounds_points.specs.Forms.{base_form}
use Rattle.ckc_blame_sound.specs.ckc_bounds_points.specs.Shown.{Known}
use Rattle.ckc_blame_sound.specs.ckc_bounds_views.specs.Fresh.{all_fresh}
use Rattle.ckc_blame_sound.specs.ckc_bounds_views.specs.Parts.{View, capped}
use Rattle.ckc_blame_sound.specs.ckc_bounds_views.specs.Places.{values_after}
use Rattle.ckc_blame_sound.specs.ckc_bounds_views.specs.Ranges.{range_of_result}
use Rattle.ckc_blame_sound.specs.ckc_bounds_views.specs.Views.{node_view, expr_view, view}
use Rattle.ckc_blame_sound.specs.ckc_bounds_stores.specs.Values.{narrow, received_range, has_element}
use Rattle.ckc_source.specs.Eval.{Store}
use Rattle.ckc_build_values.specs.Kinds.{pointee_of, size_behind}
use Rattle.ckc_blame_sound.specs.Settings.{Setting}
use Rattle.ckc_blame_sound.specs.Valuations.{Valuation, form_address, AreNumbersOf}
use Rattle.ckc_blame_sound.specs.Containment.{IsReadWithin, IsNarrowed, IsRanged}
use Rattle.ckc_blame_sound.specs.GivenValues.{memory_of, IsFrom}
use Rattle.ckc_blame_given.proofs.Looser.{IsLooser, read_looser}
use Rattle.ckc_blame_given.proofs.Views.{viewed_layer, view_is}

-- ---- the value of a call is numbered after those in its arguments

values_small : (n : ℕ) (es : List View) → n ≤ 2 ^ 32 - 1 → values_after n es ≤ 2 ^ 32 - 1
values_small n [] h = h
values_small n (e ∷ es) h = values_small (capped n e.values) es (omega arith)

own_is_after : (es : List View) → capped 0 (values_after 0 es) ≡ values_after 0 es
own_is_after es = let h = values_small 0 es (omega arith) in omega (arith, h)

-- what a base stands for by itself
base_stands : (v : Valuation) (size : ℕ) (b : Base) → v.number 0 ≡ pos 0 → form_address v size (base_form b) ≡ v.address (Some b)
base_stands v size b zero_is =
    let x : v.number 0 +ℤ pos 0 ≡ pos 0 = omega (arith, ints) in
    let y : pos size *ℤ (v.number 0 +ℤ pos 0) ≡ pos 0 = ap (λ z. pos size *ℤ z) x ∙ none size in
    omega (arith, ints)
  where
    none : (n : ℕ) → pos n *ℤ pos 0 ≡ pos 0
    none n = let product = pos-*ℤ-pos n 0 in let zero_is : n * 0 ≡ 0 = omega arith in product ∙ ap pos zero_is

module _ (frame : Frame) (x : NotedExpr) (k : ℕ) (args : List NotedExpr) (is : out-Node Name Note x.node ≡ Node-F.Call (name.Function k) args) where
  abbrev views : List View
  views = map (view frame) args

  -- what is said of a call
  abbrev call_view : View
  call_view = expr_view (record { node = node_view frame (Node-F.Call (name.Function k) views); pos = x.pos; note = x.note })

  pub call_view_is : view frame x ≡ call_view
  call_view_is = view_is frame x ∙ ap (λ (y : NotedLayer). expr_view (record { node = node_view frame (viewed_layer frame y); pos = x.pos; note = x.note })) is

  pub call_form : (facts : Known) → (view frame x).form facts ≡ None
  call_form facts = ap (λ (v : View). v.form facts) call_view_is ∙ by (is_integer x.note.ctype)
    where
      by : (b : Bool) → ◌≡◌ {A = Option Form} (if b then None else None) None
      by true = refl
      by false = refl

  placed : (facts : Known) (f : Form) → call_view.place 0 facts ≡ Some f → f ≡ base_form (base.Value (values_after 0 views))
  placed facts f e = by (is_pointer x.note.ctype) e ∙ ap (λ n. base_form (base.Value n)) (own_is_after views)
    where
      by : (b : Bool) → (if b then Some (base_form (base.Value (capped 0 (values_after 0 views)))) else None) ≡ Some f → f ≡ base_form (base.Value (capped 0 (values_after 0 views)))
      by true e = cc
      by false e = absurd cc

  ranged : (fresh : ℕ) (at : State) (P : Range → Type 0) → P range.Missing
      → (is_pointer x.note.ctype ≡ true → P (range_of_result (slice_get frame.heads k) views (values_after 0 views) 0 at.facts)) → P (call_view.range 0 fresh at)
  ranged fresh at P none some = by (is_pointer x.note.ctype) refl
    where
      by : (b : Bool) → is_pointer x.note.ctype ≡ b → P (if b then range_of_result (slice_get frame.heads k) views (capped 0 (values_after 0 views)) 0 at.facts else range.Missing)
      by true e = subst (λ n. P (range_of_result (slice_get frame.heads k) views n 0 at.facts)) (sym (own_is_after views)) (some e)
      by false e = none

-- ---- what is known of the word that it gives

module _ (s : Setting) (store : Store) (v : Valuation) (fresh : ℕ) (at : State) (t : CType) (x : NotedExpr) (k : ℕ) (args : List NotedExpr) (is : out-Node Name Note x.node ≡ Node-F.Call (name.Function k) args) (n : ℕ)
    (zero_is : v.number 0 ≡ pos 0) (own : v.address (Some (base.Value (values_after 0 (map (view s.frame) args)))) ≡ pos n)
    (numbers : AreNumbersOf v (capped fresh 1) (all_fresh (map (view s.frame) args) at))
    (looser : is_pointer x.note.ctype ≡ true → IsLooser (pointee_of s.text.layout x.note.ctype) (pointee_of s.text.layout t))
    (read : IsReadWithin (memory_of s store x.note.ctype) v n (range_of_result (slice_get s.frame.heads k) (map (view s.frame) args) (values_after 0 (map (view s.frame) args)) 0 at.facts)) where
  abbrev said : View
  said = call_view s.frame x k args is

  within : IsReadWithin (memory_of s store t) v n (said.range 0 fresh at)
  within = ranged s.frame x k args is fresh at (IsReadWithin (memory_of s store t) v n) tt (λ p. read_looser (memory_of s store x.note.ctype) (pointee_of s.text.layout t) v n _ (looser p) read)

  same_ranged : (r : Range) → IsReadWithin (memory_of s store t) v n r → IsNarrowed r r → IsRanged (memory_of s store t) v n r r false
  same_ranged r w k = record { wide = w; narrow = w; narrowed = k; element = λ e some. absurd cc }

  narrowed_self : (r : Range) → IsNarrowed r r
  narrowed_self (range.Known low high) = (refl, refl)
  narrowed_self range.Any = tt
  narrowed_self range.Missing = tt

  -- the same, if what is said of the call is this
  abbrev Ranged : View → Type 0
  Ranged w = IsRanged (memory_of s store t) v n (received_range t w.allocates (w.range 0 fresh at)) (received_range t w.allocates (w.range 0 fresh (narrow at))) (has_element t w.allocates)

  pub from_call : IsFrom s.frame (memory_of s store t) v t x (record { value = 0; fresh = fresh }) at n
  from_call = record {
    place = λ facts f all e.
        ap (form_address v (size_behind s.text.layout t)) (placed s.frame x k args is facts f (ap (λ (w : View). w.place 0 facts) (sym (call_view_is s.frame x k args is)) ∙ e))
        ∙ base_stands v (size_behind s.text.layout t) (base.Value (values_after 0 (map (view s.frame) args))) zero_is ∙ own;
    value = record {
      null = λ e. let no_null : false ≡ true = ap (λ (w : View). w.null) (sym (call_view_is s.frame x k args is)) ∙ e in absurd cc;
      ranged = subst Ranged (sym (call_view_is s.frame x k args is)) (same_ranged (said.range 0 fresh at) within (narrowed_self (said.range 0 fresh at)));
      fresh = λ some. subst (λ (w : View). AreNumbersOf v (capped fresh 1) (w.fresh at)) (sym (call_view_is s.frame x k args is)) numbers;
    };
  }

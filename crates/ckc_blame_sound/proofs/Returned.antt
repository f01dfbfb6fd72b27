-- A result may be read within its bounds under the values that the parameters were entered with, and so within the range
-- of its call.
use Rattle.std.proofs.Common.{◌≡◌, ℕ, zero, suc, ◌+◌, ◌==◌, ◌<◌, refl, sym, ◌∙◌, ap, subst, List, [], ◌∷◌, ◌++◌, length, ◌+ℤ◌, arith}
use Rattle.std.specs.Prelude.{true, false, pos, ◌*ℤ◌, slice_get, slice_index, Option, None, Some, IsOk}
use Rattle.std.specs.List.{All}
use Rattle.std.proofs.lemmas.Bool.{eq-eqb}
use Rattle.ckc_linear.specs.declared.forms.Base.{Base}
use Rattle.ckc_linear.specs.declared.forms.Base.TheVariants as base
use Rattle.ckc_linear.specs.declared.forms.Form.{Form}
use Rattle.ckc_typed.specs.Trees.{NotedExpr}
use Rattle.ckc_typed.specs.Types.{is_integer}
use Rattle.ckc_bounds.specs.ckc_bounds_points.specs.declared.frame.Bounds.TheVariants as bounds
use Rattle.ckc_bounds.specs.ckc_bounds_points.specs.declared.frame.Local.{Local}
use Rattle.ckc_bounds.specs.ckc_bounds_points.specs.declared.frame.HeadBounds.{HeadBounds}
use Rattle.ckc_bounds.specs.ckc_bounds_points.specs.Shown.{Known}
use Rattle.ckc_bounds.specs.ckc_bounds_points.specs.Flow.{State, names_local, in_form, in_bounds}
use Rattle.ckc_bounds.specs.ckc_bounds_points.specs.Forms.{same_base, base_form}
use Rattle.ckc_bounds.specs.ckc_bounds_ranges.specs.Replaced.{place_for, base_replaced, replaced, both_ends, replaced_bounds}
use Rattle.ckc_bounds.specs.ckc_bounds_ranges.specs.Rows.{range_of_ends}
use Rattle.ckc_bounds.specs.ckc_bounds_views.specs.Parts.{View}
use Rattle.ckc_bounds.specs.ckc_bounds_views.specs.Arguments.{bases_by, variables_by, own_by}
use Rattle.ckc_bounds.specs.ckc_bounds_views.specs.Ranges.{range_of_result}
use Rattle.ckc_bounds.specs.ckc_bounds_views.specs.Views.{view}
use Rattle.ckc_bounds.specs.ckc_bounds_stores.specs.declared.values.Numbered.{Numbered}
use Rattle.ckc_bounds.specs.ckc_bounds_stores.specs.Values.{new_value, holds}
use Rattle.ckc_bounds.specs.ckc_bounds_stores.specs.Stores.{own_place, holds_from}
use Rattle.ckc_source.specs.Eval.{Store, amount, base_address, end_address, reads, reads_limited}
use Rattle.ckc_source.specs.Words.{exact}
use Rattle.ckc_build_values.specs.Kinds.{integer_of, size_behind, pointee_of}
use Rattle.ckc_build_values.specs.Ends.{variable_at}
use Rattle.ckc_build_values.specs.Names.{address_of}
use Rattle.ckc_blame_sound.specs.Settings.{Setting}
use Rattle.ckc_blame_sound.specs.Sound.{IsPlaced}
use Rattle.ckc_blame_sound.specs.Valuations.{Valuation, form_address, AreFacts, IsValuationOf}
use Rattle.ckc_blame_sound.specs.Arguments.{AreArguments}
use Rattle.ckc_blame_sound.specs.Agreeing.{IsReplaced}
use Rattle.ckc_blame_sound.specs.Containment.{Memory, IsReadBetween, IsReadWithin}
use Rattle.ckc_blame_sound.specs.Ends.{IsCounted}
use Rattle.ckc_blame_sound.specs.GivenValues.{memory_of, IsFrom}
use Rattle.ckc_blame_sound.specs.Passed.{AreParameters, IsResultBase, IsResultEnd, IsResult, result_base, result_end, result_between}
use Rattle.ckc_blame_sound.proofs.Tests.{left_of, right_of}
use Rattle.ckc_blame_sound.proofs.Contained.{contained_reads}
use Rattle.ckc_blame_sound.proofs.Ends.{amount_is}
use Rattle.ckc_blame_sound.proofs.Moved.{form_moved}
use Rattle.ckc_blame_sound.proofs.New.{new_judged}
use Rattle.ckc_blame_sound.proofs.Assigned.{base_address_is, some_equal}
use Rattle.ckc_blame_sound.proofs.Own.{own_replaced, variable_stays}
use Rattle.ckc_blame_sound.proofs.Passed.{base_over}
use Rattle.ckc_blame_sound.proofs.Called.{base_by, variable_by, number_in}

-- ---- where the call ends

module _ (s : Setting) (store : Store) (v w : Valuation) (at : State) (entry : List ℕ) (n : ℕ) (low high : Form) (are : IsValuationOf s store.locals v) (will : IsValuationOf s entry w)
    (own : w.address (Some (base.Value 0)) ≡ pos n) (is : s.head.bounds ≡ bounds.Known low high)
    (kept : (k : ℕ) → in_bounds k s.head.bounds ≡ true → slice_index store.locals k ≡ slice_index entry k) where
  kept_here : (k : ℕ) → in_bounds k (bounds.Known low high) ≡ true → slice_index entry k ≡ slice_index store.locals k
  kept_here k e = sym (kept k (ap (in_bounds k) is ∙ e))

  base_same : (size : ℕ) (b : Option Base) → IsResultBase s size b → ((j : ℕ) → names_local j b ≡ true → in_bounds j (bounds.Known low high) ≡ true) → same_base (Some (base.Value 0)) b ≡ false
      → w.address b ≡ v.address b
  base_same size None h named e = absurd h
  base_same size (Some (base.Local j)) h named e = will.pointer j ∙ ap pos (kept_here j (named j (eq-eqb j j refl))) ∙ sym (are.pointer j)
  base_same size (Some (base.Array j)) h named e = will.array j ∙ sym (are.array j)
  base_same size (Some (base.Value j)) h named e = let t : (0 == j) ≡ true = eq-eqb 0 j (sym h) in absurd cc

  variable_same : (x : ℕ) → IsCounted s x → ((j : ℕ) → (x == j + 1) ≡ true → in_bounds j (bounds.Known low high) ≡ true) → w.number x ≡ v.number x
  variable_same zero h named = will.zero ∙ sym are.zero
  variable_same (suc j) h named =
      will.number j h.local h.there h.integer ∙ ap (exact (integer_of h.local.ctype)) (kept_here j (named j (eq-eqb (suc j) (j + 1) (omega arith)))) ∙ sym (are.number j h.local h.there h.integer)

  end_replaced : (size : ℕ) (place : Option Form) → ((g : Form) → place ≡ Some g → form_address v size g ≡ pos n) → (f : Form) → IsResultEnd s size f
      → ((j : ℕ) → in_form j f ≡ true → in_bounds j (bounds.Known low high) ≡ true) → IsReplaced (own_place (base.Value 0) place) [] size v w f
  end_replaced size place at_own f h named =
      own_replaced size v w are.zero (base.Value 0) place (λ g e. at_own g e ∙ sym own) [] f
      (base_same size f.base h.base (λ j e. named j (left_of (names_local j f.base) (f.var == j + 1) e)))
      (λ g e. variable_stays v w f.var (variable_same f.var h.variable (λ j e. named j (right_of (names_local j f.base) (f.var == j + 1) e))) g e)

  pub result_read : (e : NotedExpr) (fresh : ℕ) → IsResultEnd s (size_behind s.text.layout s.head.result) low → IsResultEnd s (size_behind s.text.layout s.head.result) high
      → AreFacts v at.facts → All (IsPlaced s.text) store.blocks → IsFrom s.frame (memory_of s store s.head.result) v s.head.result e (record { value = 0; fresh = fresh }) at n
      → holds_from s.frame s.head.result (base.Value 0) e (record { value = 0; fresh = fresh }) at s.head.bounds ≡ true → IsReadBetween (memory_of s store s.head.result) w n low high
  unfolding holds_from
  result_read e fresh low_end high_end known placed from h =
      let num : Numbered = record { value = 0; fresh = fresh } in
      let value = new_value s.frame s.head.result e num at in
      let size = size_behind s.text.layout s.head.result in
      let place = (view s.frame e).place 0 value.facts in
      contained_reads (memory_of s store s.head.result) v w n value (own_place (base.Value 0) place) [] low high are.zero
      (λ all. (
        end_replaced size place (λ g e. from.place value.facts g all e) low low_end (λ j e. left_of (in_form j low) (in_form j high) e),
        end_replaced size place (λ g e. from.place value.facts g all e) high high_end (λ j e. right_of (in_form j low) (in_form j high) e),
      ))
      (new_judged s.text (memory_of s store s.head.result) v n placed are.zero s.frame s.head.result e num at known from.value)
      (subst (λ b. holds value b (own_place (base.Value 0) place) [] ≡ true) is h)

-- ---- where it was made

module _ (s c : Setting) (locals entry : List ℕ) (m : Memory) (v w : Valuation) (facts : Known) (h : HeadBounds) (es : List View) (first own n : ℕ) (text : c.text ≡ s.text)
    (parameters : AreParameters c h.params) (counts : length es ≡ length h.params) (are : IsValuationOf s locals v) (will : IsValuationOf c entry w)
    (arguments : AreArguments c.text.layout v facts h.params entry 0 first es) (own_is : v.address (Some (base.Value own)) ≡ pos n) (result_is : w.address (Some (base.Value 0)) ≡ pos n)
    (low high : Form) (ends : IsResult c m.to.size h.params low high) where
  array : (k : ℕ) → w.address (Some (base.Array k)) ≡ v.address (Some (base.Array k))
  array k = will.array k ∙ ap (λ t. pos (address_of t k)) text ∙ sym (are.array k)

  number : (j : ℕ) (p : Local) → slice_get h.params j ≡ Some p → is_integer p.ctype ≡ true → w.number (suc j) ≡ exact (integer_of p.ctype) (slice_index entry j)
  number j p there i = number_in c h.params parameters entry w will j p there i

  base_there : (b : Option Base) → IsResultBase c m.to.size b → ((j : ℕ) → names_local j b ≡ true → j < length h.params) → (g : Form)
      → base_replaced (bases_by h.params 0 first facts es ++ own_by own ∷ []) b ≡ Some g → form_address v m.to.size g ≡ w.address b
  base_there None k named g e = absurd k
  base_there (Some (base.Local j)) k named g e =
      base_by c v w facts h.params entry (own_by own ∷ []) es first parameters counts arguments are.zero will.zero array (λ k. refl) (λ j h. will.pointer j) number m.to.size (Some (base.Local j)) k named g e
  base_there (Some (base.Array j)) k named g e =
      base_by c v w facts h.params entry (own_by own ∷ []) es first parameters counts arguments are.zero will.zero array (λ k. refl) (λ j h. will.pointer j) number m.to.size (Some (base.Array j)) k named g e
  base_there (Some (base.Value j)) k named g e =
      let over = base_over c.text.layout v facts h.params entry (own_by own ∷ []) es 0 first (base.Value 0) (λ j. refl) in
      let at_zero : place_for (bases_by h.params 0 first facts es ++ own_by own ∷ []) (base.Value 0) ≡ Some g =
      ap (λ i. place_for (bases_by h.params 0 first facts es ++ own_by own ∷ []) (base.Value i)) (sym k) ∙ e in
      let same : base_form (base.Value own) ≡ g = some_equal (base_form (base.Value own)) g (sym over ∙ at_zero) in
      ap (form_address v m.to.size) (sym same) ∙ base_address_is v m.to.size (base.Value own) are.zero ∙ own_is ∙ sym result_is ∙ ap (λ i. w.address (Some (base.Value i))) (sym k)

  end_there : (f : Form) → IsResultEnd c m.to.size f → ((j : ℕ) → in_form j f ≡ true → j < length h.params)
      → IsReplaced (bases_by h.params 0 first facts es ++ own_by own ∷ []) (variables_by h.params 0 facts es) m.to.size v w f
  end_there f k named = record {
    base = base_there f.base k.base (λ j e. named j (left_of (names_local j f.base) (f.var == j + 1) e));
    variable = variable_by c v w facts h.params entry (own_by own ∷ []) es first parameters counts arguments are.zero will.zero array (λ k. refl) (λ j h. will.pointer j) number f.var k.variable
        (λ j e. named j (right_of (names_local j f.base) (f.var == j + 1) e));
  }

  pub call_read : h.bounds ≡ bounds.Known low high → IsReadBetween m w n low high → IsReadWithin m v n (range_of_result (Some h) es own first facts)
  call_read is read =
      subst (λ b. IsReadWithin m v n (range_of_ends (replaced_bounds (bases_by h.params 0 first facts es ++ own_by own ∷ []) (variables_by h.params 0 facts es) b))) (sym is)
      (by (replaced (bases_by h.params 0 first facts es ++ own_by own ∷ []) (variables_by h.params 0 facts es) low)
      (replaced (bases_by h.params 0 first facts es ++ own_by own ∷ []) (variables_by h.params 0 facts es) high) refl refl)
    where
      by : (o p : Option Form) → replaced (bases_by h.params 0 first facts es ++ own_by own ∷ []) (variables_by h.params 0 facts es) low ≡ o
          → replaced (bases_by h.params 0 first facts es ++ own_by own ∷ []) (variables_by h.params 0 facts es) high ≡ p → IsReadWithin m v n (range_of_ends (both_ends o p))
      by None p d e = tt
      by (Some f) None d e = tt
      by (Some f) (Some g) d e =
          let bs = bases_by h.params 0 first facts es ++ own_by own ∷ [] in
          let vs = variables_by h.params 0 facts es in
          let first_is = form_moved bs vs m.to.size v w low f are.zero (end_there low ends.low_end (λ j e. ends.named j (left_of (in_form j low) (in_form j high) e))) d in
          let last_is = form_moved bs vs m.to.size v w high g are.zero (end_there high ends.high_end (λ j e. ends.named j (right_of (in_form j low) (in_form j high) e))) e in
          subst (λ x. IsOk (reads m.shapes m.blocks m.to n x (form_address v m.to.size g))) (sym first_is)
          (subst (λ y. IsOk (reads m.shapes m.blocks m.to n (form_address w m.to.size low) y)) (sym last_is) read)

-- ---- as a program reads it

module _ (s : Setting) (store : Store) (w : Valuation) (entry : List ℕ) (n : ℕ) (low high : Form) (will : IsValuationOf s entry w) (own : w.address (Some (base.Value 0)) ≡ pos n) where
  result_base_is : (size : ℕ) (b : Option Base) → IsResultBase s size b → pos (base_address entry n (result_base s b)) ≡ w.address b
  result_base_is size None h = absurd h
  result_base_is size (Some (base.Local k)) h = sym (will.pointer k)
  result_base_is size (Some (base.Array k)) h = sym (will.array k)
  result_base_is size (Some (base.Value k)) h = sym own ∙ ap (λ i. w.address (Some (base.Value i))) (sym h)

  result_end_is : (size : ℕ) (f : Form) → IsResultEnd s size f → end_address entry size n (result_end s f) ≡ form_address w size f
  result_end_is size f h =
      ap (λ z. z +ℤ (pos size *ℤ amount entry (variable_at s.variables f.var) f.add)) (result_base_is size f.base h.base)
      ∙ ap (λ z. w.address f.base +ℤ (pos size *ℤ z)) (amount_is s entry w will f.var f.add h.variable)

  pub result_reads : IsResultEnd s (size_behind s.text.layout s.head.result) low → IsResultEnd s (size_behind s.text.layout s.head.result) high
      → IsReadBetween (memory_of s store s.head.result) w n low high → IsOk (reads_limited (record store { locals = entry }) (result_between s low high) n)
  result_reads first last h =
      let size = size_behind s.text.layout s.head.result in
      subst (λ y. IsOk (reads store.shapes store.blocks (pointee_of s.text.layout s.head.result) n (end_address entry size n (result_end s low)) y)) (sym (result_end_is size high last))
      (subst (λ x. IsOk (reads store.shapes store.blocks (pointee_of s.text.layout s.head.result) n x (form_address w size high))) (sym (result_end_is size low first)) h)

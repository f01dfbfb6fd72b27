-- What is known of an expression is known of its value after a conversion.
use Rattle.std.proofs.Common.{◌≡◌, ◌⊎◌, refl, sym, ap, subst, ◌∙◌, ℕ}
use Rattle.std.specs.Prelude.{◌%◌, ◌<◌, ◌^◌, Bool, true, false, if◌then◌else◌, ℤ, pos, ◌-ℤ◌, Option, None, Some}
use Rattle.ckc_linear.specs.declared.forms.Form.{Form}
use Rattle.ckc_types.specs.declared.types.CType.{CType, CType-F, out-CType}
use Rattle.ckc_typed.specs.declared.typed.Range.{Range}
use Rattle.ckc_typed.specs.declared.typed.Range.TheVariants as range
use Rattle.ckc_typed.specs.Conversions.{is_null}
use Rattle.ckc_typed.specs.Trees.{NotedExpr}
use Rattle.ckc_typed.specs.Types.{is_integer, is_pointer, is_char, is_pointer_form}
use Rattle.ckc_blame_sound.specs.ckc_bounds_known.specs.Ranges.{range_in}
use Rattle.ckc_blame_sound.specs.ckc_bounds_points.specs.Flow.{State}
use Rattle.ckc_blame_sound.specs.ckc_bounds_points.specs.Forms.{in_type, within_interval}
use Rattle.ckc_blame_sound.specs.ckc_bounds_points.specs.Shown.{Known}
use Rattle.ckc_blame_sound.specs.ckc_bounds_views.specs.Views.{view}
use Rattle.ckc_blame_sound.specs.ckc_bounds_stores.specs.declared.values.Numbered.{Numbered}
use Rattle.ckc_blame_sound.specs.ckc_bounds_stores.specs.Values.{narrow}
use Rattle.ckc_source.specs.Eval.{Store}
use Rattle.ckc_source.specs.Words.{exact}
use Rattle.ckc_build_values.specs.Kinds.{integer_of, size_behind}
use Rattle.ckc_blame_sound.specs.Settings.{Setting}
use Rattle.ckc_blame_sound.specs.Values.{number_of, IsNumberOf}
use Rattle.ckc_blame_sound.specs.Valuations.{Valuation, form_address, AreFacts}
use Rattle.ckc_blame_sound.proofs.Typed.{number_in_type}
use Rattle.ckc_blame_sound.proofs.Types.{no_pointer, char_is, in_type_of, word_wide}
use Rattle.ckc_blame_sound.proofs.IntegerWords.{InType, exact_is, read_back, narrowed_is}
use Rattle.ckc_blame_sound.specs.Containment.{IsReadWithin}
use Rattle.ckc_blame_sound.specs.GivenValues.{memory_of}
use Rattle.ckc_blame_given.specs.Gives.{Gives}
use Rattle.ckc_blame_given.proofs.Converted.{Becomes, element_looser, ending_looser}
use Rattle.ckc_blame_given.proofs.From.{wide, narrow_there}
use Rattle.ckc_blame_steps.proofs.Converted.{taken, taken_zero, taken_pointer}
use Rattle.ckc_blame_given.proofs.Views.{known_range, placed_pointer}

-- no form is a number of a pointer type
no_form : (t : CType) (facts : Known) (o : Option Form) (f : Form) → is_pointer t ≡ true → in_type facts t o ≡ Some f → ⊥
no_form t facts None f p e = absurd cc
no_form t facts (Some g) f p e = by (out-CType t) p e
  where
    by : (x : CType-F CType) → is_pointer_form x ≡ true → within_interval facts g (range_in x) ≡ Some f → ⊥
    by (CType-F.Pointer k u) p e = absurd cc
    by CType-F.Int p e = absurd cc
    by CType-F.Unsigned p e = absurd cc
    by CType-F.Char p e = absurd cc
    by CType-F.Void p e = absurd cc
    by (CType-F.Struct tag) p e = absurd cc

-- a number of an integer type is what its word is read as, once it is converted to that
exact_taken : (t u : CType) (w : ℕ) (z : ℤ) → is_integer t ≡ true → w < 2 ^ 32 → IsNumberOf t z → z ≡ exact (integer_of u) w → exact (integer_of t) (taken t w) ≡ z
exact_taken t u w z integer word number is = by (is_char t) refl
  where
    spelled : (z ≡ pos w) ⊎ (z ≡ pos w -ℤ pos (2 ^ 32))
    spelled = subst (λ y. (y ≡ pos w) ⊎ (y ≡ pos w -ℤ pos (2 ^ 32))) (sym is) (exact_is (integer_of u) w word)

    by : (b : Bool) → is_char t ≡ b → exact (integer_of t) (if b then w % 256 else w) ≡ z
    by true c =
        let k = char_is t c in
        ap (λ i. exact i (w % 256)) k ∙ narrowed_is w z spelled word (subst (λ i. InType i z) k (in_type_of t z integer number))
    by false c = read_back (integer_of t) w z word (in_type_of t z integer number) spelled

module _ (s : Setting) (store : Store) (at : State) (v : Valuation) (zero_is : v.number 0 ≡ pos 0) (e : NotedExpr) (from : Numbered) (w : ℕ) (t : CType) (how : Becomes t e)
    (g : Gives s store v at e from w) where
  pub word_is : w < 2 ^ 32
  word_is = word_wide e.note.ctype w g.word

  pub null_taken : (view s.frame e).null ≡ true → taken t w ≡ 0
  null_taken h = taken_zero t w (g.null h)

  both : {A : Type 0} → is_integer e.note.ctype ≡ true → is_pointer e.note.ctype ≡ true → A
  both i p = let n = no_pointer e.note.ctype i in absurd cc

  -- a pointer is taken as it is, and integers have no range
  read_taken : (r : Range) → ((low high : Form) → r ≡ range.Known low high → (is_pointer e.note.ctype ≡ true) × (is_null e ≡ false)) → IsReadWithin (memory_of s store t) v w r
      → IsReadWithin (memory_of s store t) v (taken t w) r
  read_taken (range.Known low high) known h = by how
    where
      same : is_pointer t ≡ true → IsReadWithin (memory_of s store t) v (taken t w) (range.Known low high)
      same to = subst (λ n. IsReadWithin (memory_of s store t) v n (range.Known low high)) (sym (taken_pointer t w to)) h

      by : Becomes t e → IsReadWithin (memory_of s store t) v (taken t w) (range.Known low high)
      by (Becomes.Integers to from) = both from (known low high refl).0
      by (Becomes.Null to null bare) = same to
      by (Becomes.Literal to string ends element) = same to
      by (Becomes.Pointers to element terminated) = same to
  read_taken range.Any known h = tt
  read_taken range.Missing known h = tt

  pub wide_taken : IsReadWithin (memory_of s store t) v (taken t w) ((view s.frame e).range from.value from.fresh at)
  wide_taken = read_taken ((view s.frame e).range from.value from.fresh at) (λ low high is. known_range s.frame e from.value from.fresh at low high is) (wide s store at v e from w t how g)

  pub narrow_taken : IsReadWithin (memory_of s store t) v (taken t w) ((view s.frame e).range from.value from.fresh (narrow at))
  narrow_taken = read_taken ((view s.frame e).range from.value from.fresh (narrow at)) (λ low high is. known_range s.frame e from.value from.fresh (narrow at) low high is)
      (narrow_there s store at v e from w t how g)

  pub placed_taken : (facts : Known) (f : Form) → AreFacts v facts → (view s.frame e).place from.value facts ≡ Some f → form_address v (size_behind s.text.layout t) f ≡ pos (taken t w)
  placed_taken facts f all is = by how
    where
      there : form_address v (size_behind s.text.layout e.note.ctype) f ≡ pos w
      there = g.place facts f all is

      by : Becomes t e → form_address v (size_behind s.text.layout t) f ≡ pos (taken t w)
      by (Becomes.Integers to integer) = both integer (placed_pointer s.frame e from.value facts f is)
      by (Becomes.Null to null bare) = let n = bare s.frame from.value facts in absurd cc
      by (Becomes.Literal to string ends element) = ap (λ size. form_address v size f) (ending_looser s.text.layout t e.note.ctype element).size ∙ there ∙ ap pos (sym (taken_pointer t w to))
      by (Becomes.Pointers to element terminated) =
          ap (λ size. form_address v size f) (element_looser s.text.layout t e.note.ctype element terminated).size ∙ there ∙ ap pos (sym (taken_pointer t w to))

  pub number_taken : (facts : Known) (f : Form) → AreFacts v facts → in_type facts t ((view s.frame e).form facts) ≡ Some f → number_of v.number f ≡ exact (integer_of t) (taken t w)
  number_taken facts f all is = by how
    where
      by : Becomes t e → number_of v.number f ≡ exact (integer_of t) (taken t w)
      by (Becomes.Integers to from) =
          let n = number_in_type v.number zero_is facts all t ((view s.frame e).form facts) f is in
          let z = g.form facts f all n.0 in
          sym (exact_taken t e.note.ctype w (number_of v.number f) to word_is n.1 z)
      by (Becomes.Null to null bare) = absurd (no_form t facts ((view s.frame e).form facts) f to is)
      by (Becomes.Literal to string ends element) = absurd (no_form t facts ((view s.frame e).form facts) f to is)
      by (Becomes.Pointers to element terminated) = absurd (no_form t facts ((view s.frame e).form facts) f to is)

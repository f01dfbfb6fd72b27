-- The ends of the bounds of a local as a program reads them are those that the judgement speaks of.
use Rattle.std.proofs.Common.{◌≡◌, ℕ, zero, suc, ◌==◌, refl, sym, ◌∙◌, ap, subst, List, ℤ, ◌+ℤ◌, arith}
use Rattle.std.specs.Prelude.{Bool, true, false, ◌-◌, pos, ◌*ℤ◌, if◌then◌else◌, slice_index, Option, None, Some, IsOk}
use Rattle.std.proofs.lemmas.Int.{ints}
use Rattle.std.proofs.lemmas.Bool.{eqb-true}
use Rattle.std.proofs.lemmas.Bool.Decides.{nat_tests}
use Rattle.ckc_types.specs.declared.types.CType.{CType}
use Rattle.ckc_linear.specs.declared.forms.Base.{Base}
use Rattle.ckc_linear.specs.declared.forms.Base.TheVariants as base
use Rattle.ckc_linear.specs.declared.forms.Form.{Form}
use Rattle.ckc_syntax.specs.declared.tree.Name.TheVariants as name
use Rattle.ckc_typed.specs.declared.typed.Range.TheVariants as range
use Rattle.ckc_typed.specs.Environment.{variable_named}
use Rattle.ckc_typed.specs.Types.{is_integer}
use Rattle.ckc_bounds.specs.ckc_bounds_points.specs.declared.frame.Local.{Local}
use Rattle.ckc_bounds.specs.ckc_bounds_points.specs.Frames.{local_at}
use Rattle.ckc_source.specs.declared.expr.Base.TheVariants as end
use Rattle.ckc_source.specs.Words.{exact}
use Rattle.ckc_source.specs.Eval.{Store, amount, base_address, end_address, reads}
use Rattle.ckc_build_values.specs.Ends.{integer_in_variable, local_variable, base_at, variable_at, end_at}
use Rattle.ckc_build_values.specs.Kinds.{integer_of, size_behind, pointee_of}
use Rattle.ckc_build_values.specs.Names.{address_of}
use Rattle.ckc_blame_sound.specs.Settings.{Setting}
use Rattle.ckc_blame_sound.specs.Points.{IsReadable}
use Rattle.ckc_blame_sound.specs.Values.{value, value_in}
use Rattle.ckc_blame_sound.specs.Valuations.{Valuation, form_address, IsValuationOf}
use Rattle.ckc_blame_sound.specs.Containment.{IsReadBetween}
use Rattle.ckc_blame_sound.specs.Ends.{IsCounted, IsBase, IsEnd}
use Rattle.ckc_blame_sound.specs.GivenValues.{memory_of}

-- ---- the valuation that locals give

abbrev address_of_base : Setting → List ℕ → Option Base → ℤ
address_of_base s locals (Some (base.Local k)) = pos (slice_index locals k)
address_of_base s locals (Some (base.Array k)) = pos (address_of s.text k)
address_of_base s locals _ = pos 0

pub valuation_of : Setting → List ℕ → Valuation
valuation_of s locals = record { number = value s.frame locals; address = address_of_base s locals }

pub number_there : (s : Setting) (locals : List ℕ) (k : ℕ) (l : Local) → local_at s.frame k ≡ Some l → is_integer l.ctype ≡ true
    → value s.frame locals (suc k) ≡ exact (integer_of l.ctype) (slice_index locals k)
number_there s locals k l there i =
    ap (λ o. value_in o (slice_index locals k)) there ∙ ap (λ b. if b then exact (integer_of l.ctype) (slice_index locals k) else pos 0) i

pub values_are : (s : Setting) (locals : List ℕ) → IsValuationOf s locals (valuation_of s locals)
unfolding valuation_of
values_are s locals = record { zero = refl; number = number_there s locals; pointer = λ k. refl; array = λ k. refl }

-- ---- the ends of bounds

module _ (s : Setting) (locals : List ℕ) (v : Valuation) (are : IsValuationOf s locals v) where
  base_is : (size own : ℕ) (b : Option Base) → IsBase s size b → pos (base_address locals (slice_index locals own) (base_at s.text own b)) ≡ v.address b
  base_is size own None h = absurd h
  base_is size own (Some (base.Array k)) h = sym (are.array k)
  base_is size own (Some (base.Value k)) h = absurd h
  base_is size own (Some (base.Local k)) h = by (k == own) refl ∙ sym (are.pointer k)
    where
      by : (b : Bool) → (k == own) ≡ b → pos (base_address locals (slice_index locals own) (if b then end.Own else end.Local k)) ≡ pos (slice_index locals k)
      by true e = ap (λ j. pos (slice_index locals j)) (sym (eqb-true k own e))
      by false e = refl

  pub amount_is : (x : ℕ) (c : ℤ) → IsCounted s x → amount locals (variable_at s.variables x) c ≡ v.number x +ℤ c
  amount_is zero c h = let z = are.zero in omega (arith, ints)
  amount_is (suc k) c h = ap (λ b. amount locals (if b then None else Some (local_variable s.variables (suc k - 1))) c) not_zero ∙ by (suc k - 1) (omega arith)
    where
      not_zero : (suc k == 0) ≡ false
      not_zero = grind (arith, nat_tests)

      there : amount locals (Some (record { local = k; form = integer_in_variable (variable_named s.variables (name.Local k)) })) c ≡ v.number (suc k) +ℤ c
      there = ap (λ t. exact t (slice_index locals k) +ℤ c) h.same ∙ ap (λ z. z +ℤ c) (sym (are.number k h.local h.there h.integer))

      by : (j : ℕ) → j ≡ k → amount locals (Some (record { local = j; form = integer_in_variable (variable_named s.variables (name.Local j)) })) c ≡ v.number (suc k) +ℤ c
      by j e = subst (λ i. amount locals (Some (record { local = i; form = integer_in_variable (variable_named s.variables (name.Local i)) })) c ≡ v.number (suc k) +ℤ c) (sym e) there

  end_is : (size own : ℕ) (f : Form) → IsEnd s size f → end_address locals size (slice_index locals own) (end_at s.text s.variables own f) ≡ form_address v size f
  end_is size own f h =
      ap (λ z. z +ℤ (pos size *ℤ amount locals (variable_at s.variables f.var) f.add)) (base_is size own f.base h.base)
      ∙ ap (λ z. v.address f.base +ℤ (pos size *ℤ z)) (amount_is f.var f.add h.variable)

module _ (s : Setting) (store : Store) (v : Valuation) (are : IsValuationOf s store.locals v) (k : ℕ) (t : CType) (low high : Form)
    (first : IsEnd s (size_behind s.text.layout t) low) (last : IsEnd s (size_behind s.text.layout t) high) where
  abbrev Between : ℤ → ℤ → Type 0
  Between x y = IsOk (reads store.shapes store.blocks (pointee_of s.text.layout t) (slice_index store.locals k) x y)

  pub read_as : IsReadable s store k t (range.Known low high) → IsReadBetween (memory_of s store t) v (slice_index store.locals k) low high
  read_as h =
      subst (λ x. Between x (form_address v (size_behind s.text.layout t) high)) (end_is s store.locals v are (size_behind s.text.layout t) k low first)
      (subst (λ y. Between (end_address store.locals (size_behind s.text.layout t) (slice_index store.locals k) (end_at s.text s.variables k low)) y)
      (end_is s store.locals v are (size_behind s.text.layout t) k high last) h)

  pub reads_so : IsReadBetween (memory_of s store t) v (slice_index store.locals k) low high → IsReadable s store k t (range.Known low high)
  reads_so h =
      subst (λ y. Between (end_address store.locals (size_behind s.text.layout t) (slice_index store.locals k) (end_at s.text s.variables k low)) y)
      (sym (end_is s store.locals v are (size_behind s.text.layout t) k high last))
      (subst (λ x. Between x (form_address v (size_behind s.text.layout t) high)) (sym (end_is s store.locals v are (size_behind s.text.layout t) k low first)) h)

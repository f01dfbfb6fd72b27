-- Bounds in which the base that is the pointer itself is replaced by the place of its new value.
use Rattle.std.proofs.Common.{◌≡◌, ℕ, refl, sym, ◌∙◌, ap, List, [], ◌+ℤ◌, arith}
use Rattle.std.specs.Prelude.{Bool, true, false, pos, ◌*ℤ◌, if◌then◌else◌, Option, None, Some}
use Rattle.std.proofs.lemmas.Int.{ints}
use Rattle.std.proofs.Math.IntN.{*ℤ-zero}
use Rattle.ckc_linear.specs.declared.forms.Base.{Base}
use Rattle.ckc_linear.specs.declared.forms.Base.TheVariants as base
use Rattle.ckc_linear.specs.declared.forms.Form.{Form}
use Rattle.ckc_bounds.specs.ckc_bounds_points.specs.Forms.{same_base, base_form}
use Rattle.ckc_bounds.specs.ckc_bounds_ranges.specs.declared.replacements.VariableBy.{VariableBy}
use Rattle.ckc_bounds.specs.ckc_bounds_ranges.specs.Replaced.{base_replaced, variable_replaced}
use Rattle.ckc_bounds.specs.ckc_bounds_stores.specs.Stores.{own_place}
use Rattle.ckc_blame_sound.specs.Values.{number_of}
use Rattle.ckc_blame_sound.specs.Valuations.{Valuation, form_address}
use Rattle.ckc_blame_sound.specs.Agreeing.{IsReplaced}
use Rattle.ckc_blame_sound.proofs.Contained.{base_equal}
use Rattle.ckc_blame_sound.proofs.Assigned.{base_address_is, some_equal}

-- the form that stands for nothing
abbrev pub bare : Form
bare = record { base = None; var = 0; add = pos 0 }

pub bare_address_is : (v : Valuation) (size : ℕ) → v.number 0 ≡ pos 0 → form_address v size bare ≡ v.address None
bare_address_is v size z =
    let none : v.number 0 +ℤ pos 0 ≡ pos 0 = omega (arith, ints) in
    let zero_is = ap (λ n. pos size *ℤ n) none ∙ *ℤ-zero (pos size) in
    omega (arith, ints)

no_base : (b : Base) → same_base (Some b) None ≡ false
no_base (base.Local k) = refl
no_base (base.Array k) = refl
no_base (base.Value k) = refl

module _ (size : ℕ) (v w : Valuation) (zero_is : v.number 0 ≡ pos 0) (own : Base) (place : Option Form)
    (placed : (g : Form) → place ≡ Some g → form_address v size g ≡ w.address (Some own)) where
  base_by : (b : Option Base) → (same_base (Some own) b ≡ false → w.address b ≡ v.address b) → (g : Form) → base_replaced (own_place own place) b ≡ Some g
      → form_address v size g ≡ w.address b
  base_by None others g e =
      let same : bare ≡ g = some_equal bare g e in
      ap (form_address v size) (sym same) ∙ bare_address_is v size zero_is ∙ sym (others (no_base own))
  base_by (Some b) others g e = by (same_base (Some own) (Some b)) refl e
    where
      by : (c : Bool) → same_base (Some own) (Some b) ≡ c → (if c then place else Some (base_form b)) ≡ Some g → form_address v size g ≡ w.address (Some b)
      by true f e = placed g e ∙ ap w.address (base_equal (Some own) (Some b) f)
      by false f e =
          let same : base_form b ≡ g = some_equal (base_form b) g e in
          ap (form_address v size) (sym same) ∙ base_address_is v size b zero_is ∙ sym (others f)

  pub own_replaced : (variables : List VariableBy) (f : Form) → (same_base (Some own) f.base ≡ false → w.address f.base ≡ v.address f.base)
      → ((g : Form) → variable_replaced variables f.var ≡ Some g → number_of v.number g ≡ w.number f.var)
      → IsReplaced (own_place own place) variables size v w f
  own_replaced variables f others variable = record { base = base_by f.base others; variable = variable }

-- a variable that nothing replaces
pub variable_stays : (v w : Valuation) (x : ℕ) → w.number x ≡ v.number x → (g : Form) → variable_replaced [] x ≡ Some g → number_of v.number g ≡ w.number x
variable_stays v w x e g h =
    let form : Form = record { base = None; var = x; add = pos 0 } in
    let same : form ≡ g = some_equal form g h in
    let a : number_of v.number g ≡ v.number x +ℤ pos 0 = ap (number_of v.number) (sym same) in
    omega (arith, ints)

-- A form with its base and its variable replaced stands for what it stands for after.
use Rattle.std.proofs.Common.{◌≡◌, ℕ, refl, sym, ◌∙◌, ap, ℤ, ◌+ℤ◌, arith, List}
use Rattle.std.specs.Prelude.{Bool, true, false, ◌==◌, ◌&&◌, pos, ◌*ℤ◌, if◌then◌else◌, Option, None, Some}
use Rattle.std.proofs.lemmas.Int.{ints}
use Rattle.std.proofs.lemmas.Bool.{eqb-true}
use Rattle.ckc_linear.specs.declared.forms.Form.{Form}
use Rattle.ckc_bounds.specs.ckc_bounds_known.specs.Ranges.{is_small}
use Rattle.ckc_bounds.specs.ckc_bounds_points.specs.Forms.{moved_form, sum_of_forms}
use Rattle.ckc_bounds.specs.ckc_bounds_ranges.specs.declared.replacements.BaseBy.{BaseBy}
use Rattle.ckc_bounds.specs.ckc_bounds_ranges.specs.declared.replacements.VariableBy.{VariableBy}
use Rattle.ckc_bounds.specs.ckc_bounds_ranges.specs.Replaced.{base_replaced, variable_replaced, replaced}
use Rattle.ckc_blame_sound.specs.Values.{number_of}
use Rattle.ckc_blame_sound.specs.Valuations.{Valuation, form_address}
use Rattle.ckc_blame_sound.specs.Agreeing.{IsReplaced}
use Rattle.ckc_blame_sound.proofs.ContainedNumbers.{spread}

-- a moved form is one with another number
pub moved_is : (o : Option Form) (c : ℤ) (g : Form) → moved_form o c ≡ Some g → (f : Form) × (o ≡ Some f) × (g ≡ record f { add = f.add +ℤ c })
moved_is None c g e = absurd cc
moved_is (Some f) c g e = by (is_small f.add && is_small c) e
  where
    by : (b : Bool) → (if b then Some (record f { add = f.add +ℤ c }) else None) ≡ Some g → (h : Form) × (◌≡◌ {A = Option Form} (Some f) (Some h)) × (g ≡ record h { add = h.add +ℤ c })
    by true e = (f, refl, cc)
    by false e = absurd cc

module _ (v : Valuation) (size : ℕ) (zero_is : v.number 0 ≡ pos 0) where
  further : (f g : Form) (c : ℤ) → g ≡ record f { add = f.add +ℤ c } → form_address v size g ≡ form_address v size f +ℤ (pos size *ℤ c)
  further f g c e =
      let x : form_address v size g ≡ v.address f.base +ℤ (pos size *ℤ (v.number f.var +ℤ (f.add +ℤ c))) = ap (form_address v size) e in
      let y : v.number f.var +ℤ (f.add +ℤ c) ≡ (v.number f.var +ℤ f.add) +ℤ c = omega (arith, ints) in
      let z = ap (λ n. pos size *ℤ n) y ∙ spread size (v.number f.var +ℤ f.add) c in
      omega (arith, ints)

  -- a form so many elements after another one
  sum_is : (f g h : Form) → sum_of_forms (Some f) (Some g) ≡ Some h → form_address v size h ≡ form_address v size f +ℤ (pos size *ℤ number_of v.number g)
  sum_is f g h e = by (g.var == 0) (f.var == 0) refl refl e
    where
      by : (a b : Bool) → (g.var == 0) ≡ a → (f.var == 0) ≡ b
          → (if a then moved_form (Some f) g.add else (if b then moved_form (Some (record f { var = g.var })) g.add else None)) ≡ Some h
          → form_address v size h ≡ form_address v size f +ℤ (pos size *ℤ number_of v.number g)
      by true b p q e =
          let m = moved_is (Some f) g.add h e in
          let same : m.0 ≡ f = cc in
          let is : h ≡ record f { add = f.add +ℤ g.add } = m.2 ∙ ap (λ (k : Form). record k { add = k.add +ℤ g.add }) same in
          let none : v.number g.var ≡ pos 0 = ap v.number (eqb-true g.var 0 p) ∙ zero_is in
          let number : number_of v.number g ≡ g.add = omega (arith, ints) in
          further f h g.add is ∙ ap (λ n. form_address v size f +ℤ (pos size *ℤ n)) (sym number)
      by false true p q e =
          let k : Form = record f { var = g.var } in
          let m = moved_is (Some k) g.add h e in
          let same : m.0 ≡ k = cc in
          let is : h ≡ record k { add = k.add +ℤ g.add } = m.2 ∙ ap (λ (k : Form). record k { add = k.add +ℤ g.add }) same in
          let none : v.number f.var ≡ pos 0 = ap v.number (eqb-true f.var 0 q) ∙ zero_is in
          let y : v.number g.var +ℤ (f.add +ℤ g.add) ≡ (v.number f.var +ℤ f.add) +ℤ (v.number g.var +ℤ g.add) = omega (arith, ints) in
          let z = ap (λ n. pos size *ℤ n) y ∙ spread size (v.number f.var +ℤ f.add) (v.number g.var +ℤ g.add) in
          let x : form_address v size h ≡ v.address f.base +ℤ (pos size *ℤ (v.number g.var +ℤ (f.add +ℤ g.add))) = ap (form_address v size) is in
          omega (arith, ints)
      by false false p q e = absurd cc

both_there : (o p : Option Form) (h : Form) → sum_of_forms o p ≡ Some h → (f : Form) × (g : Form) × (o ≡ Some f) × (p ≡ Some g)
both_there None p h e = absurd cc
both_there (Some f) None h e = absurd cc
both_there (Some f) (Some g) h e = (f, g, refl, refl)

pub form_moved : (bases : List BaseBy) (variables : List VariableBy) (size : ℕ) (before after : Valuation) (f g : Form) → before.number 0 ≡ pos 0
    → IsReplaced bases variables size before after f → replaced bases variables f ≡ Some g → form_address before size g ≡ form_address after size f
form_moved bases variables size before after f g zero_is r e =
    let m = moved_is (sum_of_forms (base_replaced bases f.base) (variable_replaced variables f.var)) f.add g e in
    let b = both_there (base_replaced bases f.base) (variable_replaced variables f.var) m.0 m.1 in
    let sum : sum_of_forms (Some b.0) (Some b.1) ≡ Some m.0 = cc in
    let there = sum_is before size zero_is b.0 b.1 m.0 sum in
    let on = further before size zero_is m.0 g f.add m.2 in
    let base = r.base b.0 b.2 in
    let variable = ap (λ n. pos size *ℤ n) (r.variable b.1 b.3) in
    let split = spread size (after.number f.var) f.add in
    omega (arith, ints)

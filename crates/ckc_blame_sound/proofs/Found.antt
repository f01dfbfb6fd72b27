-- What replaces a local among assignments is what the first assignment to it gives.
use Rattle.std.proofs.Common.{◌≡◌, ℕ, suc, ◌==◌, ◌<◌, refl, ◌∙◌, ap, List, [], ◌∷◌, arith}
use Rattle.std.specs.Prelude.{Bool, true, false, cond, pos, if◌then◌else◌, Option, None, Some}
use Rattle.std.specs.List.{find, cons_option}
use Rattle.std.specs.Option.{option_map}
use Rattle.std.proofs.lemmas.Bool.Decides.{nat_tests}
use Rattle.ckc_linear.specs.declared.forms.Base.TheVariants as base
use Rattle.ckc_linear.specs.declared.forms.Form.{Form}
use Rattle.ckc_bounds.specs.ckc_bounds_points.specs.declared.frame.Frame.{Frame}
use Rattle.ckc_bounds.specs.ckc_bounds_points.specs.Shown.{Known}
use Rattle.ckc_bounds.specs.ckc_bounds_points.specs.Forms.{base_form}
use Rattle.ckc_bounds.specs.ckc_bounds_ranges.specs.Replaced.{place_for, variable_replaced}
use Rattle.ckc_bounds.specs.ckc_bounds_views.specs.Parts.{capped}
use Rattle.ckc_bounds.specs.ckc_bounds_stores.specs.Stores.{Placed, received, place_of, bases, variables, assigns, assigns_local}
use Rattle.ckc_bounds.specs.ckc_bounds_stores.specs.Targets.{local_of}

module _ (frame : Frame) (facts : Known) where
  -- what replaces a base
  abbrev pub base_found : ℕ → Option Placed → Option Form
  base_found j None = Some (base_form (base.Local j))
  base_found j (Some p) = place_of frame facts p

  pub place_is : (j : ℕ) (ps : List Placed) → place_for (bases frame facts ps) (base.Local j) ≡ base_found j (find (assigns_local j) ps)
  place_is j [] = refl
  place_is j (p ∷ ps) = by (place_is j ps) (local_of p.target)
    where
      one : place_for (bases frame facts ps) (base.Local j) ≡ base_found j (find (assigns_local j) ps) → (i : ℕ) (b : Bool) → (if b then place_of frame facts p else place_for (bases frame facts ps) (base.Local j)) ≡ base_found j (cond b (Some p) (find (assigns_local j) ps))
      one rest i true = refl
      one rest i false = rest

      by : place_for (bases frame facts ps) (base.Local j) ≡ base_found j (find (assigns_local j) ps) → (o : Option ℕ) → place_for (cons_option (option_map (λ k. record { base = base.Local k; by = place_of frame facts p }) o) (bases frame facts ps)) (base.Local j)
          ≡ base_found j (cond (assigns j o) (Some p) (find (assigns_local j) ps))
      by rest None = rest
      by rest (Some i) = one rest i (i == j)

  pub array_stays : (j : ℕ) (ps : List Placed) → place_for (bases frame facts ps) (base.Array j) ≡ Some (base_form (base.Array j))
  array_stays j [] = refl
  array_stays j (p ∷ ps) = by (array_stays j ps) (local_of p.target)
    where
      by : place_for (bases frame facts ps) (base.Array j) ≡ Some (base_form (base.Array j)) → (o : Option ℕ) → place_for (cons_option (option_map (λ k. record { base = base.Local k; by = place_of frame facts p }) o) (bases frame facts ps)) (base.Array j)
          ≡ Some (base_form (base.Array j))
      by rest None = rest
      by rest (Some i) = rest

  -- the form of a variable itself
  abbrev pub variable_form : ℕ → Form
  variable_form x = record { base = None; var = x; add = pos 0 }

  -- what replaces a variable
  abbrev pub variable_found : ℕ → Option Placed → Option Form
  variable_found j None = Some (variable_form (suc j))
  variable_found j (Some p) = received frame facts p

  capped_same : (i j : ℕ) → j < 1024 → (capped i 1 == suc j) ≡ (i == j)
  capped_same i j h = grind (arith, nat_tests)

  pub form_is : (j : ℕ) → j < 1024 → (ps : List Placed) → variable_replaced (variables frame facts ps) (suc j) ≡ variable_found j (find (assigns_local j) ps)
  form_is j h [] = refl
  form_is j h (p ∷ ps) = by (form_is j h ps) (local_of p.target)
    where
      one : variable_replaced (variables frame facts ps) (suc j) ≡ variable_found j (find (assigns_local j) ps) → (i : ℕ) (b : Bool) → (if b then received frame facts p else variable_replaced (variables frame facts ps) (suc j)) ≡ variable_found j (cond b (Some p) (find (assigns_local j) ps))
      one rest i true = refl
      one rest i false = rest

      by : variable_replaced (variables frame facts ps) (suc j) ≡ variable_found j (find (assigns_local j) ps) → (o : Option ℕ) → variable_replaced (cons_option (option_map (λ k. record { var = capped k 1; by = received frame facts p }) o) (variables frame facts ps)) (suc j)
          ≡ variable_found j (cond (assigns j o) (Some p) (find (assigns_local j) ps))
      by rest None = rest
      by rest (Some i) = ap (λ b. if b then received frame facts p else variable_replaced (variables frame facts ps) (suc j)) (capped_same i j h) ∙ one rest i (i == j)

  capped_some : (i : ℕ) → (capped i 1 == 0) ≡ false
  capped_some i = grind (arith, nat_tests)

  pub zero_stays : (ps : List Placed) → variable_replaced (variables frame facts ps) 0 ≡ Some (variable_form 0)
  zero_stays [] = refl
  zero_stays (p ∷ ps) = by (zero_stays ps) (local_of p.target)
    where
      by : variable_replaced (variables frame facts ps) 0 ≡ Some (variable_form 0) → (o : Option ℕ) → variable_replaced (cons_option (option_map (λ k. record { var = capped k 1; by = received frame facts p }) o) (variables frame facts ps)) 0
          ≡ Some (variable_form 0)
      by rest None = rest
      by rest (Some i) = ap (λ b. if b then received frame facts p else variable_replaced (variables frame facts ps) 0) (capped_some i) ∙ rest

-- What the values of variables owe to facts.
use Rattle.std.proofs.Common.{◌≡◌, ◌≢◌, ⊎_elim, ap, sym, subst, ◌∙◌, ℕ, Bool, true, false, ◌||◌, List, [], ◌∷◌, ℤ, ◌+ℤ◌, ◌≤ℤ◌, arith}
use Rattle.std.specs.Prelude.{◌==◌}
use Rattle.std.specs.List.{All}
use Rattle.std.proofs.lemmas.Bool.Decides.{eqb_tells}
use Rattle.std.proofs.lemmas.Int.{ints}
use Rattle.std.proofs.lemmas.List.Elements.{All-contains}
use Rattle.ckc_linear.specs.declared.facts.Fact.{Fact}
use Rattle.ckc_linear.specs.Facts.{Satisfies, change, names, shifted}
use Rattle.ckc_linear.specs.Chains.{Leads, total}

pub walk_holds : (facts : List Fact) (value : ℕ → ℤ) → All (Satisfies value) facts → (x y : ℕ) (walk : List Fact) → Leads facts x y walk →
    value x ≤ℤ (value y +ℤ total walk)
walk_holds facts value all x y [] leads = let e = ap value leads in omega (arith, ints)
walk_holds facts value all x y (f ∷ walk) leads =
    let here = All-contains (Satisfies value) facts f all leads.0 in
    let rest = walk_holds facts value all f.y y walk leads.2 in
    let at = ap value leads.1 in
    omega (arith, ints)

module _ (x : ℕ) (before after : ℕ → ℤ) (others : (v : ℕ) → v ≢ x → after v ≡ before v) where
  pub other_holds : (f : Fact) → names x f ≡ false → Satisfies before f → Satisfies after f
  other_holds f unnamed holds = ⊎_elim
      (λ (p, e). let no : true ≡ false = subst (λ b. b || (f.y == x) ≡ false) p unnamed in cc)
      (λ (p, left). ⊎_elim
      (λ (q, e). let no : true ≡ false = subst (λ b. false || b ≡ false) q (subst (λ b. b || (f.y == x) ≡ false) p unnamed) in cc)
      (λ (q, right). let l = others f.x left in let r = others f.y right in omega (arith, ints))
      (eqb_tells f.y x))
      (eqb_tells f.x x)

  change_is : (f : Fact) (c : ℤ) (left right : Bool) → (f.x == x) ≡ left → (f.y == x) ≡ right → change (f.x == x) (f.y == x) c ≡ change left right c
  change_is f c left right p q = ap (λ b. change b (f.y == x) c) p ∙ ap (λ b. change left b c) q

  pub shifted_holds : (f : Fact) (c : ℤ) → after x ≡ before x +ℤ c → Satisfies before f → Satisfies after (shifted x c f)
  shifted_holds f c grown holds =
      let here : (v : ℕ) → v ≡ x → after v ≡ before v +ℤ c = λ v e. subst (λ u. after u ≡ before u +ℤ c) (sym e) grown in
      ⊎_elim
      (λ (p, left). ⊎_elim
      (λ (q, right). let m = change_is f c true true p q in let l = here f.x left in let r = here f.y right in omega (arith, ints))
      (λ (q, right). let m = change_is f c true false p q in let l = here f.x left in let r = others f.y right in omega (arith, ints))
      (eqb_tells f.y x))
      (λ (p, left). ⊎_elim
      (λ (q, right). let m = change_is f c false true p q in let l = others f.x left in let r = here f.y right in omega (arith, ints))
      (λ (q, right). let m = change_is f c false false p q in let l = others f.x left in let r = others f.y right in omega (arith, ints))
      (eqb_tells f.y x))
      (eqb_tells f.x x)

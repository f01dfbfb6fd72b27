-- Lists of parts, and what is found in them.
use Rattle.std.proofs.Common.{◌≡◌, ap, refl, ◌∙◌, List, [], ◌∷◌, map}
use Rattle.std.specs.Prelude.{Option, None, Some}
use Rattle.std.specs.Option.{option_map}
use Rattle.ckc_syntax.specs.Inside.{Joining, inside_each, inside_if}

module _ {X : Type 0} (j : Joining X) where
  -- what a fold has in the place of its parts
  pub each_found : {P Q : Type 0} (g : Q → X) (f : P → Q) (ps : List P) → inside_each j g (map f ps) ≡ inside_each j (λ p. g (f p)) ps
  each_found g f [] = refl
  each_found g f (p ∷ ps) = ap (λ x. j.both (g (f p)) x) (each_found g f ps)

  pub if_found : {P Q : Type 0} (g : Q → X) (f : P → Q) (p : Option P) → inside_if j g (option_map f p) ≡ inside_if j (λ q. g (f q)) p
  if_found g f None = refl
  if_found g f (Some p) = refl

  -- a part in which nothing is ever found
  pub none_found : {P : Type 0} (p : Option P) → inside_if j (λ (_ : P). j.none) p ≡ j.none
  none_found None = refl
  none_found (Some p) = refl

  -- two lists of parts, one of which is made from the other
  pub each_same : {P Q : Type 0} (made : P → Q) (f : Q → X) (g : P → X) → ((p : P) → f (made p) ≡ g p) → (ps : List P) → inside_each j f (map made ps) ≡ inside_each j g ps
  each_same made f g is [] = refl
  each_same made f g is (p ∷ ps) = ap (λ x. j.both x (inside_each j f (map made ps))) (is p) ∙ ap (λ x. j.both (g p) x) (each_same made f g is ps)

  pub if_same : {P Q : Type 0} (made : P → Q) (f : Q → X) (g : P → X) → ((p : P) → f (made p) ≡ g p) → (p : Option P) → inside_if j f (option_map made p) ≡ inside_if j g p
  if_same made f g is None = refl
  if_same made f g is (Some p) = is p

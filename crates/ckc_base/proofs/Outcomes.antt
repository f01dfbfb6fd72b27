-- What an outcome that is Ok says of the parts that it was made of.
use Rattle.std.proofs.Common.{◌≡◌, ℕ, Bool, true, false, List, [], ◌∷◌, map, refl, ap, subst, ◌∙◌}
use Rattle.std.specs.Prelude.{Option, Some, None, Ok, Err, not, ◌&&◌}
use Rattle.std.specs.List.{AllByRecursion}
use Rattle.ckc_base.specs.declared.places.Pos.{Pos}
use Rattle.ckc_base.specs.declared.places.Refusal.{Refusal}
use Rattle.ckc_base.specs.Outcomes.{Outcome, bind, in_order, unless, there_or}

pub ok_same : {A : Type 0} (a b : A) → ◌≡◌ {A = Outcome A} (Ok a) (Ok b) → a ≡ b
ok_same a b e = cc

pub err_same : {A : Type 0} (r s : Refusal) → ◌≡◌ {A = Outcome A} (Err r) (Err s) → r ≡ s
err_same r s e = cc

pub err_is_ok : {A : Type 0} (r : Refusal) (a : A) → ◌≡◌ {A = Outcome A} (Err r) (Ok a) → ⊥
err_is_ok r a e = cc

-- the first part of two, and what the second makes of it
pub made_of : {A B : Type 0} (o : Outcome A) (k : A → Outcome B) (b : B) → bind o k ≡ Ok b → (a : A) × (o ≡ Ok a) × (k a ≡ Ok b)
made_of (Ok a) k b e = (a, refl, e)
made_of (Err r) k b e = absurd (err_is_ok r b e)

-- a part that is given, and what is made of it
pub after : {A B : Type 0} {o : Outcome A} {a : A} (k : A → Outcome B) → o ≡ Ok a → bind o k ≡ k a
after k e = ap (λ p. bind p k) e

-- and back
pub goes : {A B : Type 0} (o : Outcome A) (k : A → Outcome B) (a : A) (b : B) → o ≡ Ok a → k a ≡ Ok b → bind o k ≡ Ok b
goes o k a b e f = after k e ∙ f

-- what is made was not broken
pub unbroken : {A : Type 0} (broken : Bool) (code : ℕ) (at : Pos) (o : Outcome A) (b : A) → unless broken code at o ≡ Ok b → (broken ≡ false) × (o ≡ Ok b)
unbroken true code at o b e = absurd (err_is_ok (record { code = code; pos = at }) b e)
unbroken false code at o b e = (refl, e)

pub unbroken_is : {A : Type 0} (broken : Bool) (code : ℕ) (at : Pos) (a b : A) → unless broken code at (Ok a) ≡ Ok b → (broken ≡ false) × (a ≡ b)
unbroken_is broken code at a b e = let k = unbroken broken code at (Ok a) b e in (k.0, ok_same a b k.1)

pub kept_rule : {A : Type 0} (holds : Bool) (code : ℕ) (at : Pos) (o : Outcome A) (b : A) → unless (not holds) code at o ≡ Ok b → (holds ≡ true) × (o ≡ Ok b)
kept_rule holds code at o b e = let k = unbroken (not holds) code at o b e in (by holds k.0, k.1)
  where
    by : (holds : Bool) → not holds ≡ false → holds ≡ true
    by true h = refl
    by false h = cc

pub keeps_rule : {A : Type 0} (holds : Bool) (code : ℕ) (at : Pos) (o : Outcome A) (b : A) → holds ≡ true → o ≡ Ok b → unless (not holds) code at o ≡ Ok b
keeps_rule holds code at o b h e = ap (λ c. unless (not c) code at o) h ∙ e

pub was_there : {A : Type 0} (code : ℕ) (at : Pos) (t : Option A) (a : A) → there_or code at t ≡ Ok a → t ≡ Some a
was_there code at (Some t) a e = ap Some (ok_same t a e)
was_there code at None a e = absurd (err_is_ok (record { code = code; pos = at }) a e)

pub is_there : {A : Type 0} (code : ℕ) (at : Pos) (t : Option A) (a : A) → t ≡ Some a → there_or code at t ≡ Ok a
is_there code at t a e = ap (there_or code at) e

pub first_holds : (a b : Bool) → (a && b) ≡ true → a ≡ true
first_holds true b e = refl
first_holds false b e = e

pub second_holds : (a b : Bool) → (a && b) ≡ true → b ≡ true
second_holds true b e = e
second_holds false b e = absurd (cc)

pub both_hold : (a b : Bool) → a ≡ true → b ≡ true → (a && b) ≡ true
both_hold a b e f = ap (λ c. c && b) e ∙ f

-- the parts of a list, if each gives what it was made of and a fact
pub each_made : {X Y : Type 0} (f : X → Outcome Y) (bare : Y → X) (P : Y → Type 0) → ((x : X) (y : Y) → f x ≡ Ok y → (bare y ≡ x) × P y) → (xs : List X) (ys : List Y) → in_order (map f xs) ≡ Ok ys → (map bare ys ≡ xs) × AllByRecursion P ys
each_made f bare P each [] ys h = subst (λ zs. (map bare zs ≡ []) × AllByRecursion P zs) (ok_same [] ys h) (refl, tt)
each_made f bare P each (x ∷ xs) ys h =
    let a = made_of (f x) _ ys h in let g = each x a.0 a.1 in
    let b = made_of (in_order (map f xs)) _ ys a.2 in let r = each_made f bare P each xs b.0 b.1 in
    subst (λ zs. (map bare zs ≡ x ∷ xs) × AllByRecursion P zs) (ok_same _ ys b.2) (ap (λ z. z ∷ map bare b.0) g.0 ∙ ap (λ zs. x ∷ zs) r.0, (g.1, r.1))

-- and back
pub each_back : {X Y : Type 0} (f : X → Outcome Y) (bare : Y → X) (P : Y → Type 0) → ((y : Y) → P y → f (bare y) ≡ Ok y) → (ys : List Y) → AllByRecursion P ys → in_order (map f (map bare ys)) ≡ Ok ys
each_back f bare P back [] p = refl
each_back f bare P back (y ∷ ys) p = goes (f (bare y)) _ y _ (back y p.0) (goes (in_order (map f (map bare ys))) _ ys _ (each_back f bare P back ys p.1) refl)

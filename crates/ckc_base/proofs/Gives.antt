-- What holds of all that judging gives.
use Rattle.std.proofs.Common.{◌≡◌, ℕ, subst, refl, Bool, true, false, if◌then◌else◌}
use Rattle.std.specs.Prelude.{Ok, Err, Option, Some, None}
use Rattle.ckc_base.specs.declared.places.Pos.{Pos}
use Rattle.ckc_base.specs.Outcomes.{Outcome, bind, refused, there_or, unless}

abbrev pub Gives : {A : Type 0} → (A → Type 0) → Outcome A → Type 0
Gives P (Ok a) = P a
Gives P (Err r) = Unit {0}

pub given_from : {A : Type 0} (P : A → Type 0) (o : Outcome A) (a : A) → Gives P o → o ≡ Ok a → P a
given_from {A} P o a h e = let Q : Outcome A → Type 0 = λ x. Gives P x in subst Q e h

pub bound : {A B : Type 0} (P : A → Type 0) (Q : B → Type 0) (o : Outcome A) (f : A → Outcome B) → Gives P o → ((a : A) → P a → Gives Q (f a)) → Gives Q (bind o f)
bound P Q (Ok a) f h k = k a h
bound P Q (Err r) f h k = tt

-- the same if what is made is wrapped before it is used
pub through : {A B C : Type 0} (P : A → Type 0) (Q : B → Type 0) (o : Outcome A) (wrap : A → C) (f : C → Outcome B) → Gives P o → ((a : A) → P a → Gives Q (f (wrap a)))
    → Gives Q (bind (bind o (λ a. Ok (wrap a))) f)
through P Q (Ok a) wrap f h k = k a h
through P Q (Err r) wrap f h k = tt

-- what is made if nothing is broken
pub where_unbroken : {A : Type 0} (P : A → Type 0) (broken : Bool) (code : ℕ) (pos : Pos) (a : A) → (broken ≡ false → P a) → Gives P (unless broken code pos (Ok a))
where_unbroken P true code pos a h = tt
where_unbroken P false code pos a h = h refl

-- what is made if a test passes
pub where_true : {A : Type 0} (P : A → Type 0) (b : Bool) (code : ℕ) (pos : Pos) (a : A) → (b ≡ true → P a) → Gives P (if b then Ok a else refused code pos)
where_true P true code pos a h = h refl
where_true P false code pos a h = tt

-- what is given is given
pub itself : {A : Type 0} (o : Outcome A) → Gives (λ a. o ≡ Ok a) o
itself (Ok a) = refl
itself (Err r) = tt

pub was_there : {A : Type 0} (code : ℕ) (pos : Pos) (o : Option A) → Gives (λ a. o ≡ Some a) (there_or code pos o)
was_there code pos (Some a) = refl
was_there code pos None = tt

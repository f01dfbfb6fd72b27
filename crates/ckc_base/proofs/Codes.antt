-- Outcomes of which an error has one of some codes.
use Rattle.std.proofs.Common.{◌≡◌, refl, subst, ℕ, if◌then◌else◌, List, [], ◌∷◌, map, Bool, true, false}
use Rattle.std.specs.Prelude.{Ok, Err, Option, Some, None}
use Rattle.ckc_base.specs.declared.places.Pos.{Pos}
use Rattle.ckc_base.specs.declared.places.Refusal.{Refusal}
use Rattle.ckc_base.specs.Outcomes.{Outcome, bind, in_order, in_turn, there_or, unless}

module _ (IsCode : ℕ → Type 0) where
  abbrev pub HasCode : {A : Type 0} → Outcome A → Type 0
  HasCode (Ok a) = Unit {0}
  HasCode (Err r) = IsCode r.code

  pub bound : {A B : Type 0} (o : Outcome A) (f : A → Outcome B) → HasCode o → ((a : A) → HasCode (f a)) → HasCode (bind o f)
  bound (Ok a) f h k = k a
  bound (Err r) f h k = h

  pub chosen : {A : Type 0} (b : Bool) (o p : Outcome A) → HasCode o → HasCode p → HasCode (if b then o else p)
  chosen true o p h k = h
  chosen false o p h k = k

  pub kept : {A : Type 0} (broken : Bool) (code : ℕ) (at : Pos) (o : Outcome A) → IsCode code → HasCode o → HasCode (unless broken code at o)
  kept true code at o h k = h
  kept false code at o h k = k

  pub there : {A : Type 0} (code : ℕ) (at : Pos) (o : Option A) → IsCode code → HasCode (there_or code at o)
  there code at (Some a) h = tt
  there code at None h = h

  pub listed : {X A : Type 0} (f : X → Outcome A) → ((x : X) → HasCode (f x)) → (xs : List X) → HasCode (in_order (map f xs))
  listed f h [] = tt
  listed f h (x ∷ xs) = bound (f x) _ (h x) (λ a. bound (in_order (map f xs)) _ (listed f h xs) (λ rest. tt))

  pub turned : {X A S : Type 0} (f : X → S → Outcome (A × S)) → ((x : X) (s : S) → HasCode (f x s)) → (xs : List X) (s : S) → HasCode (in_turn (map f xs) s)
  turned f h [] s = tt
  turned f h (x ∷ xs) s = bound (f x s) _ (h x s) (λ p. bound (in_turn (map f xs) p.1) _ (turned f h xs p.1) (λ q. tt))

  -- the same if each part comes with its claim
  pub listed_parts : {X A : Type 0} (f : X → Outcome A) (ks : List ((x : X) × HasCode (f x))) → HasCode (in_order (map f (map (λ k. k.0) ks)))
  listed_parts f [] = tt
  listed_parts f (k ∷ ks) = bound (f k.0) _ k.1 (λ a. bound (in_order (map f (map (λ k. k.0) ks))) _ (listed_parts f ks) (λ rest. tt))

  pub turned_parts : {X A S : Type 0} (f : X → S → Outcome (A × S)) (ks : List ((x : X) × ((s : S) → HasCode (f x s)))) (s : S) → HasCode (in_turn (map f (map (λ k. k.0) ks)) s)
  turned_parts f [] s = tt
  turned_parts f (k ∷ ks) s = bound (f k.0 s) _ (k.1 s) (λ p. bound (in_turn (map f (map (λ k. k.0) ks)) p.1) _ (turned_parts f ks p.1) (λ q. tt))

  pub has_code : {A : Type 0} (o : Outcome A) → ((r : Refusal) → o ≡ Err r → IsCode r.code) → HasCode o
  has_code (Ok a) h = tt
  has_code (Err r) h = h r refl

  pub code_of : {A : Type 0} (o : Outcome A) (r : Refusal) → HasCode o → o ≡ Err r → IsCode r.code
  code_of {A} o r h e = subst (λ (x : Outcome A). HasCode x) e h

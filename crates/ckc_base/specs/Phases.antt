-- Phases: what a phase makes of what it is given, and for which first error it refuses it.
use Rattle.std.specs.Prelude.{◌≡◌, ◌⊎◌, Result, Ok, Err}
use Rattle.ckc_base.specs.declared.places.Refusal.{Refusal}
use Rattle.ckc_base.specs.declared.fault.Fault.{Fault}
use Rattle.ckc_base.specs.declared.fault.Fault.TheVariants as fault

-- a phase: what it makes of what it is given, and for which first error it refuses it
pub record Phase (A B : Type 0) : Type 1 where
  pub Makes : A → B → Type 0
  pub Refuses : A → Refusal → Type 0

-- One phase and then another: what the first makes is given to the second, and an error of the first comes first.
infixr 10 ◌>=>◌
abbrev pub ◌>=>◌ : {A B C : Type 0} → Phase A B → Phase B C → Phase A C
◌>=>◌ {A} {B} {C} p q = record {
  Makes = λ a c. (b : B) × p.Makes a b × q.Makes b c;
  Refuses = λ a refusal. p.Refuses a refusal ⊎ ((b : B) × p.Makes a b × q.Refuses b refusal);
}

-- A phase makes one thing or has one first error: never two, never both, and always one of them.
pub record IsExact {A B : Type 0} (p : Phase A B) : Type 0 where
  pub made_once : (a : A) (b other : B) → p.Makes a b → p.Makes a other → b ≡ other
  pub refused_once : (a : A) (r other : Refusal) → p.Refuses a r → p.Refuses a other → r ≡ other
  pub never_both : (a : A) (b : B) (r : Refusal) → p.Makes a b → p.Refuses a r → ⊥
  pub one_of_both : (a : A) → ((b : B) × p.Makes a b) ⊎ ((r : Refusal) × p.Refuses a r)

-- the answer is this one, unless memory ran out
abbrev pub IsUnlessMemory : {B : Type 0} → Result B Fault → Result B Fault → Type 0
IsUnlessMemory (Ok b) wanted = wanted ≡ Ok b
IsUnlessMemory (Err (fault.Refused r)) wanted = wanted ≡ Err (fault.Refused r)
IsUnlessMemory (Err fault.Memory) wanted = Unit {0}

-- the answer with another view of what it gives
abbrev pub viewed : {B C : Type 0} → (B → C) → Result B Fault → Result C Fault
viewed f (Ok b) = Ok (f b)
viewed f (Err e) = Err e

-- the answer is Ok of what the phase makes, or its first error, or memory ran out
abbrev pub Answers : {A B : Type 0} → Phase A B → A → Result B Fault → Type 0
Answers p a (Ok b) = p.Makes a b
Answers p a (Err (fault.Refused r)) = p.Refuses a r
Answers p a (Err fault.Memory) = Unit {0}

-- What the call of a phase promises: Ok of exactly what the phase makes, a refusal for exactly its first error, both
-- ways; where memory runs out is left open.
pub record Exact {A B : Type 0} (p : Phase A B) (a : A) (answer : Result B Fault) : Type 0 where
  pub answers : Answers p a answer
  pub all_made : (b : B) → p.Makes a b → IsUnlessMemory answer (Ok b)
  pub all_refused : (r : Refusal) → p.Refuses a r → IsUnlessMemory answer (Err (fault.Refused r))

-- What judging a part of a tree gives: what the part becomes, or its first error.
use Rattle.std.specs.Prelude.{◌≡◌, ℕ, Bool, if◌then◌else◌, List, [], ◌∷◌, Option, None, Some, Result, Ok, Err}
use Rattle.ckc_base.specs.declared.places.Pos.{Pos}
use Rattle.ckc_base.specs.declared.places.Refusal.{Refusal}
use Rattle.ckc_base.specs.declared.fault.Fault.{Fault}
use Rattle.ckc_base.specs.declared.fault.Fault.TheVariants as fault
use Rattle.ckc_base.specs.Phases.{Phase}

-- what a part becomes, or its first error
abbrev pub Outcome : Type 0 → Type 0
Outcome A = Result A Refusal

-- The second part is judged after the first, so the first error in walk order decides.
abbrev pub bind : {A B : Type 0} → Outcome A → (A → Outcome B) → Outcome B
bind (Ok a) f = f a
bind (Err r) f = Err r

-- the error with this code at this place
abbrev pub refused : {A : Type 0} → ℕ → Pos → Outcome A
refused code pos = Err (record { code = code; pos = pos })

-- what a part becomes if it keeps a rule
abbrev pub unless : {A : Type 0} → Bool → ℕ → Pos → Outcome A → Outcome A
unless broken code pos o = if broken then refused code pos else o

-- what there is, or else an error
abbrev pub there_or : {A : Type 0} → ℕ → Pos → Option A → Outcome A
there_or code pos (Some a) = Ok a
there_or code pos None = refused code pos

-- the parts of a list, from the first to the last
abbrev pub in_order : {A : Type 0} → List (Outcome A) → Outcome (List A)
in_order [] = Ok []
in_order (o ∷ os) = bind o (λ a. bind (in_order os) (λ rest. Ok (a ∷ rest)))

-- a part that may be left out
abbrev pub if_there : {A : Type 0} → Option (Outcome A) → Outcome (Option A)
if_there None = Ok None
if_there (Some o) = bind o (λ a. Ok (Some a))

-- parts of a list in turn, each of which is judged by what the ones before it leave
abbrev pub in_turn : {A S : Type 0} → List (S → Outcome (A × S)) → S → Outcome (List A × S)
in_turn [] s = Ok ([], s)
in_turn (f ∷ fs) s = bind (f s) (λ p. bind (in_turn fs p.1) (λ q. Ok (p.0 ∷ q.0, q.1)))

-- The answer is the outcome, unless memory ran out.
abbrev pub AnswersOutcome : {A : Type 0} → Result A Fault → Outcome A → Type 0
AnswersOutcome (Ok a) o = o ≡ Ok a
AnswersOutcome (Err (fault.Refused r)) o = o ≡ Err r
AnswersOutcome (Err fault.Memory) o = Unit {0}

-- The answer and what is left after it are the outcome, unless memory ran out.
abbrev pub StepsOutcome : {A S : Type 0} → Result A Fault → S → Outcome (A × S) → Type 0
StepsOutcome (Ok a) new o = o ≡ Ok (a, new)
StepsOutcome (Err (fault.Refused r)) new o = o ≡ Err r
StepsOutcome (Err fault.Memory) new o = Unit {0}

-- the phase whose outcome for each argument a function gives
abbrev pub phase_by : {A B : Type 0} → (A → Outcome B) → Phase A B
phase_by f = record { Makes = λ a b. f a ≡ Ok b; Refuses = λ a r. f a ≡ Err r }

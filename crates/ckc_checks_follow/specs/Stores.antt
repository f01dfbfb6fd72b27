-- Which stores core code makes beside its source program.
use Rattle.std.specs.Prelude.{◌≡◌, ◌≢◌, ◌⊎◌, ℕ, ◌%◌, ◌^◌, ◌-◌, IsTrue, List, [], ◌∷◌, Result, Ok, Err}
use Rattle.ckc_base.specs.declared.arithmetic.Width.{Width}
use Rattle.ckc_base.specs.declared.arithmetic.Width.TheVariants.{Word}
use Rattle.ckc_base.specs.Traces.{Event, Stuck}
use Rattle.ckc_base.specs.LongEvents.{LongEvent, Stored, plain_events}
use Rattle.ckc_base.specs.Listing.{Listing}
use Rattle.ckc_base.specs.Memory.{data_start, kept_part}
use Rattle.ckc_source.specs.declared.outcome.Halt.{Halt}
use Rattle.ckc_source.specs.declared.outcome.Place.{Place}
use Rattle.ckc_source.specs.declared.outcome.Place.TheVariants as place
use Rattle.ckc_source.specs.Blocks.{lies_in}
use Rattle.ckc_source.specs.Code.{Assign, Bundle, Get, Put, Program}
use Rattle.ckc_source.specs.Eval.{given, evaluated}
use Rattle.ckc_source.specs.LaidOut.{AreBytes}
use Rattle.ckc_source.specs.Source.{source, source_system, first_state}
use Rattle.ckc_source.specs.States.{Work, Rest, State, active, settled}
use Rattle.ckc_source.specs.Steps.{store_of, aimed, Write, planned, at_work}
use Rattle.ckc_core.specs.Meaning.{core_system}
use Rattle.ckc_core.specs.Meaning as core
use Rattle.ckc_core.specs.Code as code

-- the value of `getchar`
abbrev pub next_byte : List ℕ → ℕ
next_byte [] = 2 ^ 32 - 1
next_byte (b ∷ rest) = b

-- What the statement in front is going to write, and where. The result of a call is no part of it.
abbrev pub plans : Program → State → List Work → Result (List Write) Halt
plans p s (Rest (Assign spot target right rest) ∷ work) =
    given (planned p.shapes (at_work s (Rest rest ∷ work)) ((target, right) ∷ [])) (λ plan. Ok plan.writes)
plans p s (Rest (Bundle spot assigns rest) ∷ work) =
    given (planned p.shapes (at_work s (Rest rest ∷ work)) assigns) (λ plan. Ok plan.writes)
plans p s (Rest (Get spot target rest) ∷ work) =
    given (aimed (store_of p.shapes s) target) (λ to. Ok ((to, next_byte s.input) ∷ []))
plans p s (Rest (Put spot target e rest) ∷ work) =
    given (aimed (store_of p.shapes s) target) (λ to. given (evaluated (store_of p.shapes s) e) (λ v.
    Ok ((to, v.number % 256) ∷ [])))
plans p s _ = Ok []

-- a store is that of a write
abbrev pub IsOf : Place → ℕ → (at : ℕ) → Width → (value : ℕ) → Type 0
IsOf (place.Memory a wide zero_alone) n at width value = (at ≡ a) × (width ≡ wide) × (value ≡ kept_part wide n)
IsOf to n at width value = ⊥

-- a store is that of one of the writes
abbrev pub IsAmong : List Write → (at : ℕ) → Width → (value : ℕ) → Type 0
IsAmong [] at width value = ⊥
IsAmong (w ∷ ws) at width value = IsOf w.0 w.1 at width value ⊎ IsAmong ws at width value

-- a store is one of those that are planned
abbrev pub IsPlanned : Result (List Write) Halt → (at : ℕ) → Width → (value : ℕ) → Type 0
IsPlanned (Ok ws) at width value = IsAmong ws at width value
IsPlanned (Err h) at width value = ⊥

-- the heap word is stored
abbrev pub IsHeapWord : (at : ℕ) → Width → Type 0
IsHeapWord at width = (at ≡ data_start) × (width ≡ Word)

-- What core code may do while the program is at a state: a store is of the heap word, lies in a block of the state, or
-- is one that the step of the state plans.
abbrev pub MayDo : Program → State → LongEvent → Type 0
MayDo p s (Stored at width value) =
    IsHeapWord at width
    ⊎ (IsTrue (lies_in width at s.blocks) ⊎ IsPlanned (plans p s (settled s.frame.work)) at width value)
MayDo p s event = Unit {0}

-- as many calls are active in both
abbrev pub AreLevel : State → core.State → Type 0
AreLevel s t = active s ≡ core.active t

-- With an input with which the program is never stuck, the steps of core code can be listed beside those of the
-- program: input and output are the same, as many calls are active, and each store is one that may be made.
abbrev pub ListsStores : Program → code.Program → Type 0
ListsStores p c =
    (input : List ℕ) → AreBytes input → ((n : ℕ) → (source p input n).standing ≢ Stuck) → (k : ℕ)
    → Listing (source_system p) (core_system c.functions) (λ (e : Event). e ∷ []) plain_events
    (MayDo p) AreLevel (first_state p input) (core.first_state c input) k

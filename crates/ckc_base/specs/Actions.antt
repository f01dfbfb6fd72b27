-- What single actions of compiled code do to the data memory and the input. Core code, three-address code and placed
-- code are made of them.
use Rattle.std.specs.Prelude.{ℕ, ◌%◌, ◌^◌, ◌-◌, ◌==◌, if◌then◌else◌, List, [], ◌∷◌, Option, Some, None}
use Rattle.ckc_base.specs.declared.arithmetic.Width.{Width}
use Rattle.ckc_base.specs.declared.arithmetic.Width.TheVariants.{Word}
use Rattle.ckc_base.specs.declared.places.Pos.{Pos}
use Rattle.ckc_base.specs.declared.runtime_checks.Check.{Check}
use Rattle.ckc_base.specs.Traces.{Got, Put}
use Rattle.ckc_base.specs.LongEvents.{LongEvent, Plain, Stored}
use Rattle.ckc_base.specs.Memory.{Memory, data_start, value_at, memory_with, kept_part, heap_has_room, next_place}

-- what is outside an activation: the data memory and what is left of the input
pub record World : Type 0 where
  pub memory : Memory
  pub input : List ℕ

-- What an action comes to, after these events and in this world: it gives a target a value, or is done without one;
-- or the program stops at a check; or the action has no meaning.
pub data Outcome : Type 0 where
  Gives : (events : List LongEvent) (target value : ℕ) (world : World) → Outcome
  Done : (events : List LongEvent) (world : World) → Outcome
  Stops : (check : Check) (at : Pos) → Outcome
  Lost : Outcome

-- what comes of a value, which may be missing
abbrev pub with_value : Option ℕ → (ℕ → Outcome) → Outcome
with_value (Some x) f = f x
with_value None f = Lost

abbrev pub stores_in : World → LongEvent → Option Memory → Outcome
stores_in world event (Some memory) = Done (event ∷ []) (record world { memory = memory })
stores_in world event None = Lost

-- a value is stored at an address
abbrev pub stores : World → Width → ℕ → ℕ → Outcome
stores world width a value =
    stores_in world (Stored a width (kept_part width value)) (memory_with width world.memory a value)

-- a check stops if its value is zero
abbrev pub checks : World → Check → Pos → ℕ → Outcome
checks world check at value = if value == 0 then Stops check at else Done [] world

-- the target gets the next byte of the input, or the word of -1 at its end
abbrev pub gets_from : Memory → ℕ → List ℕ → Outcome
gets_from memory target [] = Gives (Plain (Got None) ∷ []) target (2 ^ 32 - 1) (record { memory = memory; input = [] })
gets_from memory target (byte ∷ rest) =
    Gives (Plain (Got (Some byte)) ∷ []) target byte (record { memory = memory; input = rest })

abbrev pub gets : World → ℕ → Outcome
gets world target = gets_from world.memory target world.input

-- the low byte of a value is put
abbrev pub puts : World → ℕ → Outcome
puts world value = Done (Plain (Put (value % 256)) ∷ []) world

-- the target gets the place of a block, and the heap word the place of the next; or the target gets 0
abbrev pub allocates_in : World → ℕ → ℕ → ℕ → Option Memory → Outcome
allocates_in world target place next (Some memory) =
    Gives (Stored data_start Word next ∷ []) target place (record world { memory = memory })
allocates_in world target place next None = Lost

abbrev pub allocates_at : World → ℕ → ℕ → ℕ → ℕ → Outcome
allocates_at world target count size place =
    if heap_has_room place count size
    then (let next = next_place place count size in
    allocates_in world target place next (memory_with Word world.memory data_start next))
    else Gives [] target 0 world

-- room is taken on the heap for so many elements of a size
abbrev pub allocates : World → ℕ → ℕ → ℕ → Outcome
allocates world target count size =
    with_value (value_at Word world.memory data_start) (allocates_at world target count size)

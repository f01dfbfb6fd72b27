-- The machine with its stores shown: the same steps as in Machine, where the event of a store stands beside those of
-- input and output.
use Rattle.std.specs.Prelude.{ℕ, ◌%◌, ◌^◌, List, [], ◌∷◌, ◌++◌, map, Option, Some, None, option_and_then}
use Rattle.ckc_base.specs.Traces.{Event, Showing}
use Rattle.ckc_base.specs.Steps.{Move, Goes, Halts, System, meaning}
use Rattle.ckc_rv.specs.declared.instructions.Instr.{Instr}
use Rattle.ckc_rv.specs.declared.registers.Outcome.{Outcome}
use Rattle.ckc_rv.specs.declared.registers.Outcome.TheVariants.{Store}
use Rattle.ckc_rv.specs.Effects.{effect_of, store_bytes}
use Rattle.ckc_rv.specs.code.Decoded.{decoded}
use Rattle.ckc_rv.specs.Machine.{Parts, State, loaded, machine_step, first_state}

-- What a machine does, in detail: an event of input or output, or a store of so many bytes at an address, with the
-- number that they hold then.
pub data MachineEvent : Type 0 where
  Outside : (event : Event) → MachineEvent
  Wrote : (at count value : ℕ) → MachineEvent

-- an event as it is seen from outside: input and output alone
abbrev pub outside_events : MachineEvent → List Event
outside_events (Outside event) = event ∷ []
outside_events (Wrote at count value) = []

-- the store that an effect asks for
abbrev pub writes_of : Outcome → List MachineEvent
writes_of (Store op a value) = Wrote a (store_bytes op) (value % 256 ^ store_bytes op) ∷ []
writes_of _ = []

-- the store that the instruction at the pc asks for
abbrev pub writes_by : State → Option Instr → List MachineEvent
writes_by s (Some i) = writes_of (effect_of i s.pc s.x)
writes_by s None = []

-- the store of the next instruction, if it stores
abbrev pub writes_at : State → List MachineEvent
writes_at s = writes_by s (option_and_then decoded (loaded s.memory 4 s.pc))

-- a move with its store; a halt stores nothing
abbrev pub with_writes : List MachineEvent → Move Event State → Move MachineEvent State
with_writes writes (Goes events next) = Goes (map (λ e. Outside e) events ++ writes) next
with_writes writes (Halts events standing) = Halts (map (λ e. Outside e) events) standing

-- the next step of the machine, with its store
unfoldable pub detailed_step : Parts → State → Move MachineEvent State
detailed_step parts s = with_writes (writes_at s) (machine_step parts s)

-- the machine of an image as a system of steps that show their stores
abbrev pub detailed_system : Parts → System MachineEvent State
detailed_system parts = record { step = detailed_step parts; weight = λ s. 0 }

-- what the machine of an image does after k instructions, its stores shown
abbrev pub detailed_machine : Parts → List ℕ → ℕ → Showing MachineEvent
detailed_machine parts input = meaning (detailed_system parts) (first_state parts input)

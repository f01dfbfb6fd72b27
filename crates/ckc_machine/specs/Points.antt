-- Where the machine of an image stands after so many instructions.
use Rattle.std.specs.Prelude.{ℕ, zero, suc, List, length, drop}
use Rattle.ckc_base.specs.Traces.{Event}
use Rattle.ckc_base.specs.Steps.{Move, Goes, Halts}
pub use Rattle.ckc_outside.specs.Given.{got_byte, taken}
use Rattle.ckc_rv.specs.Machine.{Parts, State, machine_step, first_state, machine}

-- the state that a move leads to; a halt keeps it
abbrev pub next_state : State → Move Event State → State
next_state s (Goes events next) = next
next_state s (Halts events standing) = s

-- The registers, the pc, the memory and the rest of the input after k instructions. Once the machine has halted they
-- stay as they are.
unfoldable pub state_at : Parts → List ℕ → ℕ → State
state_at parts input zero = first_state parts input
state_at parts input (suc k) = next_state (state_at parts input k) (machine_step parts (state_at parts input k))

-- the events of instructions k + 1 to j
abbrev pub since : Parts → List ℕ → ℕ → ℕ → List Event
since parts input k j = drop (length (machine parts input k).trace) (machine parts input j).trace

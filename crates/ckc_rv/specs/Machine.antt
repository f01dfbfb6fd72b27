-- The machine of an image, step by step, over one flat memory: the memory map, the environment calls and the
-- faults are this project's (docs/language.md), the effects of instructions those of the table.
pub use Rattle.ckc_base.specs.MemoryMap.{code_start, data_start, stack_start, memory_end}
pub use Rattle.ckc_base.specs.Memory.{Memory}
unfoldable pub use Rattle.ckc_base.specs.Memory.{bytes_from as loaded, with_byte, with_bytes as stored}
use Rattle.std.specs.Prelude.{ℕ, ◌+◌, ◌-◌, ◌/◌, ◌%◌, ◌^◌, ◌==◌, nat_lt, not, ◌&&◌, Bool, if◌then◌else◌, List, [], ◌∷◌, length, slice_index, slice_set, replicate, Option, Some, None, option_and_then}
use Rattle.ckc_base.specs.declared.runtime_checks.Check.{Check}
use Rattle.ckc_base.specs.Checks.{check_with}
use Rattle.ckc_base.specs.Traces.{Event, Got, Put, Ended, Stopped, Fault, Showing}
use Rattle.ckc_base.specs.Steps.{Move, Goes, Halts, System, meaning}
use Rattle.ckc_rv_operations.specs.declared.operations.LoadOp.{LoadOp}
use Rattle.ckc_rv.specs.declared.instructions.Instr.{Instr}
use Rattle.ckc_rv.specs.declared.registers.Outcome.{Outcome}
use Rattle.ckc_rv.specs.declared.registers.Outcome.TheVariants.{Next, Load, Store, Call, Break, BadTarget}
use Rattle.ckc_rv.specs.Effects.{effect_of, following, load_bytes, store_bytes, load_value}
use Rattle.ckc_rv.specs.code.Decoded.{decoded}

-- the parts of an image: the entry address, the bytes of the code, and the first bytes of the data region
pub record Parts : Type 0 where
  pub entry : ℕ
  pub code : List ℕ
  pub initial : List ℕ

-- ---- memory

-- The memory at the start: the code, the data region with the initial bytes and then zeros, and the stack of zeros.
-- All else is unmapped.
unfoldable pub flat : Parts → Memory
flat parts a =
    if nat_lt a code_start then None
    else if nat_lt a (code_start + length parts.code)
    then Some (slice_index parts.code (a - code_start))
    else if nat_lt a data_start then None
    else if nat_lt a stack_start then Some (slice_index parts.initial (a - data_start))
    else if nat_lt a memory_end then Some 0
    else None

-- whether an instruction lies at an address
abbrev pub is_code : Parts → ℕ → Bool
is_code parts a = not (nat_lt a code_start) && nat_lt (a + 3) (code_start + length parts.code)

-- whether a store may go to an address: it lies in the data region or the stack
abbrev pub is_writable : ℕ → Bool
is_writable a = not (nat_lt a data_start) && nat_lt a memory_end

-- ---- states

-- the registers x0 to x31, the pc, the memory and what is left of the input
pub record State : Type 0 where
  pub x : List ℕ
  pub pc : ℕ
  pub memory : Memory
  pub input : List ℕ

-- the value of a register
abbrev pub register : State → ℕ → ℕ
register s r = slice_index s.x r

-- the registers with another value of rd; x0 stays 0
abbrev pub with_register : List ℕ → ℕ → ℕ → List ℕ
with_register x rd value = if rd == 0 then x else slice_set x rd value

-- the state at the next instruction, with a value of rd
abbrev pub next_with : State → ℕ → ℕ → State
next_with s rd value = record s { x = with_register s.x rd value; pc = following s.pc }

-- ---- faults: each number is the place of the kind in the list fetch, word, align, load, store, break, call

-- The machine halts with this kind of fault, at the pc.
abbrev pub faults : ℕ → State → Move Event State
faults kind s = Halts [] (Fault kind s.pc)

-- ---- environment calls

-- the next byte of the input, or the word of -1 at its end, comes into x10
abbrev pub gets : State → List ℕ → Move Event State
gets s [] = Goes (Got None ∷ []) (next_with s 10 (2 ^ 32 - 1))
gets s (byte ∷ rest) = Goes (Got (Some byte) ∷ []) (record (next_with s 10 byte) { input = rest })

-- a stop at the check with the number in x10, at the line in x11 and the column in x12
abbrev pub stops : State → Option Check → Move Event State
stops s (Some check) =
    Halts [] (Stopped check (record { line = register s 11; col = register s 12 }))
stops s None = faults 6 s

-- by the number in x17: 0 ends with x10, 1 puts the low byte of x10, 2 gets a byte, 3 stops at a check
abbrev pub calls : State → Move Event State
calls s =
    if register s 17 == 0 then Halts [] (Ended (register s 10))
    else if register s 17 == 1 then Goes (Put (register s 10 % 256) ∷ []) (next_with s 0 0)
    else if register s 17 == 2 then gets s s.input
    else if register s 17 == 3 then stops s (check_with (register s 10))
    else faults 6 s

-- ---- steps

-- a load's value for rd, if its bytes are mapped
abbrev pub loads : State → LoadOp → ℕ → Option ℕ → Move Event State
loads s op rd (Some n) = Goes [] (next_with s rd (load_value op n))
loads s op rd None = faults 3 s

-- what comes of an effect; alignment is judged before the region
abbrev pub by_outcome : State → Outcome → Move Event State
by_outcome s (Next rd value pc) = Goes [] (record s { x = with_register s.x rd value; pc = pc })
by_outcome s (Load op rd a) =
    if a % load_bytes op == 0 then loads s op rd (loaded s.memory (load_bytes op) a) else faults 2 s
by_outcome s (Store op a value) =
    if not (a % store_bytes op == 0) then faults 2 s
    else if is_writable a
    then Goes [] (record (next_with s 0 0) { memory = stored s.memory (store_bytes op) a value })
    else faults 4 s
by_outcome s Call = calls s
by_outcome s Break = faults 5 s
by_outcome s BadTarget = faults 2 s

-- the step at an instruction; a word outside the table is a fault
abbrev pub executes : State → Option Instr → Move Event State
executes s (Some i) = by_outcome s (effect_of i s.pc s.x)
executes s None = faults 1 s

-- the word at the pc is fetched, decoded and executed; a pc outside the code is a fault
unfoldable pub machine_step : Parts → State → Move Event State
machine_step parts s =
    if is_code parts s.pc then executes s (option_and_then decoded (loaded s.memory 4 s.pc))
    else faults 0 s

-- the machine of an image as steps of one instruction each
abbrev pub machine_system : Parts → System Event State
machine_system parts = record { step = machine_step parts; weight = λ s. 0 }

-- the registers are 0, the pc is the entry, and nothing of the input was taken
abbrev pub first_state : Parts → List ℕ → State
first_state parts input =
    record { x = replicate 32 0; pc = parts.entry; memory = flat parts; input = input }

-- what the machine of an image shows after k instructions
abbrev pub machine : Parts → List ℕ → ℕ → Showing Event
machine parts input = meaning (machine_system parts) (first_state parts input)

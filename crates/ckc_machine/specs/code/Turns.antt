-- What one instruction asks of the registers, the memory and the outside.
use Rattle.std.specs.Prelude.{◌≡◌, ◌%◌, ◌≤◌, ◌<◌, []}
use Rattle.ckc_base.specs.Traces.{Event, Standing}
use Rattle.ckc_base.specs.Steps.{Move, Goes, Halts}
use Rattle.ckc_rv.specs.declared.registers.Outcome.{Outcome}
use Rattle.ckc_rv.specs.declared.registers.Outcome.TheVariants as outcome
use Rattle.ckc_rv.specs.Effects.{store_bytes}
use Rattle.ckc_rv.specs.Machine.{Parts, State, register, with_register, next_with, stored, data_start, memory_end, machine_step}
use Rattle.ckc_machine.specs.declared.machine.Turn.{Turn}
use Rattle.ckc_machine.specs.declared.machine.Turn.TheVariants.{Next, Store, Put, Get, Halt}
use Rattle.ckc_machine.specs.Runs.{Says, AsksFor}

-- the move of the machine is the turn: a register and the pc are set, or a value is stored, or the machine halts
abbrev pub Moves : State → Move Event State → Turn → Type 0 → Type 0 → Type 0
Moves s move (Next rd value pc) puts gets = (rd < 32) × (move ≡ Goes [] (record s { x = with_register s.x rd value; pc = pc }))
Moves s move (Store op a value) puts gets =
    (a % store_bytes op ≡ 0) × (data_start ≤ a) × (a < memory_end)
    × (move ≡ Goes [] (record (next_with s 0 0) { memory = stored s.memory (store_bytes op) a value }))
Moves s move (Put byte) puts gets = (byte ≡ register s 10 % 256) × puts
Moves s move Get puts gets = gets
Moves s move (Halt answer) puts gets = (standing : Standing) × Says answer standing × (move ≡ Halts [] standing)

-- what an outcome of an instruction comes to
abbrev pub TurnsBy : Outcome → State → Move Event State → Turn → Type 0
TurnsBy out s move turn = Moves s move turn ((out ≡ outcome.Call) × (register s 17 ≡ 1)) ((out ≡ outcome.Call) × (register s 17 ≡ 2))

-- what the next instruction of a state comes to
abbrev pub Turns : Parts → State → Turn → Type 0
Turns parts s turn = Moves s (machine_step parts s) turn (AsksFor parts s 1) (AsksFor parts s 2)

-- What a machine is, and what a run of it does.
use Rattle.std.specs.Prelude.{◌≡◌, ℕ, suc, ◌+◌, ◌≤◌, ◌<◌, true, List, [], ◌∷◌, length, Option, Some, option_and_then}
use Rattle.ckc_base.specs.Traces.{Event, Got, Put, Standing, output}
use Rattle.ckc_base.specs.Traces as standings
use Rattle.ckc_outside.specs.Outside.{one_more}
pub use Rattle.ckc_outside.specs.Given.{AreBytes, Called, Gave, MayCome, OverAny, Took, Printed, PrintedFront}
use Rattle.ckc_rv.specs.declared.instructions.Instr.TheVariants.{Ecall}
use Rattle.ckc_rv.specs.code.Decoded.{decoded}
use Rattle.ckc_rv.specs.Machine.{Parts, State, is_code, loaded, register, machine}
use Rattle.ckc_machine.specs.declared.observed.FaultKind.{FaultKind}
use Rattle.ckc_machine.specs.declared.observed.FaultKind.TheVariants.{Fetch, Word, Align, Load, Store, Break, Call}
use Rattle.ckc_machine.specs.declared.observed.Observed.{Observed}
use Rattle.ckc_machine.specs.declared.observed.Observed.TheVariants.{Ended, Stopped, Going, Fault, ReadFault, WriteFault}
use Rattle.ckc_machine.specs.declared.machine.Machine.{Machine}
use Rattle.ckc_machine.specs.Memories.{memory_of}
use Rattle.ckc_machine.specs.Points.{state_at, since, taken}

-- the number of a kind of fault: its place in the list
abbrev pub kind_number : FaultKind → ℕ
kind_number Fetch = 0
kind_number Word = 1
kind_number Align = 2
kind_number Load = 3
kind_number Store = 4
kind_number Break = 5
kind_number Call = 6

-- The answer says how the machine stands. A fault of the input or of the output says nothing of it.
abbrev pub Says : Observed → Standing → Type 0
Says (Ended value) standing = standing ≡ standings.Ended value
Says (Stopped check at) standing = standing ≡ standings.Stopped check at
Says Going standing = standing ≡ standings.Going
Says (Fault kind pc) standing = standing ≡ standings.Fault (kind_number kind) pc
Says ReadFault standing = ⊥
Says WriteFault standing = ⊥

-- what a machine last answered; Going if it was not run
abbrev pub answer_of : Machine → Observed
answer_of m = m.answer

-- the registers, the pc and the memory of a machine, with the rest of an input
abbrev pub state_of : Machine → List ℕ → State
state_of m input = record { x = m.regs.x; pc = m.pc; memory = memory_of m.memory; input = input }

-- The machine is at k of the parts and the input: its code is theirs, its registers, pc and memory are those after k
-- instructions, its answer says how the machine of the definition stands there, and what the source has left is told,
-- and is the rest of the input there.
pub record IsAt (parts : Parts) (input : List ℕ) (k : ℕ) (m : Machine) (left : Option (List ℕ)) : Type 0 where
  pub code : m.memory.code.now ≡ parts.code
  pub state : state_of m (state_at parts input k).input ≡ state_at parts input k
  pub answer : Says (answer_of m) (machine parts input k).standing
  pub rest : left ≡ Some (state_at parts input k).input

-- the next instruction is the environment call with the number
pub record AsksFor (parts : Parts) (s : State) (call : ℕ) : Type 0 where
  pub fetches : is_code parts s.pc ≡ true
  pub instruction : option_and_then decoded (loaded s.memory 4 s.pc) ≡ Some Ecall
  pub number : register s 17 ≡ call

-- none of the instructions k + 1 to k + limit asks for a byte of the input
abbrev pub AsksNothing : Parts → List ℕ → ℕ → ℕ → Type 0
AsksNothing parts input k limit = (j : ℕ) → k ≤ j → j < k + limit → ¬ AsksFor parts (state_at parts input j) 2

-- no event of a trace takes from the input
abbrev pub ArePuts : List Event → Type 0
ArePuts [] = Unit {0}
ArePuts (Put byte ∷ trace) = ArePuts trace
ArePuts (Got byte ∷ trace) = ⊥

-- The run went on to limit instructions more: the machine is there, what was put and taken is what came since, and the
-- objects were called once for each of it.
pub record Arrives (parts : Parts) (input : List ℕ) (k limit : ℕ) (m : Machine) (left left' written written' : Option (List ℕ)) (asks asks' puts puts' : ℕ) : Type 0 where
  pub at : IsAt parts input (k + limit) m left'
  pub put : Printed written written' (output (since parts input k (k + limit)))
  pub took : Took left left' (taken (since parts input k (k + limit)))
  pub called : Called (since parts input k (k + limit)) asks asks' puts puts'

-- Before one of the limit instructions, which is environment call 2, the source failed, and was asked no more. What came
-- before it was put and taken.
pub record FailsToGet (parts : Parts) (input : List ℕ) (k limit : ℕ) (left' written written' : Option (List ℕ)) (asks asks' puts puts' : ℕ) : Type 0 where
  pub step : ℕ
  pub from : k ≤ step
  pub below : step < k + limit
  pub next : AsksFor parts (state_at parts input step) 2
  pub called : Called (since parts input k step) (one_more asks) asks' puts puts'
  pub put : Printed written written' (output (since parts input k step))
  pub rest : left' ≡ Some (state_at parts input step).input

-- Before one of the limit instructions, which is environment call 1, the sink failed, and was called no more. What came
-- before it was put and taken, and perhaps the byte itself was put.
pub record FailsToPut (parts : Parts) (input : List ℕ) (k limit : ℕ) (left' written written' : Option (List ℕ)) (asks asks' puts puts' : ℕ) : Type 0 where
  pub step : ℕ
  pub from : k ≤ step
  pub below : step < k + limit
  pub next : AsksFor parts (state_at parts input step) 1
  pub called : Called (since parts input k step) asks asks' (one_more puts) puts'
  pub put : PrintedFront written written' (length (output (since parts input k step))) (output (since parts input k (suc step)))
  pub rest : left' ≡ Some (state_at parts input step).input

-- What a run to a limit does from k on, by its answer.
abbrev pub Runs : Parts → List ℕ → ℕ → ℕ → Machine → Option (List ℕ) → Option (List ℕ) → Option (List ℕ) → Option (List ℕ) → ℕ → ℕ → ℕ → ℕ → Observed → Type 0
Runs parts input k limit m left left' written written' asks asks' puts puts' ReadFault = FailsToGet parts input k limit left' written written' asks asks' puts puts'
Runs parts input k limit m left left' written written' asks asks' puts puts' WriteFault = FailsToPut parts input k limit left' written written' asks asks' puts puts'
Runs parts input k limit m left left' written written' asks asks' puts puts' _ = Arrives parts input k limit m left left' written written' asks asks' puts puts'

-- a count of the faults of the input after a run with this answer
abbrev pub read_faults : Observed → ℕ → ℕ
read_faults ReadFault n = one_more n
read_faults answer n = n

-- the same of the output
abbrev pub write_faults : Observed → ℕ → ℕ
write_faults WriteFault n = one_more n
write_faults answer n = n

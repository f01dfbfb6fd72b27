-- The meaning of three-address code, step by step. A step is one operation or the end of a block; a call counts one
-- more for each argument.
use Rattle.std.specs.Prelude.{ℕ, ◌+◌, ◌==◌, if◌then◌else◌, List, [], ◌∷◌, length, slice_get, Option, Some, None}
use Rattle.ckc_base.specs.declared.places.Pos.{Pos}
use Rattle.ckc_base.specs.declared.runtime_checks.Check.TheVariants.{Depth}
use Rattle.ckc_base.specs.Traces.{Ended, Stopped, Stuck, Showing}
use Rattle.ckc_base.specs.Steps.{Move, Goes, Halts, System, meaning}
use Rattle.ckc_base.specs.LongEvents.{LongEvent, Entered, Returned}
use Rattle.ckc_base.specs.Memory.{first_memory}
use Rattle.ckc_base.specs.Actions.{World, Outcome, Gives, Done, Stops, Lost}
use Rattle.ckc_base.specs.Activations.{Values, none_written, with_written, with_result, first_values, has_room}
use Rattle.ckc_tac.specs.declared.code.Tac.{Tac}
use Rattle.ckc_tac.specs.declared.code.TacFunc.{TacFunc}
use Rattle.ckc_tac.specs.declared.code.TacBlock.{TacBlock}
use Rattle.ckc_tac.specs.declared.code.TacOp.{TacOp}
use Rattle.ckc_tac.specs.declared.code.TacOp.TheVariants.{Call}
use Rattle.ckc_tac.specs.declared.code.TacEnd.{TacEnd}
use Rattle.ckc_tac.specs.declared.code.TacEnd.TheVariants.{Jump, Branch, Return}
use Rattle.ckc_tac.specs.Operations.{outcome_of, value_in, values_in, compared}

-- ---- states

-- an active call: the blocks of its function, the operations that come next in its block, the end of the block, and
-- the registers
pub record Frame : Type 0 where
  pub blocks : List TacBlock
  pub ops : List TacOp
  pub end : TacEnd
  pub registers : Values

-- a call that waits for another one, whose result goes to the target
pub record Caller : Type 0 where
  pub frame : Frame
  pub target : Option ℕ

-- a state: the innermost call, those that wait for it, innermost first, and what is outside of them
pub record State : Type 0 where
  pub frame : Frame
  pub callers : List Caller
  pub world : World

-- how many calls are active
abbrev pub active : State → ℕ
active s = length s.callers + 1

-- ---- steps

-- an operation's action is done, and the operations after it come next
abbrev pub goes_by : State → List TacOp → Outcome → Move LongEvent State
goes_by s ops (Gives events t value world) =
    Goes events (record s { frame = record s.frame { ops = ops; registers = with_written s.frame.registers t value }; world = world })
goes_by s ops (Done events world) = Goes events (record s { frame = record s.frame { ops = ops }; world = world })
goes_by s ops (Stops check at) = Halts [] (Stopped check at)
goes_by s ops Lost = Halts [] Stuck

-- the call at the beginning of a block of a function
abbrev pub begins : List TacBlock → Values → TacBlock → Frame
begins blocks registers block =
    record { blocks = blocks; ops = block.ops; end = block.end; registers = registers }

abbrev pub goes_to : State → Option TacBlock → Move LongEvent State
goes_to s (Some block) = Goes [] (record s { frame = begins s.frame.blocks s.frame.registers block })
goes_to s None = Halts [] Stuck

abbrev pub branches : State → ℕ → ℕ → Option ℕ → Move LongEvent State
branches s one two (Some value) =
    if value == 0 then goes_to s (slice_get s.frame.blocks two) else goes_to s (slice_get s.frame.blocks one)
branches s one two None = Halts [] Stuck

-- the value of a call goes to its caller; that of the first call ends the program
abbrev pub returns : State → List Caller → Option ℕ → Move LongEvent State
returns s [] (Some value) = Halts [] (Ended value)
returns s (caller ∷ callers) (Some value) =
    Goes (Returned ∷ []) (record s { frame = record caller.frame { registers = with_result caller.frame.registers caller.target value }; callers = callers })
returns s [] None = Halts [] Stuck
returns s (caller ∷ callers) None = Halts [] Stuck

-- a function is entered at its block 0, with these values of its parameters
abbrev pub enters_block : State → List TacOp → Option ℕ → List ℕ → List TacBlock → Option TacBlock → Move LongEvent State
enters_block s ops target values blocks (Some block) =
    Goes (Entered ∷ []) (record s {
      frame = begins blocks (first_values values) block;
      callers = record { frame = record s.frame { ops = ops }; target = target } ∷ s.callers;
    })
enters_block s ops target values blocks None = Halts [] Stuck

abbrev pub enters : State → List TacOp → Option ℕ → List ℕ → Option TacFunc → Move LongEvent State
enters s ops target values (Some f) = enters_block s ops target values f.blocks (slice_get f.blocks 0)
enters s ops target values None = Halts [] Stuck

-- a call with these arguments: at most 1,024 are active
abbrev pub calls : List TacFunc → State → List TacOp → Option ℕ → ℕ → Pos → Option (List ℕ) → Move LongEvent State
calls functions s ops target callee at (Some values) =
    if has_room (active s) then enters s ops target values (slice_get functions callee) else Halts [] (Stopped Depth at)
calls functions s ops target callee at None = Halts [] Stuck

abbrev pub operates : List TacFunc → State → List TacOp → TacOp → Move LongEvent State
operates functions s ops (Call target callee arguments at) =
    calls functions s ops target callee at (values_in s.frame.registers arguments)
operates functions s ops op = goes_by s ops (outcome_of s.frame.registers s.world op)

abbrev pub ends : State → TacEnd → Move LongEvent State
ends s (Jump to) = goes_to s (slice_get s.frame.blocks to)
ends s (Branch comparison a b one two) = branches s one two (compared comparison (value_in s.frame.registers a) (value_in s.frame.registers b))
ends s (Return a) = returns s s.callers (value_in s.frame.registers a)

abbrev pub runs : List TacFunc → State → List TacOp → Move LongEvent State
runs functions s [] = ends s s.frame.end
runs functions s (op ∷ ops) = operates functions s ops op

-- how many steps are counted beside the one for the operation itself
abbrev pub extra_of : TacOp → ℕ
extra_of (Call target callee arguments at) = length arguments
extra_of op = 0

abbrev pub extra_steps : List TacOp → ℕ
extra_steps [] = 0
extra_steps (op ∷ ops) = extra_of op

unfoldable pub tac_step : List TacFunc → State → Move LongEvent State
tac_step functions s = runs functions s s.frame.ops

abbrev pub tac_system : List TacFunc → System LongEvent State
tac_system functions = record { step = tac_step functions; weight = λ s. extra_steps s.frame.ops }

-- ---- runs

-- the call at the entry of a function; of one that is not there, a call whose end leads nowhere
abbrev pub entry_block : List TacBlock → Option TacBlock → Frame
entry_block blocks (Some block) = begins blocks none_written block
entry_block blocks None = record { blocks = []; ops = []; end = Jump 0; registers = none_written }

abbrev pub entry_of : Option TacFunc → Frame
entry_of (Some f) = entry_block f.blocks (slice_get f.blocks 0)
entry_of None = entry_block [] None

-- `main` is entered as the one active call
abbrev pub first_state : Tac → List ℕ → State
first_state p input = record {
  frame = entry_of (slice_get p.funcs p.main);
  callers = [];
  world = record { memory = first_memory p.initial; input = input };
}

-- what a program shows in detail after n steps, with an input
abbrev pub tac_detail : Tac → List ℕ → ℕ → Showing LongEvent
tac_detail p input = meaning (tac_system p.funcs) (first_state p input)

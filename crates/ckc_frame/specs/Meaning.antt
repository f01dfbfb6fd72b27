-- The meaning of placed code, step by step: that of three-address code, with the registers at their places, and with
-- those machine registers empty after a call that the call does not keep.
use Rattle.std.specs.Prelude.{ℕ, ◌+◌, ◌==◌, if◌then◌else◌, List, [], ◌∷◌, length, take, slice_get, sum_by, Option, Some, None}
use Rattle.ckc_base.specs.declared.places.Pos.{Pos}
use Rattle.ckc_base.specs.declared.runtime_checks.Check.TheVariants.{Depth}
use Rattle.ckc_base.specs.Traces.{Event, Ended, Stopped, Stuck, Showing, narrowed}
use Rattle.ckc_base.specs.Steps.{Move, Goes, Halts, System, meaning}
use Rattle.ckc_base.specs.LongEvents.{LongEvent, Entered, Returned, plain_events}
use Rattle.ckc_base.specs.Memory.{first_memory}
use Rattle.ckc_base.specs.Actions.{World, Outcome, Gives, Done, Stops, Lost}
use Rattle.ckc_base.specs.Activations.{Values, none_written, with_written, has_room}
use Rattle.ckc_tac.specs.declared.code.TacBlock.{TacBlock}
use Rattle.ckc_tac.specs.declared.code.TacOp.{TacOp}
use Rattle.ckc_tac.specs.declared.code.TacOp.TheVariants.{Call}
use Rattle.ckc_tac.specs.declared.code.TacEnd.{TacEnd}
use Rattle.ckc_tac.specs.declared.code.TacEnd.TheVariants.{Jump, Branch, Return}
use Rattle.ckc_tac.specs.Operations.{outcome_of, value_in, values_in, compared}
use Rattle.ckc_tac.specs.Meaning.{extra_steps}
use Rattle.ckc_frame.specs.declared.code.Place.{Place}
use Rattle.ckc_frame.specs.declared.code.Placed.{Placed}
use Rattle.ckc_frame.specs.declared.code.PlacedFunc.{PlacedFunc}
use Rattle.ckc_frame.specs.Places.{home, registers_in, entry_places, places_kept, marks_of}

-- ---- states

-- An active call: its function, the operations that come next in its block, the end of the block, how many calls
-- stand before these operations in the order of the code, and the values of the places.
pub record Frame : Type 0 where
  pub function : PlacedFunc
  pub ops : List TacOp
  pub end : TacEnd
  pub calls_before : ℕ
  pub places : Values

-- a call that waits for another one, whose result goes to the target
pub record Caller : Type 0 where
  pub frame : Frame
  pub target : Option ℕ

-- a state: the innermost call, those that wait for it, innermost first, and what is outside of them
pub record State : Type 0 where
  pub frame : Frame
  pub callers : List Caller
  pub world : World

-- how many calls are active
abbrev pub active : State → ℕ
active s = length s.callers + 1

abbrev pub registers_of : Frame → Values
registers_of f = registers_in f.function.homes f.places

-- ---- calls in the order of the code

abbrev pub is_call : TacOp → ℕ
is_call (Call target callee arguments at) = 1
is_call op = 0

abbrev pub calls_in : TacBlock → ℕ
calls_in block = sum_by is_call block.ops

-- how many calls stand in the blocks before one
abbrev pub calls_in_front : List TacBlock → ℕ → ℕ
calls_in_front blocks b = sum_by calls_in (take b blocks)

-- ---- steps

-- an operation's action is done, and the operations after it come next
abbrev pub goes_by : State → List TacOp → Outcome → Move LongEvent State
goes_by s ops (Gives events t value world) =
    Goes events (record s {
      frame = record s.frame { ops = ops; places = with_written s.frame.places (home s.frame.function.homes t) value };
      world = world;
    })
goes_by s ops (Done events world) = Goes events (record s { frame = record s.frame { ops = ops }; world = world })
goes_by s ops (Stops check at) = Halts [] (Stopped check at)
goes_by s ops Lost = Halts [] Stuck

-- a call at the beginning of a block of its function
abbrev pub begins : PlacedFunc → ℕ → Values → TacBlock → Frame
begins function b places block =
    record { function = function; ops = block.ops; end = block.end; calls_before = calls_in_front function.code.blocks b; places = places }

abbrev pub goes_to : State → ℕ → Option TacBlock → Move LongEvent State
goes_to s b (Some block) = Goes [] (record s { frame = begins s.frame.function b s.frame.places block })
goes_to s b None = Halts [] Stuck

abbrev pub branches : State → ℕ → ℕ → Option ℕ → Move LongEvent State
branches s one two (Some value) =
    if value == 0
    then goes_to s two (slice_get s.frame.function.code.blocks two)
    else goes_to s one (slice_get s.frame.function.code.blocks one)
branches s one two None = Halts [] Stuck

-- the places with the result of a call at the home of its target, if it has one
abbrev pub with_result_at : List Place → Values → Option ℕ → ℕ → Values
with_result_at homes places (Some t) value = with_written places (home homes t) value
with_result_at homes places None value = places

-- the value of a call goes to its caller; that of the first call ends the program
abbrev pub returns : State → List Caller → Option ℕ → Move LongEvent State
returns s [] (Some value) = Halts [] (Ended value)
returns s (caller ∷ callers) (Some value) =
    Goes (Returned ∷ []) (record s {
      frame = record caller.frame { places = with_result_at caller.frame.function.homes caller.frame.places caller.target value };
      callers = callers;
    })
returns s [] None = Halts [] Stuck
returns s (caller ∷ callers) None = Halts [] Stuck

-- the caller after its call: of its machine registers those are left that the call keeps
abbrev pub waits : Frame → List TacOp → Frame
waits f ops = record f {
  ops = ops;
  calls_before = f.calls_before + 1;
  places = places_kept f.function.homes (marks_of (slice_get f.function.kept f.calls_before)) f.places;
}

-- a function is entered at its block 0, with these values of its parameters at their homes
abbrev pub enters_block : State → List TacOp → Option ℕ → List ℕ → PlacedFunc → Option TacBlock → Move LongEvent State
enters_block s ops target values f (Some block) =
    Goes (Entered ∷ []) (record s {
      frame = begins f 0 (entry_places f.homes 0 values) block;
      callers = record { frame = waits s.frame ops; target = target } ∷ s.callers;
    })
enters_block s ops target values f None = Halts [] Stuck

abbrev pub enters : State → List TacOp → Option ℕ → List ℕ → Option PlacedFunc → Move LongEvent State
enters s ops target values (Some f) = enters_block s ops target values f (slice_get f.code.blocks 0)
enters s ops target values None = Halts [] Stuck

-- a call with these arguments: at most 1,024 are active
abbrev pub calls : List PlacedFunc → State → List TacOp → Option ℕ → ℕ → Pos → Option (List ℕ) → Move LongEvent State
calls functions s ops target callee at (Some values) =
    if has_room (active s) then enters s ops target values (slice_get functions callee) else Halts [] (Stopped Depth at)
calls functions s ops target callee at None = Halts [] Stuck

abbrev pub operates : List PlacedFunc → State → List TacOp → TacOp → Move LongEvent State
operates functions s ops (Call target callee arguments at) =
    calls functions s ops target callee at (values_in (registers_of s.frame) arguments)
operates functions s ops op = goes_by s ops (outcome_of (registers_of s.frame) s.world op)

abbrev pub ends : State → TacEnd → Move LongEvent State
ends s (Jump to) = goes_to s to (slice_get s.frame.function.code.blocks to)
ends s (Branch comparison a b one two) =
    branches s one two (compared comparison (value_in (registers_of s.frame) a) (value_in (registers_of s.frame) b))
ends s (Return a) = returns s s.callers (value_in (registers_of s.frame) a)

abbrev pub runs : List PlacedFunc → State → List TacOp → Move LongEvent State
runs functions s [] = ends s s.frame.end
runs functions s (op ∷ ops) = operates functions s ops op

unfoldable pub placed_step : List PlacedFunc → State → Move LongEvent State
placed_step functions s = runs functions s s.frame.ops

abbrev pub placed_system : List PlacedFunc → System LongEvent State
placed_system functions = record { step = placed_step functions; weight = λ s. extra_steps s.frame.ops }

-- ---- runs

-- a function without operations, whose end leads nowhere
abbrev pub no_function : PlacedFunc
no_function = record { code = record { params = 0; regs = 0; blocks = [] }; homes = []; kept = [] }

abbrev pub entry_block : PlacedFunc → Option TacBlock → Frame
entry_block f (Some block) = begins f 0 none_written block
entry_block f None = record { function = no_function; ops = []; end = Jump 0; calls_before = 0; places = none_written }

abbrev pub entry_of : Option PlacedFunc → Frame
entry_of (Some f) = entry_block f (slice_get f.code.blocks 0)
entry_of None = entry_block no_function None

-- `main` is entered as the one active call
abbrev pub first_state : Placed → List ℕ → State
first_state p input = record {
  frame = entry_of (slice_get p.funcs p.main);
  callers = [];
  world = record { memory = first_memory p.initial; input = input };
}

-- what a program shows in detail after n steps, with an input
abbrev pub placed_detail : Placed → List ℕ → ℕ → Showing LongEvent
placed_detail p input = meaning (placed_system p.funcs) (first_state p input)

-- what a program shows after n steps, with an input
abbrev pub placed_meaning : Placed → List ℕ → ℕ → Showing Event
placed_meaning p input n = narrowed plain_events (placed_detail p input n)

-- The meaning of core code, step by step. A step is one statement, the end of a list of statements, or a turn of a
-- loop; each node of its expressions counts one more, and each argument of a call.
use Rattle.std.specs.Prelude.{ℕ, ◌+◌, ◌==◌, if◌then◌else◌, List, [], ◌∷◌, length, slice_get, Option, Some, None, option_and_then}
use Rattle.std.specs.Option.{option_map}
use Rattle.ckc_base.specs.declared.places.Pos.{Pos}
use Rattle.ckc_base.specs.declared.runtime_checks.Check.TheVariants.{Depth}
use Rattle.ckc_base.specs.Words.{applied}
use Rattle.ckc_base.specs.Products.{high_product}
use Rattle.ckc_base.specs.Traces.{Event, Ended, Stopped, Stuck, Showing, narrowed}
use Rattle.ckc_base.specs.Steps.{Move, Goes, Halts, System, meaning}
use Rattle.ckc_base.specs.LongEvents.{LongEvent, Entered, Returned, plain_events}
use Rattle.ckc_base.specs.Memory.{Memory, first_memory, value_at}
use Rattle.ckc_base.specs.Actions.{World, Outcome, Gives, Done, Stops, Lost, with_value, stores, checks, gets, puts, allocates}
use Rattle.ckc_base.specs.Activations.{Values, none_written, with_written, with_result, first_values, has_room}
use Rattle.ckc_core.specs.Code.{Expr, Const, Local, Load, Bin, High, Code, End, Set, Store, Check, Call, Get, Put, Alloc, If, Loop, Break, Continue, Return, Function, Program}

-- ---- expressions

abbrev pub both : (ℕ → ℕ → ℕ) → Option ℕ → Option ℕ → Option ℕ
both f x y = option_and_then (λ a. option_map (f a) y) x

-- the value of an expression; none if it reads a local that is not written, or loads where it may not
abbrev pub value_of : Values → Memory → Expr → Option ℕ
value_of locals memory (Const n) = Some n
value_of locals memory (Local x) = locals x
value_of locals memory (Load width a) = option_and_then (value_at width memory) (value_of locals memory a)
value_of locals memory (Bin op a b) = both (applied op) (value_of locals memory a) (value_of locals memory b)
value_of locals memory (High is_signed a b) =
    both (high_product is_signed) (value_of locals memory a) (value_of locals memory b)

abbrev pub values_of : Values → Memory → List Expr → Option (List ℕ)
values_of locals memory [] = Some []
values_of locals memory (e ∷ es) =
    option_and_then (λ v. option_map (λ vs. v ∷ vs) (values_of locals memory es)) (value_of locals memory e)

-- how many nodes an expression has
abbrev pub nodes : Expr → ℕ
nodes (Const n) = 1
nodes (Local x) = 1
nodes (Load width a) = 1 + nodes a
nodes (Bin op a b) = 1 + nodes a + nodes b
nodes (High is_signed a b) = 1 + nodes a + nodes b

abbrev pub all_nodes : List Expr → ℕ
all_nodes [] = 0
all_nodes (e ∷ es) = nodes e + all_nodes es

-- ---- states

-- What comes after the statements that run: the end of the function; the statements after an `If`; or, in the body
-- or in the step of a loop, the loop, the statements after it, and what comes after those.
pub data Rest : Type 0 where
  Stop : Rest
  Next : (code : Code) (after : Rest) → Rest
  Body : (body step code : Code) (after : Rest) → Rest
  Step : (body step code : Code) (after : Rest) → Rest

-- an active call: the statements that come next, what comes after them, and the locals
pub record Frame : Type 0 where
  pub code : Code
  pub rest : Rest
  pub locals : Values

-- a call that waits for another one, whose result goes to the target
pub record Caller : Type 0 where
  pub frame : Frame
  pub target : Option ℕ

-- a state: the innermost call, those that wait for it, innermost first, and what is outside of them
pub record State : Type 0 where
  pub frame : Frame
  pub callers : List Caller
  pub world : World

-- how many calls are active
abbrev pub active : State → ℕ
active s = length s.callers + 1

-- ---- steps

abbrev pub goes_to : State → Code → Rest → Move LongEvent State
goes_to s code rest = Goes [] (record s { frame = record s.frame { code = code; rest = rest } })

-- a statement's action is done, and the statements after it come next
abbrev pub goes_by : State → Code → Outcome → Move LongEvent State
goes_by s code (Gives events x value world) =
    Goes events (record s { frame = record s.frame { code = code; locals = with_written s.frame.locals x value }; world = world })
goes_by s code (Done events world) = Goes events (record s { frame = record s.frame { code = code }; world = world })
goes_by s code (Stops check at) = Halts [] (Stopped check at)
goes_by s code Lost = Halts [] Stuck

-- the value of a call goes to its caller; that of the first call ends the program
abbrev pub returns : State → List Caller → ℕ → Move LongEvent State
returns s [] value = Halts [] (Ended value)
returns s (caller ∷ callers) value =
    Goes (Returned ∷ []) (record s { frame = record caller.frame { locals = with_result caller.frame.locals caller.target value }; callers = callers })

abbrev pub returns_value : State → Option ℕ → Move LongEvent State
returns_value s (Some value) = returns s s.callers value
returns_value s None = Halts [] Stuck

-- a function is entered with these values of its parameters
abbrev pub enters : State → Code → Option ℕ → List ℕ → Option Function → Move LongEvent State
enters s code target values (Some f) =
    Goes (Entered ∷ []) (record s {
      frame = record { code = f.body; rest = Stop; locals = first_values values };
      callers = record { frame = record s.frame { code = code }; target = target } ∷ s.callers;
    })
enters s code target values None = Halts [] Stuck

-- a call with these arguments: at most 1,024 are active
abbrev pub calls : List Function → State → Code → Option ℕ → ℕ → Pos → Option (List ℕ) → Move LongEvent State
calls functions s code target callee at (Some values) =
    if has_room (active s) then enters s code target values (slice_get functions callee) else Halts [] (Stopped Depth at)
calls functions s code target callee at None = Halts [] Stuck

abbrev pub branches : State → Code → Code → Code → Option ℕ → Move LongEvent State
branches s one two rest (Some value) =
    if value == 0 then goes_to s two (Next rest s.frame.rest) else goes_to s one (Next rest s.frame.rest)
branches s one two rest None = Halts [] Stuck

-- the end of a list of statements
abbrev pub ends : State → Rest → Move LongEvent State
ends s Stop = returns s s.callers 0
ends s (Next code after) = goes_to s code after
ends s (Body body step code after) = goes_to s step (Step body step code after)
ends s (Step body step code after) = goes_to s body (Body body step code after)

-- a `Break` goes to what comes after the innermost loop in whose body it stands
abbrev pub breaks : State → Rest → Move LongEvent State
breaks s Stop = Halts [] Stuck
breaks s (Next code after) = breaks s after
breaks s (Body body step code after) = goes_to s code after
breaks s (Step body step code after) = Halts [] Stuck

-- a `Continue` goes to the step of that loop
abbrev pub continues : State → Rest → Move LongEvent State
continues s Stop = Halts [] Stuck
continues s (Next code after) = continues s after
continues s (Body body step code after) = goes_to s step (Step body step code after)
continues s (Step body step code after) = Halts [] Stuck

abbrev pub runs : List Function → State → Code → Move LongEvent State
runs functions s End = ends s s.frame.rest
runs functions s (Set x e rest) =
    goes_by s rest (with_value (value_of s.frame.locals s.world.memory e) (λ v. Gives [] x v s.world))
runs functions s (Store width a e rest) =
    goes_by s rest (with_value (value_of s.frame.locals s.world.memory a) (λ p.
    with_value (value_of s.frame.locals s.world.memory e) (stores s.world width p)))
runs functions s (Check check at e rest) =
    goes_by s rest (with_value (value_of s.frame.locals s.world.memory e) (checks s.world check at))
runs functions s (Call target callee es at rest) =
    calls functions s rest target callee at (values_of s.frame.locals s.world.memory es)
runs functions s (Get x rest) = goes_by s rest (gets s.world x)
runs functions s (Put e rest) = goes_by s rest (with_value (value_of s.frame.locals s.world.memory e) (puts s.world))
runs functions s (Alloc x e size rest) =
    goes_by s rest (with_value (value_of s.frame.locals s.world.memory e) (λ n. allocates s.world x n size))
runs functions s (If e one two rest) = branches s one two rest (value_of s.frame.locals s.world.memory e)
runs functions s (Loop body step rest) = goes_to s body (Body body step rest s.frame.rest)
runs functions s (Break rest) = breaks s s.frame.rest
runs functions s (Continue rest) = continues s s.frame.rest
runs functions s (Return e rest) = returns_value s (value_of s.frame.locals s.world.memory e)

-- how many steps are counted beside the one for the statement itself
abbrev pub extra_steps : Code → ℕ
extra_steps End = 0
extra_steps (Set x e rest) = nodes e
extra_steps (Store width a e rest) = nodes a + nodes e
extra_steps (Check check at e rest) = nodes e
extra_steps (Call target callee es at rest) = all_nodes es + length es
extra_steps (Get x rest) = 0
extra_steps (Put e rest) = nodes e
extra_steps (Alloc x e size rest) = nodes e
extra_steps (If e one two rest) = nodes e
extra_steps (Loop body step rest) = 0
extra_steps (Break rest) = 0
extra_steps (Continue rest) = 0
extra_steps (Return e rest) = nodes e

unfoldable pub core_step : List Function → State → Move LongEvent State
core_step functions s = runs functions s s.frame.code

abbrev pub core_system : List Function → System LongEvent State
core_system functions = record { step = core_step functions; weight = λ s. extra_steps s.frame.code }

-- ---- runs

abbrev pub body_of : Option Function → Code
body_of (Some f) = f.body
body_of None = Break End

-- `main` is entered as the one active call
abbrev pub first_state : Program → List ℕ → State
first_state p input = record {
  frame = record { code = body_of (slice_get p.functions p.main); rest = Stop; locals = none_written };
  callers = [];
  world = record { memory = first_memory p.initial; input = input };
}

-- what a program shows in detail after n steps, with an input
abbrev pub core_detail : Program → List ℕ → ℕ → Showing LongEvent
core_detail p input = meaning (core_system p.functions) (first_state p input)

-- what a program shows after n steps, with an input
abbrev pub core_meaning : Program → List ℕ → ℕ → Showing Event
core_meaning p input n = narrowed plain_events (core_detail p input n)

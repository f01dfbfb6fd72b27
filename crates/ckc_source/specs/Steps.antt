-- The steps of a program (ISO C11, 6.8 and 5.1.2.3). A step is one assignment or declaration, one statement that calls
-- `getchar`, `putchar` or `calloc`, one condition, the entry of a call, a return, a dynamic check, or a bundle.
use Rattle.std.specs.Prelude.{ℕ, ◌-◌, ◌%◌, ◌^◌, ◌==◌, if◌then◌else◌, List, [], ◌∷◌, ◌++◌, slice_get, slice_index, slice_set, Option, Some, None, Result, Ok, Err}
use Rattle.ckc_base.specs.declared.arithmetic.Width.{Width}
use Rattle.ckc_base.specs.declared.places.Pos.{Pos}
use Rattle.ckc_base.specs.declared.runtime_checks.Check.TheVariants as check
use Rattle.ckc_base.specs.Memory.{kept_part, heap_has_room, next_place}
use Rattle.ckc_base.specs.Activations.{has_room}
use Rattle.ckc_base.specs.Traces.{Event, Got, Put as Puts}
use Rattle.ckc_base.specs.Traces as standing
use Rattle.ckc_base.specs.Steps.{Move, Goes, Halts}
use Rattle.ckc_source.specs.declared.expr.Through.TheVariants as through
use Rattle.ckc_source.specs.declared.expr.Through.{Through}
use Rattle.ckc_source.specs.declared.expr.Access.{Access}
use Rattle.ckc_source.specs.declared.expr.Pointee.{Pointee}
use Rattle.ckc_source.specs.declared.expr.Limits.{Limits}
use Rattle.ckc_source.specs.declared.outcome.Range.{Range}
use Rattle.ckc_source.specs.declared.outcome.Range.TheVariants.{Within}
use Rattle.ckc_source.specs.declared.outcome.Halt.{Halt}
use Rattle.ckc_source.specs.declared.outcome.Halt.TheVariants as halt
use Rattle.ckc_source.specs.declared.outcome.Place.{Place}
use Rattle.ckc_source.specs.declared.outcome.Place.TheVariants as place
use Rattle.ckc_source.specs.declared.program.Interface.{Interface}
use Rattle.ckc_source.specs.declared.program.Shape.{Shape}
use Rattle.ckc_source.specs.declared.stmt.Spot.{Spot}
use Rattle.ckc_source.specs.declared.stmt.Kept.{Kept}
use Rattle.ckc_source.specs.declared.stmt.Kept.TheVariants as kept
use Rattle.ckc_source.specs.Code.{Target, Nothing, Variable, Memory, Right, Value, Fresh, Code, Assign, Bundle, Get, Put, Call, If, Loop, Return, Check, Function, Program}
use Rattle.ckc_source.specs.Blocks.{Block, lies_in, stored, fresh}
use Rattle.ckc_source.specs.Eval.{Store, given, given_both, given_some, stops, reads_limited, element, place_in, evaluated, all_evaluated}
use Rattle.ckc_source.specs.States.{Work, Rest, Turn, Caller, State, active, entered, settled}

-- what the expressions of a state read
abbrev pub store_of : List Shape → State → Store
store_of shapes s = record { shapes = shapes; blocks = s.blocks; locals = s.frame.locals }

-- ---- assignments

-- the place of the check for the terminator: an access through an `_Nt_array_ptr` at its upper bound
abbrev pub terminator_at : Through → Range → ℕ → Pos → Option Pos
terminator_at through.Terminated (Within low high) a at = if a == high then Some at else None
terminator_at _ _ a at = None

-- A target in memory is judged when it is evaluated: it is stuck if it is misaligned or does not lie in one block.
abbrev pub aims_at : Store → Width → Access → Range → ℕ → Result Place Halt
aims_at s width access range a =
    if lies_in width (place_in a access.offset) s.blocks
    then Ok (place.Memory (place_in a access.offset) width (terminator_at access.through range a access.at)) else Err halt.Stuck

-- where an assignment is going to write
abbrev pub aimed : Store → Target → Result Place Halt
aimed s Nothing = Ok place.Nowhere
aimed s (Variable x width) = Ok (place.Local x width)
aimed s (Memory width access p i) =
    given_both (evaluated s p) (evaluated s i) (λ v k. given (element access v k.number) (aims_at s width access v.range))

-- the value is converted to the type of the target, and what is not zero stops where only zero may be written
abbrev pub refuses : Option Pos → ℕ → Result Place Halt → Result Place Halt
refuses (Some at) n to = if n == 0 then to else stops check.Terminator at
refuses None n to = to

-- the place to write to, unless only zero may be written there and the value is another
abbrev pub allowed : Place → ℕ → Result Place Halt
allowed (place.Memory a width zero_alone) n = refuses zero_alone (kept_part width n) (Ok (place.Memory a width zero_alone))
allowed to n = Ok to

-- the state with the blocks that a store leaves, which is stuck if no block has the access
abbrev pub with_blocks : State → Option (List Block) → Result State Halt
with_blocks s blocks = given_some blocks (λ bs. Ok (record s { blocks = bs }))

-- a value is written
abbrev pub writes : Place → ℕ → State → Result State Halt
writes place.Nowhere n s = Ok s
writes (place.Local x width) n s = Ok (record s { frame = record s.frame { locals = slice_set s.frame.locals x (kept_part width n) } })
writes (place.Memory a width zero_alone) n s = with_blocks s (stored width a n s.blocks)

-- what is to be written, and where
abbrev pub Write : Type 0
Write = Place × ℕ

-- the state after several values are written, one after another
abbrev pub all_written : List Write → State → Result State Halt
all_written [] s = Ok s
all_written (w ∷ ws) s = given (writes w.0 w.1 s) (all_written ws)

-- a value that is assigned, and the state then
pub record Drawn : Type 0 where
  pub number : ℕ
  pub state : State

-- `calloc` of so many elements: a block if there is room for one, and else null (ISO C11, 7.22.3.2)
abbrev pub allocated : State → Pointee → ℕ → Drawn
allocated s to count =
    if heap_has_room s.next count to.size
    then record { number = s.next; state = record s { blocks = s.blocks ++ fresh to s.next count ∷ []; next = next_place s.next count to.size } }
    else record { number = 0; state = s }

-- the value of the right side of an assignment, and the state after it
abbrev pub drawn : List Shape → State → Right → Result Drawn Halt
drawn shapes s (Value e) = given (evaluated (store_of shapes s) e) (λ v. Ok (record { number = v.number; state = s }))
drawn shapes s (Fresh to e) = given (evaluated (store_of shapes s) e) (λ v. Ok (allocated s to v.number))

-- what assignments are going to write, and the state then
pub record Planned : Type 0 where
  pub writes : List Write
  pub state : State

-- what assignments are going to write, with one more in front
abbrev pub and_then_written : Place → ℕ → Planned → Planned
and_then_written to n p = record { writes = (to, n) ∷ p.writes; state = p.state }

-- Each target is evaluated before its right side, all of them with the values before the assignments.
abbrev pub planned : List Shape → State → List (Target × Right) → Result Planned Halt
planned shapes s [] = Ok (record { writes = []; state = s })
planned shapes s (a ∷ rest) =
    given (aimed (store_of shapes s) a.0) (λ to. given (drawn shapes s a.1) (λ d. given (allowed to d.number) (λ to.
    given (planned shapes d.state rest) (λ p. Ok (and_then_written to d.number p)))))

-- assignments that are done at once (Checked C specification 0.9, section 3, on bundled blocks)
abbrev pub bundled : List Shape → State → List (Target × Right) → Result State Halt
bundled shapes s assigns = given (planned shapes s assigns) (λ p. all_written p.writes p.state)

-- ---- moves

-- The run halts after these events: it stops at a check, or is stuck.
abbrev pub halts : {A : Type 0} → List Event → Halt → Move Event A
halts events (halt.Stopped why at) = Halts events (standing.Stopped why at)
halts events halt.Stuck = Halts events standing.Stuck

-- after these events the run goes on in a state, or halts
abbrev pub comes_to : List Event → Result State Halt → Move Event State
comes_to events (Ok s) = Goes events s
comes_to events (Err h) = halts events h

-- The step goes on with a value, or the run halts if there is none.
abbrev pub and_moves : {A : Type 0} → Result A Halt → (A → Move Event State) → Move Event State
and_moves (Ok v) f = f v
and_moves (Err h) f = halts [] h

-- a state with other statements next
abbrev pub at_work : State → List Work → State
at_work s work = record s { frame = record s.frame { work = work } }

-- a value that comes with an event is written if it may be
abbrev pub writes_allowed : Place → ℕ → State → Result State Halt
writes_allowed to n s = given (allowed to n) (λ to. writes to n s)

-- `getchar`: the next byte, or -1 if there is none (ISO C11, 7.21.7.6)
abbrev pub gets : State → Place → List ℕ → Move Event State
gets s to [] = comes_to (Got None ∷ []) (writes_allowed to (2 ^ 32 - 1) s)
gets s to (b ∷ rest) = comes_to (Got (Some b) ∷ []) (writes_allowed to b (record s { input = rest }))

-- `putchar`: the lowest byte is put, and is the value (ISO C11, 7.21.7.8)
abbrev pub puts : State → Place → ℕ → Move Event State
puts s to n = comes_to (Puts (n % 256) ∷ []) (writes_allowed to (n % 256) s)

-- a function is entered with these arguments, and the call in which that happens waits for its result
abbrev pub in_call : State → Option Kept → List ℕ → Function → State
in_call s target values f = record s { frame = entered f values; callers = record { frame = s.frame; target = target } ∷ s.callers }

-- Each interface of checked code is read with its limits. It is stuck if the caller passed a pointer that may reach less;
-- an argument that was judged reaches all of them.
abbrev pub reads_interfaces : Store → List Interface → Result (Unit {0}) Halt
reads_interfaces s [] = Ok tt
reads_interfaces s (i ∷ is) = given (reads_limited s i.limits (slice_index s.locals i.param)) (λ v. reads_interfaces s is)

-- A function is entered, and its interfaces are read.
abbrev pub enters : List Shape → State → Option Kept → List ℕ → Option Function → Move Event State
enters shapes s target values (Some f) =
    and_moves (reads_interfaces (store_of shapes (in_call s target values f)) f.interfaces) (λ u. Goes [] (in_call s target values f))
enters shapes s target values None = Halts [] standing.Stuck

-- a call with these arguments: at most 1,024 are active
abbrev pub calls : Program → State → Option Kept → ℕ → Pos → List ℕ → Move Event State
calls p s target callee at values =
    if has_room (active s) then enters p.shapes s target values (slice_get p.functions callee) else Halts [] (standing.Stopped check.Depth at)

-- the place that keeps the result of a call: a local or a static object
abbrev pub kept_place : Kept → Place
kept_place (kept.Local x width) = place.Local x width
kept_place (kept.Static a width) = place.Memory a width None

-- A result that is a pointer with known limits is read, with the values that the parameters had at the entry.
abbrev pub reads_result : List Shape → State → Option Limits → List ℕ → ℕ → Result ℕ Halt
reads_result shapes s None entry n = Ok n
reads_result shapes s (Some limits) entry n =
    given (reads_limited (record { shapes = shapes; blocks = s.blocks; locals = entry }) limits n) (λ v. Ok v.number)

-- the result of a call goes to where its caller keeps it
abbrev pub hands : List Shape → State → Option Limits → List ℕ → Option Kept → ℕ → Result State Halt
hands shapes s limits entry None n = Ok s
hands shapes s limits entry (Some target) n =
    given (reads_result shapes s limits entry n) (λ n. writes (kept_place target) n s)

-- a call returns a value; that of the first call ends the program
abbrev pub returns : List Shape → State → List Caller → ℕ → Move Event State
returns shapes s [] n = Halts [] (standing.Ended n)
returns shapes s (caller ∷ callers) n =
    comes_to [] (hands shapes (record s { frame = caller.frame; callers = callers }) s.frame.function.result s.frame.entry caller.target n)

-- the step of the statement in front, in a state in which those after it come next
abbrev pub acts : Program → State → List Work → Code → Move Event State
acts p s work (Assign spot target right rest) =
    comes_to [] (bundled p.shapes (at_work s (Rest rest ∷ work)) ((target, right) ∷ []))
acts p s work (Bundle spot assigns rest) = comes_to [] (bundled p.shapes (at_work s (Rest rest ∷ work)) assigns)
acts p s work (Get spot target rest) =
    and_moves (aimed (store_of p.shapes s) target) (λ to. gets (at_work s (Rest rest ∷ work)) to s.input)
acts p s work (Put spot target e rest) =
    and_moves (aimed (store_of p.shapes s) target) (λ to. and_moves (evaluated (store_of p.shapes s) e) (λ v.
    puts (at_work s (Rest rest ∷ work)) to v.number))
acts p s work (Call spot target callee es rest) =
    and_moves (all_evaluated (store_of p.shapes s) es) (calls p (at_work s (Rest rest ∷ work)) target callee spot.at)
acts p s work (If spot e one two rest) =
    and_moves (evaluated (store_of p.shapes s) e) (λ v.
    Goes [] (at_work s (Rest (if v.number == 0 then two else one) ∷ Rest rest ∷ work)))
acts p s work (Loop spot e body step rest) =
    and_moves (evaluated (store_of p.shapes s) e) (λ v.
    Goes [] (at_work s (if v.number == 0 then Rest rest ∷ work else Rest body ∷ Turn (Loop spot e body step rest) ∷ work)))
acts p s work (Return spot e rest) =
    and_moves (evaluated (store_of p.shapes s) e) (λ v. returns p.shapes s s.callers v.number)
acts p s work (Check spot e rest) =
    and_moves (evaluated (store_of p.shapes s) e) (λ v.
    if v.number == 0 then Halts [] (standing.Stopped check.Dynamic spot.at) else Goes [] (at_work s (Rest rest ∷ work)))
acts p s work _ = Halts [] standing.Stuck

-- the step of what comes next; falling off the end of a function returns 0
abbrev pub works : Program → State → List Work → Move Event State
works p s [] = returns p.shapes s s.callers 0
works p s (Rest code ∷ work) = acts p s work code
works p s (Turn code ∷ work) = Halts [] standing.Stuck

-- one step of a program
unfoldable pub source_step : Program → State → Move Event State
source_step p s = works p s (settled s.frame.work)

-- ---- where a step stands

-- the place and the mode of the first of some statements, or those of the end of the function
abbrev pub spot_in : Spot → Code → Spot
spot_in end (Assign spot target right rest) = spot
spot_in end (Bundle spot assigns rest) = spot
spot_in end (Get spot target rest) = spot
spot_in end (Put spot target e rest) = spot
spot_in end (Call spot target callee es rest) = spot
spot_in end (If spot e one two rest) = spot
spot_in end (Loop spot e body step rest) = spot
spot_in end (Return spot e rest) = spot
spot_in end (Check spot e rest) = spot
spot_in end _ = end

-- the same of what comes next in a call
abbrev pub spot_at : Spot → List Work → Spot
spot_at end [] = end
spot_at end (Rest code ∷ work) = spot_in end code
spot_at end (Turn code ∷ work) = end

-- the place and the mode of the next step of a state
abbrev pub spot_of : State → Spot
spot_of s = spot_at s.frame.function.end (settled s.frame.work)

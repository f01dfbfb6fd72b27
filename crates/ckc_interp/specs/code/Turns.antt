-- What the next step of a run asks of the outside, and what the parts of a step give.
use Rattle.std.specs.Prelude.{◌≡◌, ◌⊎◌, ◌%◌, ◌^◌, ◌-◌, Bool, ℕ, List, [], ◌∷◌, ◌++◌, Option, Some, None, Result, Ok, Err, Vec}
use Rattle.std.specs.declared.alloc.Global.{Global}
use Rattle.ckc_base.specs.declared.places.Pos.{Pos}
use Rattle.ckc_base.specs.Traces.{Event, Standing}
use Rattle.ckc_base.specs.Traces as standing
use Rattle.ckc_base.specs.Steps.{Move, Goes, Halts}
use Rattle.ckc_source.specs.declared.outcome.Halt.{Halt}
use Rattle.ckc_source.specs.declared.outcome.Place.{Place}
use Rattle.ckc_source.specs.declared.stmt.Spot.{Spot}
use Rattle.ckc_source.specs.States.{State, Work, Rest, Turn as Ahead}
use Rattle.ckc_source.specs.Steps.{store_of, aimed, drawn, allowed, Write, Drawn, Planned, gets, halts, puts, writes_allowed, spot_in, spot_of, source_step, at_work, acts, returns}
use Rattle.ckc_source.specs.Code.{Target, Right, Code, Get, Put, Program}
use Rattle.ckc_source.specs.Eval.{given, evaluated}
use Rattle.ckc_source.specs.declared.outcome.Value.{Value}
use Rattle.ckc_source.specs.declared.program.Shape.{Shape}
use Rattle.ckc_source.specs.Source.{by_mode}
use Rattle.ckc_source.specs.declared.outcome.Halt.TheVariants as halt
use Rattle.ckc_outside.specs.Outside.{SeenSource, SeenSink}
use Rattle.ckc_outside.specs.Given.{taken, Took, Streams, Showed, AskedInVain, PutInVain, Gave, MayCome}
use Rattle.ckc_interp.specs.Runs.{AsksToGet, AsksToPut, read_faults, write_faults}
use Rattle.ckc_interp.specs.declared.seen.Seen.{Seen}
use Rattle.ckc_interp.specs.declared.seen.Seen.TheVariants as seen
use Rattle.ckc_interp.specs.declared.run.Turn.{Turn}
use Rattle.ckc_interp.specs.declared.run.Turn.TheVariants as turn

-- What a step asks of the outside: it moves by itself, but for its events; or it gets a byte
-- in a state, for a place, or puts one.
pub data Asked : Type 0 where
  Does : (move : Move Event State) → Asked
  Gets : (at : State) (to : Place) → Asked
  Puts : (at : State) (to : Place) (number : ℕ) → Asked

abbrev pub gets_at : State → Result Place Halt → Asked
gets_at s (Ok to) = Gets s to
gets_at s (Err why) = Does (halts [] why)

abbrev pub puts_at : State → Result Place Halt → Result Value Halt → Asked
puts_at s (Ok to) (Ok v) = Puts s to v.number
puts_at s (Ok to) (Err why) = Does (halts [] why)
puts_at s (Err why) v = Does (halts [] why)

-- what the step of the statement in front asks
abbrev pub asked : Program → State → List Work → Code → Asked
asked p s work (Get spot target rest) = gets_at (at_work s (Rest rest ∷ work)) (aimed (store_of p.shapes s) target)
asked p s work (Put spot target e rest) =
    puts_at (at_work s (Rest rest ∷ work)) (aimed (store_of p.shapes s) target) (evaluated (store_of p.shapes s) e)
asked p s work code = Does (acts p s work code)

-- what the step of what comes next asks
abbrev pub asked_next : Program → State → List Work → Asked
asked_next p s [] = Does (returns p.shapes s s.callers 0)
asked_next p s (Rest code ∷ work) = asked p s work code
asked_next p s (Ahead code ∷ work) = Does (Halts [] standing.Stuck)

-- what a turn to a state asks
abbrev pub turn_asks : Turn → State → Asked
turn_asks turn.Quiet s = Does (Goes [] s)
turn_asks (turn.Put to n) s = Puts s to n
turn_asks (turn.Get to) s = Gets s to
turn_asks (turn.Ends n) s = Does (Halts [] (standing.Ended n))
turn_asks (turn.Halted why) s = Does (halts [] why)

-- the move of a run that is in the state after a turn
abbrev pub move_of : Turn → State → Move Event State
move_of turn.Quiet s = Goes [] s
move_of (turn.Put to n) s = puts s to n
move_of (turn.Get to) s = gets s to s.input
move_of (turn.Ends n) s = Halts [] (standing.Ended n)
move_of (turn.Halted why) s = halts [] why

-- a state that is reached unless it halts before
abbrev pub reached : Result (Unit {0}) Halt → State → Result State Halt
reached (Ok done) s = Ok s
reached (Err why) s = Err why

abbrev pub drawn_as : Result ℕ Halt → State → Result Drawn Halt
drawn_as (Ok n) s = Ok (record { number = n; state = s })
drawn_as (Err why) s = Err why

-- what one assignment is going to write, and the state then
abbrev pub planned_one : List Shape → State → Target × Right → Result (Write × State) Halt
planned_one shapes s a =
    given (aimed (store_of shapes s) a.0) (λ to. given (drawn shapes s a.1) (λ d. given (allowed to d.number) (λ to. Ok ((to, d.number), d.state))))

abbrev pub planned_one_as : Result Write Halt → State → Result (Write × State) Halt
planned_one_as (Ok w) s = Ok (w, s)
planned_one_as (Err why) s = Err why

-- writes that are planned after others
abbrev pub planned_behind : List Write → Planned → Planned
planned_behind writes p = record { writes = writes ++ p.writes; state = p.state }

abbrev pub planned_as : Result (Unit {0}) Halt → List Write → State → Result Planned Halt
planned_as (Ok done) writes s = Ok (record { writes = writes; state = s })
planned_as (Err why) writes s = Err why

-- where unchecked code ran first, after one more step at the place
abbrev pub noted : Option Pos → Spot → Option Pos
noted (Some at) spot = Some at
noted None spot = by_mode spot None spot.mode

-- the place and the mode of a step that has this in front
abbrev pub spot_with : Spot → Option Work → Spot
spot_with end (Some (Rest code)) = spot_in end code
spot_with end _ = end

abbrev pub values_as : Result (Vec ℕ Global) Halt → Result (List ℕ) Halt
values_as (Ok v) = Ok v.items
values_as (Err why) = Err why

-- ---- a step

-- the answer of a halt, at a step with its marks
abbrev pub seen_of : Halt → Pos → Option Pos → Seen
seen_of (halt.Stopped check at) place blame = seen.Stopped check at
seen_of halt.Stuck place blame = seen.Stuck place blame

-- a value was written, or the run halted
abbrev pub Wrote : Result State Halt → State → Pos → Option Pos → Option Seen → Type 0
Wrote x u at blame None = x ≡ Ok u
Wrote x u at blame (Some answer) = (why : Halt) × (x ≡ Err why) × (answer ≡ seen_of why at blame)

-- a byte was put, and then a value written; or the byte was not put
abbrev pub PutsAs : State → Place → ℕ → State → Pos → Option Pos → Streams → Streams → Option Seen → Type 0
PutsAs s to n u at blame old new answer =
    (Wrote (writes_allowed to (n % 256) s) u at blame answer × Showed old new (standing.Put (n % 256) ∷ []))
    ⊎ ((answer ≡ Some seen.WriteFault) × PutInVain old new [] (n % 256))

-- a byte was got, or there was none, and then a value written; or the byte was not got
abbrev pub GetsAs : State → Place → State → Pos → Option Pos → List ℕ → List ℕ → Option Seen → Type 0
GetsAs s to u at blame left left' answer =
    ((byte : ℕ) × (left ≡ byte ∷ left') × Wrote (writes_allowed to byte s) u at blame answer)
    ⊎ ((left ≡ []) × (left' ≡ []) × Wrote (writes_allowed to (2 ^ 32 - 1) s) u at blame answer)
    ⊎ ((answer ≡ Some seen.ReadFault) × (left' ≡ left))

-- The step leads to a state, and its events were put and taken.
pub record GoesTo (p : Program) (s u : State) (old new : Streams) : Type 0 where
  pub events : List Event
  pub moves : source_step p s ≡ Goes events u
  pub showed : Showed old new events
  pub took : s.input ≡ taken events ++ u.input

-- The step halts, and its events were put and taken.
pub record HaltsWith (p : Program) (s : State) (left : List ℕ) (old new : Streams) (stands : Standing) : Type 0 where
  pub events : List Event
  pub moves : source_step p s ≡ Halts events stands
  pub showed : Showed old new events
  pub took : s.input ≡ taken events ++ left

-- What a step is, by its answer.
abbrev pub Steps : Program → State → State → Option Pos → Option Pos → Streams → Streams → Option Seen → Type 0
Steps p s u blame blame' old new None = GoesTo p s u old new × (blame' ≡ noted blame (spot_of s))
Steps p s u blame blame' old new (Some (seen.Ended value)) = HaltsWith p s u.input old new (standing.Ended value)
Steps p s u blame blame' old new (Some (seen.Stopped check at)) = HaltsWith p s u.input old new (standing.Stopped check at)
Steps p s u blame blame' old new (Some seen.Going) = ⊥
Steps p s u blame blame' old new (Some (seen.Stuck at since)) =
    HaltsWith p s u.input old new standing.Stuck × (at ≡ (spot_of s).at) × (since ≡ noted blame (spot_of s))
Steps p s u blame blame' old new (Some seen.ReadFault) = AsksToGet p s × AskedInVain old new [] × (u.input ≡ s.input)
Steps p s u blame blame' old new (Some seen.WriteFault) = (byte : ℕ) × AsksToPut p s byte × PutInVain old new [] byte × (u.input ≡ s.input)
Steps p s u blame blame' old new (Some seen.Memory) = Showed old new [] × (u.input ≡ s.input)

-- counts of faults after a step with an answer, if it has one
abbrev pub reads_after : Option Seen → ℕ → ℕ
reads_after None n = n
reads_after (Some answer) n = read_faults answer n

abbrev pub writes_after : Option Seen → ℕ → ℕ
writes_after None n = n
writes_after (Some answer) n = write_faults answer n

-- the output of a step that asks the input nothing, with a count of how often it was asked
abbrev pub with_asks : ℕ → SeenSink → Streams
with_asks asks output = record { written = output.written; asks = asks; puts = output.puts }

-- ---- what a source gave

-- what may be left after the bytes that a source gave: what may come after them, or what it tells
abbrev pub MayBeLeft : Bool → Option (List ℕ) → List ℕ → List ℕ → Type 0
MayBeLeft ended told more rest = MayCome ended rest ⊎ (told ≡ Some (more ++ rest))

-- The source gave some bytes, and whatever may be left after them, something holds of what was left before and then.
abbrev pub Fed : SeenSource → SeenSource → (List ℕ → List ℕ → Type 0) → Type 0
Fed old new Holds =
    (more : List ℕ) × Gave old new more × Took old.left new.left more
    × ((rest : List ℕ) → MayBeLeft new.ended old.left more rest → Holds (more ++ rest) rest)

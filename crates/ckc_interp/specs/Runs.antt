-- What a run of the meaning does, by its answer.
use Rattle.std.specs.Prelude.{◌≡◌, ℕ, ◌≤◌, ◌<◌, List, [], ◌∷◌, ◌++◌, Option}
use Rattle.ckc_base.specs.States.{state_at}
use Rattle.ckc_base.specs.Steps.{Move, Goes, Halts}
use Rattle.ckc_base.specs.Traces.{Event, Got, Put, Standing}
use Rattle.ckc_base.specs.Traces as standing
use Rattle.ckc_source.specs.Code.{Program}
use Rattle.ckc_source.specs.States.{State}
use Rattle.ckc_source.specs.Steps.{source_step}
use Rattle.ckc_source.specs.Source.{source, source_system, first_state, place_after, unchecked_since}
use Rattle.ckc_interp.specs.declared.seen.Seen.{Seen}
use Rattle.ckc_interp.specs.declared.seen.Seen.TheVariants as seen
use Rattle.ckc_outside.specs.Outside.{one_more}
use Rattle.ckc_outside.specs.Given.{taken, Streams, Showed, AskedInVain, PutInVain}

-- the events of a move
abbrev pub events_of : Move Event State → List Event
events_of (Goes events s) = events
events_of (Halts events stands) = events

-- The next step from a state asks for a byte: it gets one, or is told that there is none.
abbrev pub AsksToGet : Program → State → Type 0
AsksToGet p s = (answer : Option ℕ) × (events_of (source_step p s) ≡ Got answer ∷ [])

-- the next step from a state puts this byte
abbrev pub AsksToPut : Program → State → ℕ → Type 0
AsksToPut p s byte = events_of (source_step p s) ≡ Put byte ∷ []

-- the state of a program after n steps
abbrev pub state_of_source : Program → List ℕ → ℕ → State
state_of_source p given n = state_at (source_system p) (first_state p given) n

-- the program goes on at n
abbrev pub GoesAt : Program → List ℕ → ℕ → Type 0
GoesAt p given n = (source p given n).standing ≡ standing.Going

-- The bytes that the first n steps take were taken, and what is left is left.
abbrev pub TookAll : Program → List ℕ → ℕ → List ℕ → Type 0
TookAll p given n left = given ≡ taken (source p given n).trace ++ left

-- The run came to n, the first at which the program does not go on, where it then stands so, or to the limit: the
-- bytes of the first n steps were put and taken, in one call each.
pub record Comes (p : Program) (given left : List ℕ) (limit n : ℕ) (old new : Streams) (stands : Standing) : Type 0 where
  pub within : n ≤ limit
  pub before : (m : ℕ) → m < n → GoesAt p given m
  pub stands_so : (source p given n).standing ≡ stands
  pub showed : Showed old new (source p given n).trace
  pub took : TookAll p given n left

-- At n below the limit, where the program goes on, its next step asks for a byte, which failed, and it asked no more.
pub record FailsToGet (p : Program) (given left : List ℕ) (limit n : ℕ) (old new : Streams) : Type 0 where
  pub below : n < limit
  pub goes : GoesAt p given n
  pub asks : AsksToGet p (state_of_source p given n)
  pub showed : AskedInVain old new (source p given n).trace
  pub took : TookAll p given n left

-- At n below the limit, where the program goes on, its next step puts a byte, which failed and perhaps put it, and it put
-- no more.
pub record FailsToPut (p : Program) (given left : List ℕ) (limit n : ℕ) (old new : Streams) : Type 0 where
  pub below : n < limit
  pub goes : GoesAt p given n
  pub byte : ℕ
  pub asks : AsksToPut p (state_of_source p given n) byte
  pub showed : PutInVain old new (source p given n).trace byte
  pub took : TookAll p given n left

-- At n up to the limit, where the program goes on, memory ran out.
pub record RunsOut (p : Program) (given left : List ℕ) (limit n : ℕ) (old new : Streams) : Type 0 where
  pub within : n ≤ limit
  pub goes : GoesAt p given n
  pub showed : Showed old new (source p given n).trace
  pub took : TookAll p given n left

-- What a run to a limit does, by its answer: how the program stands at the least number of steps up to the limit at
-- which it does not go on, or Going at the limit; or what failed before.
abbrev pub Interprets : Program → ℕ → Streams → Streams → Seen → List ℕ → List ℕ → Type 0
Interprets p limit old new (seen.Ended value) given left = (n : ℕ) × Comes p given left limit n old new (standing.Ended value)
Interprets p limit old new (seen.Stopped check at) given left = (n : ℕ) × Comes p given left limit n old new (standing.Stopped check at)
Interprets p limit old new seen.Going given left = Comes p given left limit limit old new standing.Going
Interprets p limit old new (seen.Stuck at blame) given left =
    (n : ℕ) × Comes p given left limit n old new standing.Stuck × (at ≡ place_after p given n) × (blame ≡ unchecked_since p given n)
Interprets p limit old new seen.ReadFault given left = (n : ℕ) × FailsToGet p given left limit n old new
Interprets p limit old new seen.WriteFault given left = (n : ℕ) × FailsToPut p given left limit n old new
Interprets p limit old new seen.Memory given left = (n : ℕ) × RunsOut p given left limit n old new

-- a count of the faults of the input after a run with this answer
abbrev pub read_faults : Seen → ℕ → ℕ
read_faults seen.ReadFault n = one_more n
read_faults answer n = n

-- the same of the output
abbrev pub write_faults : Seen → ℕ → ℕ
write_faults seen.WriteFault n = one_more n
write_faults answer n = n

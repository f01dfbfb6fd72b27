use Rattle.std.specs.Prelude.{ℕ, List, [], ◌∷◌}
use Rattle.ckc_base.specs.declared.arithmetic.Width.{Width}
use Rattle.ckc_base.specs.Traces.{Event}

-- What compiled code does, in detail: an event of input or output; a store at an address of the data region, with
-- the number that its bytes hold then; a call is entered; a call returns to its caller. The entry of `main` and its
-- return are no events.
pub data LongEvent : Type 0 where
  Plain : (event : Event) → LongEvent
  Stored : (at : ℕ) (width : Width) (value : ℕ) → LongEvent
  Entered : LongEvent
  Returned : LongEvent

-- an event as it is seen from outside: input and output alone
abbrev pub plain_events : LongEvent → List Event
plain_events (Plain event) = event ∷ []
plain_events (Stored at width value) = []
plain_events Entered = []
plain_events Returned = []

-- an event without the calls and returns: input, output and stores alone
abbrev pub data_events : LongEvent → List LongEvent
data_events (Plain event) = Plain event ∷ []
data_events (Stored at width value) = Stored at width value ∷ []
data_events Entered = []
data_events Returned = []

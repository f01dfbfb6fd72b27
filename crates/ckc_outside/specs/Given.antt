-- What a source gave and a sink was given in a run.
pub use Rattle.ckc_base.specs.Lists.{AreBytes}
use Rattle.std.specs.Prelude.{◌≡◌, ℕ, ◌≤◌, List, [], ◌∷◌, ◌++◌, length, take, Bool, IsTrue, Option, Some, None}
use Rattle.std.specs.List.{flat_map}
use Rattle.ckc_base.specs.Traces.{Event, Got, Put, output}
use Rattle.ckc_outside.specs.Outside.{SeenSource, SeenSink, one_more}

-- ---- what was taken

-- the byte that an event takes from the input
abbrev pub got_byte : Event → List ℕ
got_byte (Got (Some byte)) = byte ∷ []
got_byte (Got None) = []
got_byte (Put byte) = []

-- the bytes that a trace takes, in order
abbrev pub taken : List Event → List ℕ
taken trace = flat_map got_byte trace

-- the answers that a trace got from the input, in order: a byte, or that there is none
abbrev pub got_answer : Event → List (Option ℕ)
got_answer (Got answer) = answer ∷ []
got_answer (Put byte) = []

abbrev pub answers_in : List Event → List (Option ℕ)
answers_in trace = flat_map got_answer trace

-- if what is left is told, these bytes were taken from it
abbrev pub Took : Option (List ℕ) → Option (List ℕ) → List ℕ → Type 0
Took old new bytes =
    (before : List ℕ) → old ≡ Some before
    → (after : List ℕ) × (new ≡ Some after) × (before ≡ bytes ++ after)

-- if what is left is told, something holds of what was left before and of what is left then
abbrev pub WhereTold : Option (List ℕ) → Option (List ℕ) → (List ℕ → List ℕ → Type 0) → Type 0
WhereTold told told' Holds =
    (before : List ℕ) → told ≡ Some before
    → (after : List ℕ) × (told' ≡ Some after) × Holds before after

-- ---- calls

-- a count after one more for each of some things
unfoldable pub after_each : {A : Type 0} → ℕ → List A → ℕ
after_each n [] = n
after_each n (a ∷ more) = after_each (one_more n) more

-- A source was asked and a sink called once for each event of a trace.
pub record Called (trace : List Event) (asks asks' puts puts' : ℕ) : Type 0 where
  pub asked : asks' ≡ after_each asks (answers_in trace)
  pub put : puts' ≡ after_each puts (output trace)

-- ---- what a source gave, whether it tells what is left or not

-- What a source gave: as many numbers as it counted, each a byte, and none if it had ended. If it had ended it
-- stays so.
pub record Gave (old new : SeenSource) (more : List ℕ) : Type 0 where
  pub count : new.answers ≡ after_each old.answers more
  pub bytes : AreBytes more
  pub none : IsTrue old.ended → more ≡ []
  pub stays : IsTrue old.ended → IsTrue new.ended

-- what may come after the bytes that a source gave: anything, and nothing if it has ended
abbrev pub MayCome : Bool → List ℕ → Type 0
MayCome ended rest = IsTrue ended → rest ≡ []

-- The source gave some bytes, and whatever may come after them, something holds of what was left before, which is the
-- bytes and what may come, and of what is left then.
abbrev pub OverAny : SeenSource → SeenSource → (List ℕ → List ℕ → Type 0) → Type 0
OverAny old new Holds =
    (more : List ℕ) × Gave old new more
    × ((rest : List ℕ) → MayCome new.ended rest → Holds (more ++ rest) rest)

-- ---- what was put

-- if what was written is told, these bytes came after it
abbrev pub Printed : Option (List ℕ) → Option (List ℕ) → List ℕ → Type 0
Printed old new bytes = (before : List ℕ) → old ≡ Some before → new ≡ Some (before ++ bytes)

-- if what was written is told, a front of these bytes came after it, of at least so many
abbrev pub PrintedFront : Option (List ℕ) → Option (List ℕ) → ℕ → List ℕ → Type 0
PrintedFront old new least bytes =
    (before : List ℕ) → old ≡ Some before
    → (n : ℕ) × (least ≤ n) × (new ≡ Some (before ++ take n bytes))

-- ---- both

-- what is seen of the output of a run, and how often its input and its output were called
pub record Streams : Type 0 where
  pub written : Option (List ℕ)
  pub asks : ℕ
  pub puts : ℕ

abbrev pub streams : SeenSource → SeenSink → Streams
streams input output = record { written = output.written; asks = input.asks; puts = output.puts }

-- What a trace puts was put, one call for each event of it.
pub record Showed (old new : Streams) (trace : List Event) : Type 0 where
  pub put : Printed old.written new.written (output trace)
  pub called : Called trace old.asks new.asks old.puts new.puts

-- A trace was shown, and then one call more got nothing.
pub record AskedInVain (old new : Streams) (trace : List Event) : Type 0 where
  pub put : Printed old.written new.written (output trace)
  pub called : Called trace (one_more old.asks) new.asks old.puts new.puts

-- A trace was shown, and then one call more, for a byte, put it or not.
pub record PutInVain (old new : Streams) (trace : List Event) (byte : ℕ) : Type 0 where
  pub put : PrintedFront old.written new.written (length (output trace)) (output trace ++ byte ∷ [])
  pub called : Called trace old.asks new.asks (one_more old.puts) new.puts

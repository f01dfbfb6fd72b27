-- What a run shows: events of input and output, and how it stands.
use Rattle.std.specs.Prelude.{ℕ, List, [], ◌∷◌, Option}
use Rattle.std.specs.List.{flat_map}
use Rattle.ckc_base.specs.declared.places.Pos.{Pos}
use Rattle.ckc_base.specs.declared.runtime_checks.Check.{Check}

-- An event of input or output: a byte was read, or the end of the input, which programs see as -1; a byte was
-- put.
pub data Event : Type 0 where
  Got : (byte : Option ℕ) → Event
  Put : (byte : ℕ) → Event

-- How a run stands: it goes on, has ended with a value, has stopped at a check and its place, has no next step
-- (what happens from there is not said), or is at a fault of the machine with the number of its kind and the
-- pc.
pub data Standing : Type 0 where
  Going : Standing
  Ended : (value : ℕ) → Standing
  Stopped : (check : Check) (at : Pos) → Standing
  Stuck : Standing
  Fault : (kind pc : ℕ) → Standing

-- What a run shows after some number of steps: the events so far, of any kind E, and how it stands.
pub record Showing (E : Type 0) : Type 0 where
  pub trace : List E
  pub standing : Standing

-- the byte that an event puts
abbrev pub put_byte : Event → List ℕ
put_byte (Got byte) = []
put_byte (Put byte) = byte ∷ []

-- the bytes that a trace puts, in order
abbrev pub output : List Event → List ℕ
output trace = flat_map put_byte trace

-- the showing with each event seen as the events that f gives for it, perhaps none
abbrev pub narrowed : {E F : Type 0} → (E → List F) → Showing E → Showing F
narrowed f a = record { trace = flat_map f a.trace; standing = a.standing }

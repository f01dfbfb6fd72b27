-- What running and listing an image shows.
use Rattle.std.specs.Prelude.{◌≡◌, ℕ, List, ◌++◌, take, Option, Some}
use Rattle.ckc_base.specs.Traces.{output}
use Rattle.ckc_outside.specs.Outside.{Rose}
use Rattle.ckc_rv.specs.Machine.{Parts, machine}
use Rattle.ckc_machine.specs.declared.observed.Observed.{Observed}
use Rattle.ckc_machine.specs.declared.observed.Observed.TheVariants as observed
use Rattle.ckc_outside.specs.Given.{taken, Called, Printed, Took, OverAny}
use Rattle.ckc_machine.specs.Runs.{Says, AsksNothing, FailsToGet, FailsToPut}
use Rattle.ckc_cli_commands.specs.declared.status.Status.{Status}
use Rattle.ckc_cli_commands.specs.declared.status.Status.TheVariants as status
use Rattle.ckc_cli_commands.specs.World.{World, fed}

-- What a run of the parts within a limit shows, over an input that is told: how the machine stands, the bytes that
-- were put and those that were taken, in one call each. A fault of an object ends the run at the environment call that
-- asked for it.
pub record Shown (parts : Parts) (given : List ℕ) (limit : ℕ) (before after : World) (o : Observed) : Type 0 where
  pub stands : Says o (machine parts given limit).standing
  pub put : Printed before.output.written after.output.written (output (machine parts given limit).trace)
  pub took : Took before.input.left after.input.left (taken (machine parts given limit).trace)
  pub called : Called (machine parts given limit).trace before.input.asks after.input.asks
      before.output.puts after.output.puts

-- the same, or what a run shows that a fault of the input or of the output ends
abbrev pub ShownOver : Parts → List ℕ → ℕ → World → World → Observed → Type 0
ShownOver parts given limit before after observed.ReadFault =
    FailsToGet parts given 0 limit after.input.left before.output.written after.output.written
    before.input.asks after.input.asks before.output.puts after.output.puts
ShownOver parts given limit before after observed.WriteFault =
    FailsToPut parts given 0 limit after.input.left before.output.written after.output.written
    before.input.asks after.input.asks before.output.puts after.output.puts
ShownOver parts given limit before after o = Shown parts given limit before after o

-- What is shown over what the source tells to be left, and over any source, whatever may come after the bytes that it
-- gave; nothing is taken from a source if no instruction asks for a byte.
pub record Ran (parts : Parts) (limit : ℕ) (before after : World) (untaken : Type 0) (o : Observed) : Type 0 where
  pub shown : (given : List ℕ) → before.input.left ≡ Some given → ShownOver parts given limit before after o
  pub any : OverAny before.input after.input (λ given left. ShownOver parts given limit (fed given before) (fed left after) o)
  pub silent : (given : List ℕ) → AsksNothing parts given 0 limit → untaken × ShownOver parts given limit (fed given before) (fed given after) o

-- the status of what a run shows
abbrev pub status_of : Observed → Status
status_of (observed.Ended value) = status.Ended value
status_of (observed.Stopped check at) = status.Stopped check at
status_of observed.Going = status.Going
status_of (observed.Fault kind pc) = status.MachineFault kind pc
status_of observed.ReadFault = status.ReadFault
status_of observed.WriteFault = status.WriteFault

-- if what was written is told, a front of these bytes came after it
abbrev pub ListedFront : Option (List ℕ) → Option (List ℕ) → List ℕ → Type 0
ListedFront old new bytes = (before : List ℕ) → old ≡ Some before → (k : ℕ) × (new ≡ Some (before ++ take k bytes))

-- What comes of putting a text, as a listing.
pub data Listed (text : List ℕ) (old new : Option (List ℕ)) (faults faults' : ℕ) (s : Status) : Type 0 where
  whole : s ≡ status.Done → Printed old new text → Listed text old new faults faults' s
  front : s ≡ status.WriteFault → Rose faults faults' → ListedFront old new text → Listed text old new faults faults' s

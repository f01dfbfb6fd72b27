-- What running the meaning of a text shows.
use Rattle.std.specs.Prelude.{◌≡◌, ℕ, Option, None, Some}
use Rattle.ckc_source.specs.Code.{Program}
use Rattle.ckc_interp.specs.declared.seen.Seen as seens
use Rattle.ckc_interp.specs.declared.seen.Seen.TheVariants as seen
use Rattle.ckc_outside.specs.Given.{OverAny, WhereTold, Streams, streams}
use Rattle.ckc_interp.specs.Runs.{Interprets}
use Rattle.ckc_cli_commands.specs.declared.status.Status.{Status}
use Rattle.ckc_cli_commands.specs.declared.status.Status.TheVariants as status
use Rattle.ckc_cli_commands.specs.World.{World}

-- what is seen of the output of a world, and how often its input and its output were called
abbrev pub streams_of : World → Streams
streams_of w = streams w.input w.output

-- A run of the meaning of a program within a limit of steps shows this: over what the input tells to be left, and over
-- any input, whatever may come after the bytes that it gave.
pub record Interpreted (p : Program) (limit : ℕ) (before after : World) (o : seens.Seen) : Type 0 where
  pub told : WhereTold before.input.left after.input.left (Interprets p limit (streams_of before) (streams_of after) o)
  pub any : OverAny before.input after.input (Interprets p limit (streams_of before) (streams_of after) o)

-- The status of what a run of a meaning shows. What is stuck though no unchecked code ran has none: no text means that.
abbrev pub meant_status : seens.Seen → Option Status
meant_status (seen.Ended value) = Some (status.Ended value)
meant_status (seen.Stopped check at) = Some (status.Stopped check at)
meant_status seen.Going = Some status.Going
meant_status (seen.Stuck at (Some since)) = Some (status.Stuck at since)
meant_status (seen.Stuck at None) = None
meant_status seen.ReadFault = Some status.ReadFault
meant_status seen.WriteFault = Some status.WriteFault
meant_status seen.Memory = Some status.Memory

-- a run of the program shows the status
abbrev pub ShowsAs : Program → ℕ → World → World → Status → Type 0
ShowsAs p limit before after s = (o : seens.Seen) × (meant_status o ≡ Some s) × Interpreted p limit before after o

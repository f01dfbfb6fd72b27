-- What comes of running an image, and of the bytes of a file that should be one.
use Rattle.std.specs.Prelude.{◌≡◌, ℕ, List}
use Rattle.ckc_rv.specs.Machine.{Parts}
use Rattle.ckc_image.specs.declared.format.Format.{Format}
use Rattle.ckc_image.specs.Image.{FirstBad}
use Rattle.ckc_build.specs.Built.{IsImageIn}
use Rattle.ckc_cli_commands.specs.declared.status.Status.{Status}
use Rattle.ckc_cli_commands.specs.declared.status.Status.TheVariants as status
use Rattle.ckc_cli_commands.specs.World.{World, Untouched}
use Rattle.ckc_cli_commands.specs.Running.{Ran, status_of}
use Rattle.ckc_machine.specs.declared.observed.Observed.{Observed}

-- What comes of bytes that should be an image: something is done with its format and its parts, or the first part that
-- disagrees is told, and nothing is done.
pub data OverImage (bytes : List ℕ) (Does : Format → Parts → Type 0) (idle : Type 0) (s : Status) : Type 0 where
  proper : (format : Format) (parts : Parts) → IsImageIn format bytes parts → Does format parts → OverImage bytes Does idle s
  bad : (k : ℕ) → FirstBad bytes k → s ≡ status.BadImage k → idle → OverImage bytes Does idle s

-- What comes of running an image: what the run shows, or want of memory before it.
pub data Ends (parts : Parts) (limit : ℕ) (before after : World) (same : Untouched) (s : Status) : Type 0 where
  shows : (o : Observed) → s ≡ status_of o → Ran parts limit before after same.input o → Ends parts limit before after same s
  no_memory : s ≡ status.Memory → same.output → same.input → Ends parts limit before after same s

-- What the commands that keep an image do in one step.
use Rattle.std.specs.Prelude.{ℕ, List}
use Rattle.ckc_base.specs.Phases.{Phase}
use Rattle.ckc_asm.specs.Phase.{assembling}
use Rattle.ckc_cli_commands.specs.Commands.{AsImage}

-- From a text of assembly to the image of its parts, or to its first fault.
abbrev pub imaging : Phase (List ℕ) (List ℕ)
imaging = record {
  Makes = AsImage assembling.Makes;
  Refuses = assembling.Refuses;
}

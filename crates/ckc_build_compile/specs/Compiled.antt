-- What is promised of the machine that runs the code of a program.
use Rattle.std.specs.Prelude.{ℕ, List}
use Rattle.ckc_base.specs.Follows.{Follows}
use Rattle.ckc_source.specs.Code.{Program}
use Rattle.ckc_source.specs.LaidOut.{AreBytes}
use Rattle.ckc_source.specs.Source.{source}
use Rattle.ckc_rv.specs.Machine as machine
use Rattle.ckc_rv.specs.Machine.{machine}
use Rattle.ckc_image.specs.declared.parts.Parts.{Parts}

-- the parts of an image, as the machine has them
abbrev pub machine_parts : Parts → machine.Parts
machine_parts parts = record { entry = parts.entry; code = parts.code; initial = parts.initial }

-- how many instructions the machine takes at most for each step of a program, and once more: 2^25
abbrev pub most_for_a_step : ℕ
most_for_a_step = 33554432

-- The machine of the parts follows the program, with every input: what the program shows after n steps the machine comes
-- to show within most_for_a_step * (n + 1) instructions.
abbrev pub FollowsSource : Program → Parts → Type 0
FollowsSource p parts = (input : List ℕ) → AreBytes input →
    Follows (source p input) (machine (machine_parts parts) input) most_for_a_step

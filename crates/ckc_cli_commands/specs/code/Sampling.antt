-- What comes of a sample, part by part of the code.
use Rattle.std.specs.Prelude.{◌≡◌, ◌⊎◌, ℕ, List}
use Rattle.ckc_base.specs.declared.places.Refusal.{Refusal}
use Rattle.ckc_outside.specs.Outside.{SeenSink}
use Rattle.ckc_rv.specs.Machine.{Parts}
use Rattle.ckc_build.specs.Built.{Built}
use Rattle.ckc_build.specs.Meanings.{FirstFault}
use Rattle.ckc_cli_commands.specs.declared.status.Status.{Status}
use Rattle.ckc_cli_commands.specs.declared.status.Status.TheVariants as status
use Rattle.ckc_cli_commands.specs.Sampling.{Sampled}

-- what comes of the run of its image, or want of memory before it
abbrev pub Tried : Parts → ℕ → SeenSink → SeenSink → Type 0 → Status → Type 0
Tried parts size old new untouched s = Sampled parts size old new untouched s ⊎ ((s ≡ status.Memory) × untouched)

-- what comes of its text: it is refused, or an image of it is run
pub data OfSample (text : List ℕ) (size : ℕ) (old new : SeenSink) (untouched : Type 0) (s : Status) : Type 0 where
  refused : (fault : Refusal) → FirstFault text fault → s ≡ status.Refused fault → untouched
      → OfSample text size old new untouched s
  no_memory : s ≡ status.Memory → untouched → OfSample text size old new untouched s
  built : (parts : Parts) → Built text parts → Sampled parts size old new untouched s
      → OfSample text size old new untouched s

-- What `sample` says of the machine of its text, beside the meaning of the text.
use Rattle.std.specs.Prelude.{◌≡◌, ◌≢◌, ◌⊎◌, ℕ, List, []}
use Rattle.ckc_base.specs.declared.places.Refusal.{Refusal}
use Rattle.ckc_base.specs.Follows.{IsBorneOut}
use Rattle.ckc_rv.specs.Machine.{Parts}
use Rattle.ckc_machine.specs.declared.observed.FaultKind.{FaultKind}
use Rattle.ckc_source.specs.Source.{source}
use Rattle.ckc_build.specs.Built.{Built}
use Rattle.ckc_build.specs.Meanings.{FirstFault, IsWhollyChecked}
use Rattle.ckc_cli_sample.specs.Sample.{sample_text}
use Rattle.ckc_cli_commands.specs.declared.status.Status.{Status}
use Rattle.ckc_cli_commands.specs.declared.status.Status.TheVariants as status
use Rattle.ckc_cli_commands.specs.World.{World, Untouched}
use Rattle.ckc_cli_commands.specs.Sampling.{alone, Sampled}
use Rattle.ckc_cli.specs.Agreeing.{ComesToBeStuck}

-- The parts are of an image of the text. What their machine shows with no input is borne out by the meaning of the text:
-- it ends or stops at a check only as the meaning does, with the same bytes put, and is at no fault; else the bytes are a
-- front of those of the meaning. Or the meaning comes to be stuck, which that of a text that is wholly checked never does.
pub record IsMeantAlone (text : List ℕ) (parts : Parts) : Type 0 where
  pub built : Built text parts
  pub meant : ComesToBeStuck text built.program [] ⊎ ((n : ℕ) × IsBorneOut (source built.program [] n) (alone parts))

-- What comes of a text: it is refused for its first error; or the machine of an image of it is run with no input, and lines
-- tell of it if it ends; or memory ran out before anything was put.
pub data SampleComes (text : List ℕ) (size : ℕ) (before after : World) (same : Untouched) (s : Status) : Type 0 where
  refused : (fault : Refusal) → FirstFault text fault → s ≡ status.Refused fault → same.output
      → SampleComes text size before after same s
  ran : (parts : Parts) → IsMeantAlone text parts → Sampled parts size before.output after.output same.output s
      → SampleComes text size before after same s
  no_memory : s ≡ status.Memory → same.output → SampleComes text size before after same s

-- What `sample` with a seed and a size does. It touches neither the input nor the store, and never shows a fault of the
-- machine if its text is wholly checked.
pub record Sampling (seed size : ℕ) (before after : World) (same : Untouched) (s : Status) : Type 0 where
  pub comes : SampleComes (sample_text seed size) size before after same s
  pub input : same.input
  pub store : same.store
  pub faultless : IsWhollyChecked (sample_text seed size) → (kind : FaultKind) (pc : ℕ) → s ≢ status.MachineFault kind pc

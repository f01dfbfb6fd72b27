-- What `interp` shows, beside the meaning of its text.
use Rattle.std.specs.Prelude.{◌≡◌, ◌≢◌, ◌⊎◌, ◌<◌, ℕ, List, Some}
use Rattle.ckc_base.specs.Traces.{Standing, Going, Stuck}
use Rattle.ckc_source.specs.Code.{Program}
use Rattle.ckc_source.specs.Source.{source}
use Rattle.ckc_interp.specs.declared.seen.Seen.{Seen}
use Rattle.ckc_interp.specs.declared.seen.Seen.TheVariants as seen
use Rattle.ckc_build.specs.Meanings.{HasMeaning}
use Rattle.ckc_cli_commands.specs.declared.status.Status.{Status}
use Rattle.ckc_cli_commands.specs.declared.status.Status.TheVariants as status
use Rattle.ckc_cli_commands.specs.World.{World, Untouched}
use Rattle.ckc_cli_commands.specs.Interpreting.{Interpreted, ShowsAs, meant_status}
use Rattle.ckc_cli.specs.Objects.{Tells, OfFile, StoreIsFine}

-- The text has a meaning, and a run of it within the limit shows this.
abbrev pub ShowsMeaning : ℕ → World → World → Seen → List ℕ → Type 0
ShowsMeaning limit before after o text = (p : Program) × HasMeaning text p × Interpreted p limit before after o

-- `interp` with a name and a limit shows nothing but what a run of the meaning of the text within the limit shows, with
-- exactly the bytes that the meaning puts and takes. A text that has a meaning is always run, but for want of memory,
-- which comes before the run, or in it.
pub record Meaning (name : List ℕ) (limit : ℕ) (before after : World) (same : Untouched) (s : Status) : Type 0 where
  pub shown : (o : Seen) → o ≢ seen.Memory → meant_status o ≡ Some s → OfFile before.store.files name (ShowsMeaning limit before after o)
  pub memory : s ≡ status.Memory → (same.output × same.input) ⊎ OfFile before.store.files name (ShowsMeaning limit before after seen.Memory)
  pub always : (text : List ℕ) (p : Program) → Tells before.store.files name text → StoreIsFine before.store after.store → HasMeaning text p
      → ShowsAs p limit before after s ⊎ (s ≡ status.Memory)

-- how a program stands after n steps with an input
abbrev pub standing_after : Program → List ℕ → ℕ → Standing
standing_after p given n = (source p given n).standing

-- The program is stuck after n steps, and after none of fewer.
pub record IsStuckFirst (p : Program) (given : List ℕ) (n : ℕ) : Type 0 where
  pub before : (m : ℕ) → m < n → standing_after p given m ≡ Going
  pub stuck : standing_after p given n ≡ Stuck

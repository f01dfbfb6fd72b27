-- What `check` says of its text.
use Rattle.std.specs.Prelude.{◌≡◌, ◌⊎◌, ℕ, List}
use Rattle.ckc_base.specs.declared.places.Refusal.{Refusal}
use Rattle.ckc_outside.specs.Outside.{SeenSink, Rose, one_more}
use Rattle.ckc_outside.specs.Given.{Printed}
use Rattle.ckc_typed.specs.declared.typed.Typed.{Typed}
use Rattle.ckc_blame.specs.Blamed.{IsNeverStuck}
use Rattle.ckc_blame.specs.Checked.{WhollyChecked}
use Rattle.ckc_build_elaborate.specs.Elaborated.{elaborated}
use Rattle.ckc_build.specs.Meanings.{judging, FirstFault}
use Rattle.ckc_cli_commands.specs.declared.status.Status.{Status}
use Rattle.ckc_cli_commands.specs.declared.status.Status.TheVariants as status
use Rattle.ckc_cli_commands.specs.World.{World}
use Rattle.ckc_cli_commands.specs.Checking.{checked_line}
use Rattle.ckc_cli.specs.Objects.{Tells, OfFile, StoreIsFine}

-- The text keeps all rules, and the line that says whether it is wholly checked was put in one call. The meaning of a
-- text that is so is never stuck.
pub record IsSaid (before after : SeenSink) (text : List ℕ) : Type 0 where
  pub typed : Typed
  pub judged : judging.Makes text typed
  pub put : Printed before.written after.written (checked_line typed)
  pub once : after.puts ≡ one_more before.puts
  pub never_stuck : WhollyChecked typed → IsNeverStuck (elaborated typed)

-- `check` with a name is done only if the text keeps all rules, and has then put the line of the text: `wholly checked`
-- exactly if no statement of it has mode Unchecked, else `has unchecked code`. It refuses a text only for its first
-- error. If no object fails it is always done, or refuses the text, but for want of memory.
pub record Checking (name : List ℕ) (before after : World) (s : Status) : Type 0 where
  pub said : s ≡ status.Done → OfFile before.store.files name (IsSaid before.output after.output)
  pub said_always : (text : List ℕ) (typed : Typed) → Tells before.store.files name text
      → StoreIsFine before.store after.store → ¬ Rose before.output.faults after.output.faults
      → judging.Makes text typed → (s ≡ status.Done) ⊎ (s ≡ status.Memory)
  pub refused : (fault : Refusal) → s ≡ status.Refused fault
      → OfFile before.store.files name (λ text. FirstFault text fault)
  pub refused_always : (text : List ℕ) (fault : Refusal) → Tells before.store.files name text
      → StoreIsFine before.store after.store → FirstFault text fault
      → (s ≡ status.Refused fault) ⊎ (s ≡ status.Memory)

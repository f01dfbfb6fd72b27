-- What the store has under a name, and when no object fails.
use Rattle.std.specs.Prelude.{◌≡◌, ◌⊎◌, List, ℕ, IsTrue, Option, Some}
use Rattle.std.specs.FinMap as fin
use Rattle.ckc_outside.specs.Outside.{Files, Stored, Rose}
use Rattle.ckc_cli_commands.specs.World.{World}
use Rattle.ckc_cli_commands.specs.Causes.{Holds}

-- The store tells its files, and these bytes are under the name.
abbrev pub Tells : Option Files → List ℕ → List ℕ → Type 0
Tells files name bytes = (here : Files) × (files ≡ Some here) × (fin.get here name ≡ Some bytes)

-- Something holds of the bytes under the name, or of bytes of which the store tells nothing.
abbrev pub OfFile : Option Files → List ℕ → (List ℕ → Type 0) → Type 0
OfFile files name Are = (bytes : List ℕ) × Holds files name bytes × Are bytes

-- no fault of the store that matters
abbrev pub StoreIsFine : Stored → Stored → Type 0
StoreIsFine before after = (¬ Rose before.faults after.faults) ⊎ IsTrue before.steady

-- no fault of the store that matters, and none of the input or of the output
pub record AllIsFine (before after : World) : Type 0 where
  pub store : StoreIsFine before.store after.store
  pub input : ¬ Rose before.input.faults after.input.faults
  pub output : ¬ Rose before.output.faults after.output.faults

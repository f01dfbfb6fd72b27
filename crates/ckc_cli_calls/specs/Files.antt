-- What a store has under a name, and what fetching and keeping leave.
use Rattle.std.specs.Prelude.{◌≡◌, ◌≤◌, ◌<◌, ℕ, List, length, IsTrue, Option, None, Some, Result, Ok, Err}
use Rattle.std.specs.FinMap as fin
use Rattle.ckc_outside.specs.declared.traits.Fetched.{Fetched}
use Rattle.ckc_outside.specs.declared.traits.Fetched.TheVariants.{Whole, Longer}
use Rattle.ckc_outside.specs.declared.traits.StoreError.{StoreError}
use Rattle.ckc_outside.specs.declared.traits.StoreError.TheVariants.{Failed, Memory}
use Rattle.ckc_outside.specs.Outside as outside
use Rattle.ckc_outside.specs.Outside.{Files, Stored, one_more, after_keep}

-- The store tells these bytes under the name, or tells nothing.
abbrev pub Holds : Option Files → List ℕ → List ℕ → Type 0
Holds files name bytes = (here : Files) → files ≡ Some here → fin.get here name ≡ Some bytes

-- what keeping the bytes under a name leaves, if the files are told
abbrev pub Kept : Option Files → List ℕ → List ℕ → Result (Unit {0}) StoreError → Option Files → Type 0
Kept files name bytes result files' = (here : Files) → files ≡ Some here → outside.TakesFile here name bytes result files'

-- nothing was kept
pub record Unkept (before after : Stored) : Type 0 where
  pub files : after.files ≡ before.files
  pub keeps : after.keeps ≡ before.keeps
  pub kept : after.kept ≡ before.kept

-- Nothing was kept, and a steady store stays so.
pub record OnlyFetched (before after : Stored) : Type 0 where
  pub unkept : Unkept before after
  pub steady : IsTrue before.steady → IsTrue after.steady

-- the bytes were kept in one call, with this answer
pub record KeptOnce (before after : Stored) (name bytes : List ℕ) (result : Result (Unit {0}) StoreError) : Type 0 where
  pub files : Kept before.files name bytes result after.files
  pub keeps : after.keeps ≡ one_more before.keeps
  pub kept : after.kept ≡ after_keep result before.kept

-- a steady store that tells its files fails only if it lacks the name
abbrev pub IsLacking : Stored → List ℕ → Type 0
IsLacking before name = (here : Files) → IsTrue before.steady → before.files ≡ Some here → fin.get here name ≡ None

-- the bytes under the name, or that there are more than the limit
abbrev pub Gives : List ℕ → ℕ → Stored → Result Fetched StoreError → Type 0
Gives name limit before (Ok (Whole bytes)) = Holds before.files name bytes × (length bytes ≤ limit)
Gives name limit before (Ok Longer) = (bytes : List ℕ) × Holds before.files name bytes × (limit < length bytes)
Gives name limit before (Err Failed) = IsLacking before name
Gives name limit before (Err Memory) = Unit {0}

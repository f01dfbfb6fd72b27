-- When each status of a call comes, and what it leaves.
use Rattle.std.specs.Prelude.{◌≡◌, ◌⊎◌, ℕ, List, [], ◌∷◌, ◌++◌, IsTrue, Option, Ok, Err}
use Rattle.ckc_outside.specs.declared.traits.StoreError.TheVariants as error
use Rattle.ckc_outside.specs.Outside.{Files, Stored, one_more}
use Rattle.ckc_outside.specs.Given.{after_each}
use Rattle.ckc_machine.specs.declared.observed.Observed.{Observed}
pub use Rattle.ckc_cli_calls.specs.Files.{Holds, Kept, Unkept, OnlyFetched, KeptOnce, IsLacking}
pub use Rattle.ckc_cli_calls.specs.Lines.{Reported, MayFail, puts_after}
use Rattle.ckc_cli_commands.specs.declared.status.Status.{Status}
use Rattle.ckc_cli_commands.specs.declared.status.Status.TheVariants as status
use Rattle.ckc_cli_commands.specs.World.{World, Untouched}
use Rattle.ckc_cli_commands.specs.Words.{Command}
use Rattle.ckc_cli_commands.specs.Outcomes.{Outcome, Refuses, IsBad, Keeps, Puts, PutsLine, Executes, Interprets, Samples}
use Rattle.ckc_cli_commands.specs.Commands.{Fetch, fetches_of, Reads, Makes}
use Rattle.ckc_cli_commands.specs.Running.{Ran, Listed, status_of}
use Rattle.ckc_cli_commands.specs.Interpreting.{ShowsAs}
use Rattle.ckc_cli_commands.specs.Sampling.{Sampled}

-- ---- faults

-- a count of the faults of the input after a call with this status
abbrev pub input_faults : Status → ℕ → ℕ
input_faults status.ReadFault n = one_more n
input_faults s n = n

-- the same of the output
abbrev pub output_faults : Status → ℕ → ℕ
output_faults status.WriteFault n = one_more n
output_faults s n = n

-- the same of the store
abbrev pub store_faults : Status → ℕ → ℕ
store_faults status.StoreFault n = one_more n
store_faults s n = n

-- Each object fails at most once, and exactly if the status says so: what fails first ends the call.
pub record FailsOnce (before after : World) (s : Status) : Type 0 where
  pub input : after.input.faults ≡ input_faults s before.input.faults
  pub output : after.output.faults ≡ output_faults s before.output.faults
  pub store : after.store.faults ≡ store_faults s before.store.faults

-- ---- outcomes

-- Nothing was kept, put or taken.
pub record Idle (before after : World) (same : Untouched) : Type 0 where
  pub unkept : Unkept before.store after.store
  pub put : same.output
  pub took : same.input

-- Bytes were kept under a name in one call, or it failed: the store did, which is not steady then, or memory ran out.
pub data Keeping (name bytes : List ℕ) (before after : Stored) (s : Status) : Type 0 where
  kept : s ≡ status.Done → KeptOnce before after name bytes (Ok tt) → Keeping name bytes before after s
  failed : s ≡ status.StoreFault → KeptOnce before after name bytes (Err error.Failed) → ¬ IsTrue before.steady
      → Keeping name bytes before after s
  no_memory : s ≡ status.Memory → KeptOnce before after name bytes (Err error.Memory) → Keeping name bytes before after s

-- What comes of an outcome: the status, and what was kept, put and taken.
abbrev pub Comes : Outcome → World → World → Untouched → Status → Type 0
Comes (Refuses fault) before after same s = (s ≡ status.Refused fault) × Idle before after same
Comes (IsBad part) before after same s = (s ≡ status.BadImage part) × Idle before after same
Comes (Keeps name bytes) before after same s = Keeping name bytes before.store after.store s × same.output × same.input
Comes (Puts text) before after same s =
    Listed text before.output.written after.output.written before.output.faults after.output.faults s × Unkept before.store after.store × same.input
Comes (PutsLine line) before after same s =
    Listed line before.output.written after.output.written before.output.faults after.output.faults s
    × (after.output.puts ≡ one_more before.output.puts) × Unkept before.store after.store × same.input
Comes (Executes parts limit) before after same s =
    ((o : Observed) × (s ≡ status_of o) × Ran parts limit before after same.input o) × Unkept before.store after.store
Comes (Interprets p limit) before after same s = ShowsAs p limit before after s × Unkept before.store after.store
Comes (Samples parts size) before after same s =
    Sampled parts size before.output after.output same.output s × Unkept before.store after.store × same.input

-- ---- commands

-- something holds of each name and of the bytes fetched under it, in their order
abbrev pub Each : (List ℕ → List ℕ → Type 0) → List Fetch → List (List ℕ) → Type 0
Each Are [] [] = Unit {0}
Each Are (f ∷ more) (bytes ∷ rest) = Are f.name bytes × Each Are more rest
Each Are fetches fetched = ⊥

-- The store tells these bytes under the names, or tells nothing.
abbrev pub HoldsEach : Option Files → List Fetch → List (List ℕ) → Type 0
HoldsEach files = Each (Holds files)

-- One name is the first that is not fetched.
abbrev pub LacksFirst : Stored → List Fetch → Type 0
LacksFirst before [] = ⊥
LacksFirst before (f ∷ more) = IsLacking before f.name ⊎ ((bytes : List ℕ) × Holds before.files f.name bytes × LacksFirst before more)

-- Not all was fetched: the store failed, or there was not enough memory.
pub data Unfetched (fetches : List Fetch) (before : Stored) (s : Status) : Type 0 where
  failed : s ≡ status.StoreFault → LacksFirst before fetches → Unfetched fetches before s
  no_memory : s ≡ status.Memory → Unfetched fetches before s

-- the limit of the last of some calls of fetch, or what it was before
abbrev pub last_limit : List Fetch → ℕ → ℕ
last_limit [] limit = limit
last_limit (f ∷ more) limit = last_limit more f.most

-- The store was asked once for each of the files and no more, the last time with the limit of the last of them.
pub record Asked (fetches : List Fetch) (before after : Stored) : Type 0 where
  pub count : after.fetches ≡ after_each before.fetches fetches
  pub limit : after.limit ≡ last_limit fetches before.limit

-- What comes of a command over the bytes that it fetched: what comes of an outcome, or memory ran out before it.
pub data Came (command : Command) (fetched : List (List ℕ)) (before after : World) (same : Untouched) (s : Status) : Type 0 where
  made : (o : Outcome) → Makes command fetched o → Comes o before after same s → Came command fetched before after same s
  no_memory : s ≡ status.Memory → Idle before after same → Came command fetched before after same s

-- What comes of a command. The store is asked for each file that it fetches, or for a front of them.
pub data Obeyed (command : Command) (before after : World) (same : Untouched) (s : Status) : Type 0 where
  not_fetched : (front later : List Fetch) → fetches_of command ≡ front ++ later → Asked front before.store after.store
      → Unfetched (fetches_of command) before.store s → Idle before after same → Obeyed command before after same s
  fetched : (bytes : List (List ℕ)) → Asked (fetches_of command) before.store after.store
      → HoldsEach before.store.files (fetches_of command) bytes → Came command bytes before after same s
      → Obeyed command before after same s

-- what comes of words
pub data Caused (words : List (List ℕ)) (before after : World) (same : Untouched) (s : Status) : Type 0 where
  usage : ((command : Command) → ¬ Reads words command) → s ≡ status.Usage → Idle before after same → same.store → Caused words before after same s
  obeyed : (command : Command) → Reads words command → Obeyed command before after same s → Caused words before after same s

-- What fetching gives.
use Rattle.std.specs.Prelude.{[], ◌∷◌, ℕ, ◌<◌, ◌≤◌, List, length, Result, Ok, Err}
use Rattle.ckc_outside.specs.declared.traits.Fetched.{Fetched}
use Rattle.ckc_outside.specs.declared.traits.Fetched.TheVariants.{Whole, Longer}
use Rattle.ckc_cli_commands.specs.declared.status.Status.{Status}
use Rattle.ckc_outside.specs.Outside.{Stored}
use Rattle.ckc_cli_commands.specs.Causes.{Holds, Unfetched, input_faults, output_faults, store_faults}

-- the bytes under the name, or that there are more than the limit; or why there are none
abbrev pub Fetches : List ℕ → ℕ → Stored → Result Fetched Status → Type 0
Fetches name limit before (Ok (Whole bytes)) = Holds before.files name bytes × (length bytes ≤ limit)
Fetches name limit before (Ok Longer) = (bytes : List ℕ) × Holds before.files name bytes × (limit < length bytes)
Fetches name limit before (Err s) = Unfetched (record { name = name; most = limit } ∷ []) before s

-- counts of faults of the input, of the output and of the store after fetching
abbrev pub reads_after : Result Fetched Status → ℕ → ℕ
reads_after (Ok fetched) n = n
reads_after (Err s) n = input_faults s n

abbrev pub writes_after : Result Fetched Status → ℕ → ℕ
writes_after (Ok fetched) n = n
writes_after (Err s) n = output_faults s n

abbrev pub stores_after : Result Fetched Status → ℕ → ℕ
stores_after (Ok fetched) n = n
stores_after (Err s) n = store_faults s n

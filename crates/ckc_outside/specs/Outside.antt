-- What sources, sinks and stores mean when they tell their contents, and their counts of failures.
use Rattle.std.specs.Prelude.{◌≡◌, ◌≢◌, ℕ, ◌<◌, ◌≤◌, List, ◌++◌, length, take, drop, slice_get, Bool, Option, None, Some, Result, Ok, Err}
use Rattle.std.specs.Ordering.{nat_cmp}
use Rattle.std.specs.Cmp.Lexicographic.{slice_cmp}
use Rattle.std.specs.FinMap as map
pub use Rattle.ckc_base_counts.specs.Counts.{Rose, one_more}
use Rattle.ckc_outside.specs.declared.traits.Failed.{Failed}
use Rattle.ckc_outside.specs.declared.traits.StoreError as errors
use Rattle.ckc_outside.specs.declared.traits.StoreError.TheVariants as error
use Rattle.ckc_outside.specs.declared.traits.Fetched as fetches
use Rattle.ckc_outside.specs.declared.traits.Fetched.TheVariants.{Whole, Longer}

-- a finite map from names to bytes, each a list of bytes
abbrev pub Files : Type 0
Files = map.FinMap (slice_cmp nat_cmp) (List ℕ)

-- What is seen of a source: the bytes that are left, if it tells them; whether it said that there is no byte, and
-- gives none from then on; how often it was asked, how many bytes it gave, and how many faults there were.
pub record SeenSource : Type 0 where
  pub left : Option (List ℕ)
  pub ended : Bool
  pub asks : ℕ
  pub answers : ℕ
  pub faults : ℕ

-- What is seen of a sink: the bytes that were written, if it tells them; how many pieces were put, those that failed
-- too, and how many faults there were.
pub record SeenSink : Type 0 where
  pub written : Option (List ℕ)
  pub puts : ℕ
  pub faults : ℕ

-- What is seen of a store: its files, if it tells them; whether it is steady; how many faults there were, how many
-- calls of fetch, and with which limit the last of them was; how many calls of keep, and how many of these were done.
pub record Stored : Type 0 where
  pub files : Option Files
  pub steady : Bool
  pub faults : ℕ
  pub fetches : ℕ
  pub limit : ℕ
  pub keeps : ℕ
  pub kept : ℕ

-- a count of faults after one more call of a source or a sink: a failure is a fault
abbrev pub faults_after : {A : Type 0} → Result A Failed → ℕ → ℕ
faults_after (Ok answer) n = n
faults_after (Err failed) n = one_more n

-- the same of a store, where want of memory is none
abbrev pub store_faults_after : {A : Type 0} → Result A errors.StoreError → ℕ → ℕ
store_faults_after (Ok answer) n = n
store_faults_after (Err error.Failed) n = one_more n
store_faults_after (Err error.Memory) n = n

-- next gave no byte: it answered that there is none, or failed
abbrev pub GivesNothing : Result (Option ℕ) Failed → Type 0
GivesNothing (Ok None) = Unit {0}
GivesNothing (Ok (Some byte)) = ⊥
GivesNothing (Err failed) = Unit {0}

-- a count of the bytes that were given, after one more call of next
abbrev pub after_next : Result (Option ℕ) Failed → ℕ → ℕ
after_next (Ok None) n = n
after_next (Ok (Some byte)) n = one_more n
after_next (Err failed) n = n

-- What next gives if these bytes are left: the first, which is taken, or None exactly when there is none. After a
-- failure they are still left.
abbrev pub GivesNext : List ℕ → Result (Option ℕ) Failed → Option (List ℕ) → Type 0
GivesNext bytes (Ok given) left = (given ≡ slice_get bytes 0) × (left ≡ Some (drop 1 bytes))
GivesNext bytes (Err failed) left = left ≡ Some bytes

-- What put leaves if these bytes were written: the piece after them, or a prefix of it after a failure.
abbrev pub Puts : List ℕ → List ℕ → Result (Unit {0}) Failed → Option (List ℕ) → Type 0
Puts bytes piece (Ok done) written = written ≡ Some (bytes ++ piece)
Puts bytes piece (Err failed) written = (k : ℕ) × (written ≡ Some (bytes ++ take k piece))

-- What fetch gives for a name: its bytes if they are at most limit many, and Longer if there are more.
abbrev pub GivesFile : Option (List ℕ) → ℕ → Result fetches.Fetched errors.StoreError → Type 0
GivesFile file limit (Ok (Whole bytes)) = (file ≡ Some bytes) × (length bytes ≤ limit)
GivesFile file limit (Ok Longer) = (bytes : List ℕ) × (file ≡ Some bytes) × (limit < length bytes)
GivesFile file limit (Err e) = Unit {0}

-- a file that is fetched whole has at most limit many bytes
abbrev pub IsWithin : ℕ → Result fetches.Fetched errors.StoreError → Type 0
IsWithin limit (Ok (Whole bytes)) = length bytes ≤ limit
IsWithin limit (Ok Longer) = Unit {0}
IsWithin limit (Err e) = Unit {0}

-- What keep leaves: the bytes under the name. After an Err that name may hold anything, and every other name
-- holds what it held.
abbrev pub TakesFile : Files → List ℕ → List ℕ → Result (Unit {0}) errors.StoreError → Option Files
    → Type 0
TakesFile files name bytes (Ok done) after = after ≡ Some (map.insert files name bytes)
TakesFile files name bytes (Err e) after =
    (kept : Files) × (after ≡ Some kept)
    × ((other : List ℕ) → other ≢ name → map.get kept other ≡ map.get files other)

-- a count of the calls of keep that were done, after one more call
abbrev pub after_keep : Result (Unit {0}) errors.StoreError → ℕ → ℕ
after_keep (Ok done) n = one_more n
after_keep (Err e) n = n

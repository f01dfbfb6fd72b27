use Rattle.std.specs.Prelude.{◌≡◌, ◌⊎◌, ℕ, List, Bool, Option, Some, None, ◌==◌, length, take, map, String, Vec, Result, Ok, Err, true, false}
use Rattle.std.specs.BTreeMap.{BTreeMap}
use Rattle.std.specs.FinMap as fin
use Rattle.std.specs.String.{string_bytes}
use Rattle.std.specs.declared.alloc.Global.{Global}
use Rattle.ckc_outside.specs.Memory.{Failing}
use Rattle.ckc_outside.specs.Outside.{Files, Stored}
use Rattle.ckc_outside.specs.declared.traits.StoreError.{StoreError}
use Rattle.ckc_outside.specs.declared.traits.StoreError.TheVariants.{Failed, Memory}
use Rattle.ckc_outside.specs.declared.memory.store.MemStore.{MemStore}

-- a file's name and bytes
abbrev pub named : String Global × Vec ℕ Global → List ℕ × List ℕ
named file = (string_bytes file.0, file.1.items)

-- the files of a map by name
abbrev pub files_in : BTreeMap (String Global) (Vec ℕ Global) → Files
files_in files = fin.from_entries (map named files.entries)

-- the files by name
abbrev pub files_of : MemStore → Files
files_of s = files_in s.files

-- which calls fail, and the counts
abbrev pub plan_of : MemStore → Failing
plan_of s = record { listed = s.plan.fail.now; calls = s.plan.calls; faults = s.plan.faults }

-- in a store that tears, how many bytes of its file a listed keep leaves under the name
abbrev pub cut_of : MemStore → Option ℕ
cut_of s = s.cut

-- no call is listed
abbrev pub is_steady : MemStore → Bool
is_steady s = length s.plan.fail.now == 0

-- what is seen of it
abbrev pub seen_of : MemStore → Stored
seen_of s = record {
  files = Some (files_of s);
  steady = is_steady s;
  faults = (plan_of s).faults;
  fetches = s.fetches;
  limit = s.limit;
  keeps = s.keeps;
  kept = s.kept;
}

-- whether a call answered that the store failed
abbrev pub has_failed : {T : Type 0} → Result T StoreError → Bool
has_failed (Ok x) = false
has_failed (Err Failed) = true
has_failed (Err Memory) = false

-- What a listed keep leaves: the files as they were; or, in a store that tears, the first bytes under the name, unless
-- there is no memory for them.
abbrev pub Torn : Option ℕ → Files → List ℕ → List ℕ → Files → Type 0
Torn None files name bytes after = after ≡ files
Torn (Some cut) files name bytes after =
    (after ≡ fin.insert files name (take cut bytes)) ⊎ (after ≡ files)

-- what a keep that was not done leaves: the files as they were, unless it failed
abbrev pub LeftByKeep : Option ℕ → Files → List ℕ → List ℕ → Result (Unit {0}) StoreError → Files
    → Type 0
LeftByKeep cut files name bytes (Ok done) after = Unit {0}
LeftByKeep cut files name bytes (Err Failed) after = Torn cut files name bytes after
LeftByKeep cut files name bytes (Err Memory) after = after ≡ files

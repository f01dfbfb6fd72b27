-- What putting some lines of a listing leaves.
use Rattle.std.specs.Prelude.{◌≡◌, ℕ, ◌≤◌, List, ◌++◌, length, take, Some, Result, Ok, Err}
use Rattle.ckc_outside.specs.declared.traits.Failed.{Failed}
use Rattle.ckc_outside.specs.Outside.{SeenSink, one_more}
use Rattle.ckc_asm_listing.specs.Listing.{text_of}
use Rattle.ckc_asm_listing.specs.Putting.{many_more}

-- all lines were put
pub record HasPut (lines : List (List ℕ)) (old new : SeenSink) : Type 0 where
  pub faults : new.faults ≡ old.faults
  pub told : (bytes : List ℕ) → old.written ≡ Some bytes → new.written ≡ Some (bytes ++ text_of lines)
  pub pieces : new.puts ≡ many_more (length lines) old.puts

-- one of them failed, once
pub record HasFailed (lines : List (List ℕ)) (old new : SeenSink) : Type 0 where
  pub faults : new.faults ≡ one_more old.faults
  pub told : (bytes : List ℕ) → old.written ≡ Some bytes → (k : ℕ) × (new.written ≡ Some (bytes ++ take k (text_of lines)))
  pub pieces : (k : ℕ) × (k ≤ length lines) × (new.puts ≡ many_more k old.puts)

abbrev pub PutsLines : List (List ℕ) → Result (Unit {0}) Failed → SeenSink → SeenSink → Type 0
PutsLines lines (Ok done) old new = HasPut lines old new
PutsLines lines (Err failed) old new = HasFailed lines old new

-- How long blocks are.
use Rattle.std.proofs.Common.{◌≡◌, ℕ, ◌-◌, List, ◌++◌, length, replicate, arith, length-append}
use Rattle.std.specs.Prelude.{max}
use Rattle.std.proofs.lemmas.List.{length-replicate}

pub filled_length : (bytes : List ℕ) (n : ℕ) → length (bytes ++ replicate (n - length bytes) 0) ≡ max (length bytes) n
filled_length bytes n = simp (length-append, length-replicate) (omega arith)

-- What putting lines on a sink leaves, one piece for each line.
use Rattle.std.specs.Prelude.{◌≡◌, ℕ, zero, suc, ◌≤◌, Result, Ok, Err}
use Rattle.ckc_outside.specs.declared.traits.Failed.{Failed}
use Rattle.ckc_outside.specs.Outside.{one_more}

-- a count of pieces after so many more
unfoldable pub many_more : ℕ → ℕ → ℕ
many_more zero n = n
many_more (suc count) n = one_more (many_more count n)

-- as many pieces as lines, or at most as many if one failed
abbrev pub PutsPieces : ℕ → Result (Unit {0}) Failed → ℕ → ℕ → Type 0
PutsPieces count (Ok done) old new = new ≡ many_more count old
PutsPieces count (Err failed) old new = (k : ℕ) × (k ≤ count) × (new ≡ many_more k old)

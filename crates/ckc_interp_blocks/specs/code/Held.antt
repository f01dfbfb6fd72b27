-- How the code finds a block and an element: it keeps the blocks in the order of their addresses.
use Rattle.std.specs.Prelude.{ℕ, zero, suc, ◌+◌, ◌*◌, ◌<◌, ◌≤◌, nat_lt, ◌&&◌, Bool, List, [], ◌∷◌}
use Rattle.ckc_source.specs.Blocks.{Block}
use Rattle.ckc_source.specs.Runs.{is_at}

-- a range lies in the run of so many bytes after the begin of an element
abbrev pub is_at_element : Block → ℕ → ℕ → ℕ → ℕ → ℕ → ℕ → Bool
is_at_element b offset size n low high i = nat_lt i b.count && is_at b (b.base + (i * b.size + offset)) size n low high

-- the first block begins after an address
abbrev pub BeginsBehind : ℕ → List Block → Type 0
BeginsBehind x [] = Unit {0}
BeginsBehind x (b ∷ blocks) = x < b.base

-- the block with the index begins at an address or before it, and the next one after it
abbrev pub IsLast : ℕ → List Block → ℕ → Type 0
IsLast x [] i = ⊥
IsLast x (b ∷ blocks) zero = (b.base ≤ x) × BeginsBehind x blocks
IsLast x (b ∷ blocks) (suc i) = IsLast x blocks i

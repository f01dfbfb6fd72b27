-- Chains of facts.
use Rattle.std.specs.Prelude.{◌≡◌, ℕ, ◌+◌, ◌≤◌, List, [], ◌∷◌, length, ℤ, pos, ◌+ℤ◌, ◌≤ℤ◌}
use Rattle.std.specs.List.{Contains}
use Rattle.ckc_linear.specs.declared.facts.Fact.{Fact}

-- The walk leads from x to y: it is a list of the facts, the left variable of the first is x, that of each later one
-- is the right variable of the one before it, and the right variable of the last is y. The empty walk leads from x
-- to x.
abbrev pub Leads : List Fact → ℕ → ℕ → List Fact → Type 0
Leads facts x y [] = x ≡ y
Leads facts x y (f ∷ walk) = Contains facts f × (f.x ≡ x) × Leads facts f.y y walk

-- the sum of the numbers
abbrev pub total : List Fact → ℤ
total [] = pos 0
total (f ∷ walk) = f.c +ℤ total walk

-- A walk over the facts leads from x to y, with at most one fact more than there are variables, and its numbers sum to
-- at most c.
pub record Chain (vars : ℕ) (facts : List Fact) (x y : ℕ) (c : ℤ) : Type 0 where
  pub walk : List Fact
  pub leads : Leads facts x y walk
  pub short : length walk ≤ vars + 1
  pub sum : total walk ≤ℤ c

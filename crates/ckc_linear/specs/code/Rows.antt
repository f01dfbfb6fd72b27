-- Rows of sums: how a search for chains goes on.
use Rattle.std.specs.Prelude.{◌≡◌, ◌⊎◌, ℕ, ◌-◌, ◌^◌, ◌<◌, ◌≤◌, List, length, slice_index_or, slice_set, ℤ, pos, ◌+ℤ◌, ◌≤ℤ◌, ◌<ℤ◌, Bool, MatchBool}
use Rattle.std.specs.List.{Contains}
use Rattle.ckc_linear.specs.declared.facts.Fact.{Fact}
use Rattle.ckc_linear.specs.Facts.{IsWithin}
use Rattle.ckc_linear.specs.Chains.{Leads, total}

-- stands for no sum
abbrev pub none : ℤ
none = pos (2 ^ 63 - 1)

abbrev pub sum_at : List ℤ → ℕ → ℤ
sum_at row v = slice_index_or row v (pos 0)

-- The row has, for each variable, the least sum of a walk of at most `most` facts from it to y, or none.
pub record IsRow (facts : List Fact) (y most : ℕ) (row : List ℤ) : Type 0 where
  pub least : (v : ℕ) (walk : List Fact) → v < length row → Leads facts v y walk → length walk ≤ most →
      (sum_at row v <ℤ none) × (sum_at row v ≤ℤ total walk)
  pub reached : (v : ℕ) → v < length row → sum_at row v <ℤ none →
      (walk : List Fact) × Leads facts v y walk × (length walk ≤ most) × (sum_at row v ≡ total walk)

-- none, or a sum to which a number can be added
abbrev pub IsSmall : ℤ → Type 0
IsSmall sum = sum <ℤ none → IsWithin (2 ^ 60) sum

-- What one fact makes of a row: if there is a sum at its right variable and the fact's number with it is less than
-- what stands at the left variable, it stands there.
abbrev pub Lowers : Fact → List ℤ → List ℤ → List ℤ → Bool → Type 0
Lowers f sums old new lowered = MatchBool lowered
    ((sum_at sums f.y <ℤ none) × ((f.c +ℤ sum_at sums f.y) <ℤ sum_at old f.x) × (new ≡ slice_set old f.x (f.c +ℤ sum_at sums f.y)))
    ((sum_at sums f.y <ℤ none → sum_at old f.x ≤ℤ (f.c +ℤ sum_at sums f.y)) × (new ≡ old))

-- What all facts make of a row: no sum is greater, none is greater than a fact's number with the sum at its right
-- variable, and each is as before or is such a sum.
pub record IsRound (facts : List Fact) (old new : List ℤ) : Type 0 where
  pub falls : (v : ℕ) → sum_at new v ≤ℤ sum_at old v
  pub least : (f : Fact) → Contains facts f → sum_at old f.y <ℤ none → sum_at new f.x ≤ℤ (f.c +ℤ sum_at old f.y)
  pub reached : (v : ℕ) → (sum_at new v ≡ sum_at old v)
      ⊎ ((f : Fact) × Contains facts f × (f.x ≡ v) × (sum_at old f.y <ℤ none) × (sum_at new v ≡ f.c +ℤ sum_at old f.y))

-- Facts that do not name a variable, in front of others.
use Rattle.std.specs.Prelude.{◌≡◌, ℕ, ◌<◌, ◌≤◌, true, not, List, take, length, slice_index_or}
use Rattle.std.specs.List.{filter}
use Rattle.ckc_linear.specs.declared.facts.Fact.{Fact}
use Rattle.ckc_linear.specs.Facts.{names}

-- none of the facts names x
abbrev pub AllStay : ℕ → List Fact → Type 0
AllStay x facts = filter (λ f. not (names x f)) facts ≡ facts

-- the first n facts do not name x, and the one after them does
pub record AreOthers (x : ℕ) (facts : List Fact) (n : ℕ) : Type 0 where
  pub within : n ≤ length facts
  pub stay : AllStay x (take n facts)
  pub stop : n < length facts → (f : Fact) × (f ≡ slice_index_or facts n f) × (names x f ≡ true)

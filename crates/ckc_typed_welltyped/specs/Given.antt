-- What it is that a function gives exactly the well typed trees.
use Rattle.std.specs.Prelude.{◌≡◌, ◌↔◌, Ok}
use Rattle.ckc_base.specs.Outcomes.{Outcome}

-- It gives y for x exactly when x is y without its notes and y keeps a rule.
abbrev pub GivesExactly : {X Y : Type 0} → (X → Outcome Y) → (Y → X) → (Y → Type 0) → Type 0
GivesExactly {X} {Y} f bare Rule = (x : X) (y : Y) → (f x ≡ Ok y) ↔ ((bare y ≡ x) × Rule y)

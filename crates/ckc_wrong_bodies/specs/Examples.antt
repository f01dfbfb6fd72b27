-- Facts that a single one does not settle.
use Rattle.std.specs.Prelude.{List, [], ◌∷◌, pos}
use Rattle.ckc_linear.specs.declared.facts.Fact.{Fact}

-- x - y <= 1 and y - z <= 1, where x, y and z are the variables 0, 1 and 2
abbrev pub two_facts : List Fact
two_facts = record { x = 0; y = 1; c = pos 1 } ∷ record { x = 1; y = 2; c = pos 1 } ∷ []

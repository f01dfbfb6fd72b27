-- Which functions of a text have a body.
use Rattle.std.specs.Prelude.{◌≡◌, ◌⊎◌, Bool, false, true, List, [], ◌∷◌}
use Rattle.ckc_syntax.specs.declared.tree.Name.{Name}
use Rattle.ckc_syntax.specs.declared.tree.Item.{Item}
use Rattle.ckc_syntax.specs.declared.tree.Item.TheVariants as item
use Rattle.ckc_typed.specs.Environment.{same_name}

-- a function with a body and this name
abbrev pub defines : {A : Type 0} → Name → Item Name A → Bool
defines n (item.Function h body) = same_name h.name n
defines n _ = false

-- some function with a body has the name
abbrev pub IsDefined : {A : Type 0} → Name → List (Item Name A) → Type 0
IsDefined n [] = ⊥
IsDefined n (i ∷ rest) = (defines n i ≡ true) ⊎ IsDefined n rest

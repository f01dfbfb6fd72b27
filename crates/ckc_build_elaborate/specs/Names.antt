-- The functions of a text, each named by its number among those with a body, in the order of the text.
use Rattle.std.specs.Prelude.{ℕ, ◌+◌, List, [], ◌∷◌, if◌then◌else◌}
use Rattle.ckc_syntax.specs.declared.tree.Name.{Name}
use Rattle.ckc_syntax.specs.declared.tree.Item.TheVariants as item
use Rattle.ckc_typed.specs.Trees.{NotedItem, NotedDecl}
use Rattle.ckc_typed.specs.Environment.{same_name}

-- the number of a function: how many with a body stand before it
abbrev pub number_of : Name → List NotedItem → ℕ
number_of n [] = 0
number_of n (item.Function h body ∷ rest) = if same_name h.name n then 0 else number_of n rest + 1
number_of n (i ∷ rest) = number_of n rest

-- the parameters of a function
abbrev pub params_of : Name → List NotedItem → List NotedDecl
params_of n [] = []
params_of n (item.Function h body ∷ rest) = if same_name h.name n then h.params else params_of n rest
params_of n (i ∷ rest) = params_of n rest

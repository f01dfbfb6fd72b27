-- How the objects, functions and tags of a tree whose names are resolved are numbered.
use Rattle.std.specs.Prelude.{◌≡◌, ◌⊎◌, ℕ, ◌+◌, ◌<◌, List, [], ◌∷◌}
use Rattle.std.specs.List.{flat_map}
use Rattle.std.specs.List.Sorted.{IsPermutation}
use Rattle.ckc_syntax.specs.declared.tree.Name.{Name}
use Rattle.ckc_syntax.specs.declared.tree.Name.TheVariants as name
use Rattle.ckc_syntax.specs.declared.tree.Item.TheVariants as item
use Rattle.ckc_resolve.specs.Trees.{NamedItem}

abbrev pub static_in : Name → List ℕ
static_in (name.Static n) = n ∷ []
static_in n = []

-- the number of the object of file scope that an item declares, if it declares one
abbrev pub static_of : NamedItem → List ℕ
static_of (item.Static d) = static_in d.name
static_of i = []

-- the numbers of all objects of file scope, in the order of the text
abbrev pub static_numbers : List NamedItem → List ℕ
static_numbers items = flat_map static_of items

-- the numbers go on from one on, one by one
abbrev pub CountsFrom : ℕ → List ℕ → Type 0
CountsFrom k [] = Unit {0}
CountsFrom k (n ∷ ns) = (n ≡ k) × CountsFrom (k + 1) ns

-- the numbers from 0 on, each once, in some order
abbrev pub AreNumbered : List ℕ → Type 0
AreNumbered ns = (ms : List ℕ) × CountsFrom 0 ms × IsPermutation ms ns

abbrev pub function_in : Name → List ℕ
function_in (name.Function n) = n ∷ []
function_in n = []

-- the number of the function that an item declares, with a body or without
abbrev pub function_of : NamedItem → List ℕ
function_of (item.Proto h) = function_in h.name
function_of (item.Function h body) = function_in h.name
function_of i = []

abbrev pub function_numbers : List NamedItem → List ℕ
function_numbers items = flat_map function_of items

abbrev pub tag_in : Name → List ℕ
tag_in (name.Tag n) = n ∷ []
tag_in n = []

-- the number of the tag that an item declares, with a body or without
abbrev pub tag_of : NamedItem → List ℕ
tag_of (item.Tag n at) = tag_in n
tag_of (item.Struct n members at) = tag_in n
tag_of i = []

abbrev pub tag_numbers : List NamedItem → List ℕ
tag_numbers items = flat_map tag_of items

-- Each number is one of those before, of which there are so many, or the next one.
abbrev pub CountsUp : ℕ → List ℕ → Type 0
CountsUp k [] = Unit {0}
CountsUp k (n ∷ ns) = ((n < k) × CountsUp k ns) ⊎ ((n ≡ k) × CountsUp (k + 1) ns)

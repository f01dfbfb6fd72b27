-- How the members of a structure are numbered.
use Rattle.std.specs.Prelude.{◌≢◌, ℕ, List, [], ◌∷◌, All}
use Rattle.std.specs.List.{flat_map}
use Rattle.ckc_syntax.specs.declared.tree.Name.{Name}
use Rattle.ckc_syntax.specs.declared.tree.Name.TheVariants as name
use Rattle.ckc_syntax.specs.declared.tree.Item.TheVariants as item
use Rattle.ckc_resolve.specs.Trees.{NamedDecl, NamedItem}

abbrev pub member_in : Name → List ℕ
member_in (name.Member n) = n ∷ []
member_in n = []

abbrev pub decl_member : NamedDecl → List ℕ
decl_member d = member_in d.name

-- the numbers of the members of a structure
abbrev pub item_members : NamedItem → List ℕ
item_members (item.Struct n members at) = flat_map decl_member members
item_members i = []

-- no two are the same
abbrev pub AreDifferent : List ℕ → Type 0
AreDifferent [] = Unit {0}
AreDifferent (n ∷ ns) = All (λ m. m ≢ n) ns × AreDifferent ns

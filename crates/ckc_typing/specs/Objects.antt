-- What holds of the static objects of each typed text.
use Rattle.std.specs.Prelude.{◌≡◌, ◌≤◌, ℕ, suc, ◌+◌, ◌*◌, ◌%◌, List, [], ◌∷◌, length}
use Rattle.std.specs.List.{All, AllPairs, flat_map}
use Rattle.ckc_base.specs.MemoryMap.{first_place, statics_end}
use Rattle.ckc_types.specs.declared.types.Structs.{Structs}
use Rattle.ckc_syntax.specs.declared.tree.Name.TheVariants as name
use Rattle.ckc_syntax.specs.declared.tree.Item.TheVariants as item
use Rattle.ckc_typed.specs.declared.typed.StaticObject.{StaticObject}
use Rattle.ckc_typed.specs.Trees.{NotedItem, NotedDecl}
use Rattle.ckc_typed.specs.Constants.{size_of}

-- the address after the last byte of an object
abbrev pub end_of : Structs → StaticObject → ℕ
end_of structs o = o.at + size_of structs o.element * o.count

-- The first object begins at 0x02000008. Each one begins at a multiple of 8, and at least 8 bytes past the end of every
-- one before it. None ends past 0x02400000.
pub record LieApart (structs : Structs) (os : List StaticObject) : Type 0 where
  pub first : (o : StaticObject) (rest : List StaticObject) → os ≡ o ∷ rest → o.at ≡ first_place
  pub eighths : All (λ o. o.at % 8 ≡ 0) os
  pub apart : AllPairs (λ a b. end_of structs a + 8 ≤ b.at) os
  pub within : All (λ o. end_of structs o ≤ statics_end) os

-- an object has room for the bytes that it begins with
abbrev pub HasRoom : Structs → StaticObject → Type 0
HasRoom structs o = length o.initial ≤ size_of structs o.element * o.count

abbrev pub HaveRoom : Structs → List StaticObject → Type 0
HaveRoom structs os = All (HasRoom structs) os

abbrev pub objects_in : NotedItem → List NotedDecl
objects_in (item.Static d) = d ∷ []
objects_in _ = []

-- the declarations of objects of file scope, in the order of the text
abbrev pub objects_declared : List NotedItem → List NotedDecl
objects_declared items = flat_map objects_in items

-- Each object has the number of its place in the order of the text, from a first number on.
abbrev pub AreNumbered : ℕ → List NotedDecl → Type 0
AreNumbered n [] = Unit {0}
AreNumbered n (d ∷ ds) = (d.name ≡ name.Static n) × AreNumbered (suc n) ds

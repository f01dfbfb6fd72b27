-- The bodies of functions, and `main` (ISO C11, 5.1.2.2.1 and 6.9.1).
use Rattle.std.specs.Prelude.{◌≡◌, ℕ, List, [], All, Any, None}
use Rattle.std.specs.List.{flat_map}
use Rattle.ckc_syntax.specs.declared.tree.Name.TheVariants as name
use Rattle.ckc_syntax.specs.declared.tree.TypeTree.TheVariants as ctype
use Rattle.ckc_syntax.specs.declared.tree.Item.TheVariants as item
use Rattle.ckc_syntax.specs.declared.tree.NamedText.{NamedText}
use Rattle.ckc_resolve.specs.Trees.{NamedHead, NamedItem}
use Rattle.ckc_typed_fit.specs.Numbers.{function_in}
use Rattle.ckc_typed_fit.specs.Members.{AreDifferent}
use Rattle.ckc_syntax.specs.Placeless.{placeless_head}

-- the number of the function that an item gives a body
abbrev pub body_of : NamedItem → List ℕ
body_of (item.Function h body) = function_in h.name
body_of i = []

-- an item is a function with a body and the head, places aside
abbrev pub Defines : NamedHead → NamedItem → Type 0
Defines h (item.Function g body) = placeless_head h ≡ placeless_head g
Defines h i = ⊥

-- if an item is a prototype, some function has its head and a body
abbrev pub IsDefined : List NamedItem → NamedItem → Type 0
IsDefined items (item.Proto h) = Any (Defines h) items
IsDefined items i = Unit {0}

-- Each function has one body, with the head of its prototypes: no two bodies are of one function, and each function that
-- has a prototype has a body.
pub record FunctionsHaveBodies (items : List NamedItem) : Type 0 where
  pub differ : AreDifferent (flat_map body_of items)
  pub defined : All (IsDefined items) items

-- the head `int main(void)` of the function with a number, with or without a mode before it
pub record IsMain (main : ℕ) (h : NamedHead) : Type 0 where
  pub named : h.name ≡ name.Function main
  pub result : h.result ≡ ctype.Int
  pub params : h.params ≡ []
  pub bounds : h.bounds ≡ None

abbrev pub DefinesMain : ℕ → NamedItem → Type 0
DefinesMain main (item.Function h body) = IsMain main h
DefinesMain main i = ⊥

-- The function `main` of a text has a body and this head.
abbrev pub HasMain : NamedText → Type 0
HasMain t = Any (DefinesMain t.main) t.tree.items

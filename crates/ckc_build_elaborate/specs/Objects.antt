-- Static objects and string literals as objects of a program (ISO C11, 6.2.4).
use Rattle.std.specs.Prelude.{ℕ, Bool, true, List, [], ◌∷◌, length, Option, is_none, unwrap_or}
use Rattle.std.specs.List.{flat_map}
use Rattle.ckc_types.specs.declared.types.Structs.{Structs}
use Rattle.ckc_syntax.specs.declared.tree.Item.TheVariants as item
use Rattle.ckc_typed.specs.declared.typed.StaticObject.{StaticObject}
use Rattle.ckc_typed.specs.declared.typed.Typed.{Typed}
use Rattle.ckc_typed.specs.Trees.{NotedItem}
use Rattle.ckc_typed.specs.Constants.{size_of}
use Rattle.ckc_source.specs.declared.program.Object.{Object}
use Rattle.ckc_build_elaborate.specs.Lists.{beside}

-- An object is as it was placed. A string literal has no declaration, and pointers with known limits may point into it.
abbrev pub object_elaborated : Structs → Option Bool → StaticObject → Object
object_elaborated structs is_run o = record {
  at = o.at;
  element = o.element;
  size = size_of structs o.element;
  count = o.count;
  terminated = o.terminated;
  is_run = unwrap_or is_run true;
  initial = o.initial;
}

-- Checked pointers with known limits point into no object that is declared with bounds (Checked C specification 0.9,
-- section 3: these say which checked pointers the object itself holds).
abbrev pub run_in : NotedItem → List Bool
run_in (item.Static d) = is_none d.bounds ∷ []
run_in _ = []

-- the declared objects come first, in the order of the text
abbrev pub objects_elaborated : Typed → List Object
objects_elaborated p = beside (object_elaborated p.layout) (flat_map run_in p.tree.items) p.statics

-- how many objects are declared
abbrev pub count_declared : List NotedItem → ℕ
count_declared items = length (flat_map run_in items)

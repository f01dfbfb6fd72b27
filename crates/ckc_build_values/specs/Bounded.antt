-- Whether a text has static objects that are declared with bounds. It is how a look-up of bounds goes, and no part of what
-- it finds.
use Rattle.std.specs.Prelude.{Bool, false, is_some}
use Rattle.ckc_syntax.specs.declared.tree.Item.TheVariants as item
use Rattle.ckc_typed.specs.Trees.{NotedItem}

abbrev pub is_bounded : NotedItem → Bool
is_bounded (item.Static d) = is_some d.bounds
is_bounded _ = false

-- If the first function of a name that has a body has a head, some function with a body has it.
use Rattle.std.proofs.Common.{◌≡◌, Bool, true, false, ◌||◌, cond, List, [], ◌∷◌, Some, refl}
use Rattle.std.specs.List.{list_any}
use Rattle.std.specs.Str.{bytes_eq}
use Rattle.ckc_syntax.specs.declared.tree.Item.TheVariants as item
use Rattle.ckc_resolve.specs.Same.{same_head}
use Rattle.ckc_resolve.specs.Spellings.{Spelling}
use Rattle.ckc_resolve.specs.Trees.{Item, Head}
use Rattle.ckc_resolve.specs.Items.{first_head, is_same}

-- whether an item is a function with a body and the head, places aside
abbrev pub defines : Head → Item → Bool
defines h (item.Function g body) = same_head h g
defines h i = false

in_front : (a b : Bool) → a ≡ true → (a || b) ≡ true
in_front true b e = refl
in_front false b e = cc

behind : (a b : Bool) → b ≡ true → (a || b) ≡ true
behind true b e = refl
behind false b e = e

pub some_defines : (h : Head) (s : Spelling) (all : List Item) → is_same h (first_head s all) ≡ true → list_any (defines h) all ≡ true
some_defines h s [] e = cc
some_defines h s (item.Function g body ∷ rest) e = by (bytes_eq g.name s) (some_defines h s rest) e
  where
    by : (b : Bool) → (is_same h (first_head s rest) ≡ true → list_any (defines h) rest ≡ true)
        → is_same h (cond b (Some g) (first_head s rest)) ≡ true → (same_head h g || list_any (defines h) rest) ≡ true
    by true later t = in_front (same_head h g) (list_any (defines h) rest) t
    by false later t = behind (same_head h g) (list_any (defines h) rest) (later t)
some_defines h s (item.Directive d ∷ rest) e = some_defines h s rest e
some_defines h s (item.Tag n pos ∷ rest) e = some_defines h s rest e
some_defines h s (item.Struct n members pos ∷ rest) e = some_defines h s rest e
some_defines h s (item.Static d ∷ rest) e = some_defines h s rest e
some_defines h s (item.Proto g ∷ rest) e = some_defines h s rest e

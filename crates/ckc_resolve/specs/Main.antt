-- The function with which a program begins.
use Rattle.std.specs.Prelude.{ℕ, Bool, ◌&&◌, false, true, List, [], Ok, if◌then◌else◌, is_none, codes}
use Rattle.std.specs.List.{list_any}
use Rattle.std.specs.Str.{bytes_eq}
use Rattle.ckc_base.specs.Outcomes.{Outcome, refused}
use Rattle.ckc_base.specs.Places.{start}
use Rattle.ckc_syntax.specs.declared.tree.Item.TheVariants as item
use Rattle.ckc_syntax.specs.declared.tree.TypeTree.{TypeTree-F, out-TypeTree}
use Rattle.ckc_resolve.specs.declared.names.Names.{Names}
use Rattle.ckc_resolve.specs.Codes.{no_main}
use Rattle.ckc_resolve.specs.Spellings.{Spelling, number_of}
use Rattle.ckc_resolve.specs.Trees.{Item, Head, Decl, TypeTree}

-- whether the outermost part of a type is `int`
abbrev pub is_int_form : TypeTree-F Spelling TypeTree → Bool
is_int_form TypeTree-F.Int = true
is_int_form form = false

-- whether a type is `int`
abbrev pub is_int : TypeTree → Bool
is_int t = is_int_form (out-TypeTree Spelling t)

-- whether a function has no parameters
abbrev pub is_empty : List Decl → Bool
is_empty [] = true
is_empty ds = false

-- the spelling `main`
abbrev pub name_of_main : Spelling
name_of_main = codes "main"

-- the head `int main(void)`, with or without a mode before it
abbrev pub is_main_head : Head → Bool
is_main_head h = bytes_eq h.name name_of_main && (is_int h.result && (is_empty h.params && is_none h.bounds))

-- whether an item is the function `main` with its body
abbrev pub is_main : Item → Bool
is_main (item.Function h body) = is_main_head h
is_main i = false

-- the number of the function `main`
abbrev pub main_named : Names → List Item → Outcome ℕ
main_named names all = if list_any is_main all then Ok (number_of names.functions name_of_main) else refused no_main start

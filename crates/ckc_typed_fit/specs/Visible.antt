-- Each name is declared, and its declaration can be seen where it stands.
use Rattle.std.specs.Prelude.{◌≡◌, ℕ, Bool, true, false, ◌||◌, ◌==◌, List, []}
use Rattle.std.specs.List.{list_any, flat_map}
use Rattle.ckc_syntax.specs.declared.tree.Name.{Name}
use Rattle.ckc_syntax.specs.declared.tree.Name.TheVariants as name
use Rattle.ckc_syntax.specs.declared.tree.Item.TheVariants as item
use Rattle.ckc_typed.specs.Environment.{same_name}
use Rattle.ckc_resolve.specs.Trees.{NamedItem}
use Rattle.ckc_typed_fit.specs.Numbers.{static_numbers, function_numbers, tag_in}
use Rattle.ckc_typed_fit.specs.Members.{item_members}
use Rattle.ckc_typed_fit.specs.Tests.{items_pass}

abbrev pub is_one_of : List ℕ → ℕ → Bool
is_one_of ns n = list_any (λ m. n == m) ns

-- an object or a function that some item declares, or a built-in function: these are visible in the whole text
abbrev pub is_of_file : List NamedItem → Name → Bool
is_of_file items (name.Static n) = is_one_of (static_numbers items) n
is_of_file items (name.Function n) = is_one_of (function_numbers items) n
is_of_file items name.Getchar = true
is_of_file items name.Putchar = true
is_of_file items _ = false

-- a name in an expression, if some locals, parameters or members are visible beside the names of file scope
abbrev pub is_visible : List NamedItem → List Name → Name → Bool
is_visible items visible n = list_any (same_name n) visible || is_of_file items n

-- a member that some structure declares
abbrev pub is_declared_member : List NamedItem → Name → Bool
is_declared_member items (name.Member n) = is_one_of (flat_map item_members items) n
is_declared_member items _ = false

-- Types are not looked at here.
abbrev pub NamesAreVisible : List NamedItem → Type 0
NamesAreVisible items = items_pass (record { name = is_visible items; member = is_declared_member items; tag = λ n. true }) items ≡ true

-- the number of the tag that an item gives a body
abbrev pub struct_of : NamedItem → List ℕ
struct_of (item.Struct n members pos) = tag_in n
struct_of i = []

abbrev pub has_body : List NamedItem → Name → Bool
has_body items (name.Tag n) = is_one_of (flat_map struct_of items) n
has_body items _ = false

-- Each tag that a type names has a body.
abbrev pub TagsHaveBodies : List NamedItem → Type 0
TagsHaveBodies items = items_pass (record { name = λ visible n. true; member = λ n. true; tag = has_body items }) items ≡ true

-- The items of a text with their names replaced by what they mean.
use Rattle.std.specs.Prelude.{Bool, ◌||◌, false, List, [], ◌∷◌, Ok, map, if◌then◌else◌, Option, Some, None}
use Rattle.std.specs.Str.{bytes_eq}
use Rattle.ckc_base.specs.declared.places.Pos.{Pos}
use Rattle.ckc_syntax.specs.declared.tree.Name.{Name}
use Rattle.ckc_syntax.specs.declared.tree.Name.TheVariants as name
use Rattle.ckc_syntax.specs.declared.tree.Item.TheVariants as item
use Rattle.ckc_resolve.specs.Same.{same_head}
use Rattle.ckc_resolve.specs.declared.names.Names.{Names}
use Rattle.ckc_base.specs.Outcomes.{Outcome, bind, refused, in_turn}
use Rattle.ckc_resolve.specs.Codes.{undefined}
use Rattle.ckc_resolve.specs.Spellings.{Spelling, is_among, number_of}
use Rattle.ckc_resolve.specs.Trees.{Item, Head, Decl, Stmt, NamedItem}
use Rattle.ckc_resolve.specs.Scoping.{noted, no_names, no_scope, is_reserved}
use Rattle.ckc_resolve.specs.Declarations.{decl_named, unless_taken}
use Rattle.ckc_resolve.specs.Statements.{body_named}
use Rattle.ckc_resolve.specs.Heads.{struct_named, head_named}

-- what the spelling of a tag means: the tag with its number
abbrev pub name_of_tag : Names → Spelling → Name
name_of_tag names s = name.Tag (number_of names.tags s)

-- an object or a function of the same name stands before, or no text may declare the name
abbrev pub is_taken_static : Names → Spelling → Bool
is_taken_static before s = is_reserved s || (is_among before.statics s || is_among before.functions s)

-- an object of the same name stands before, or no text may declare the name
abbrev pub is_taken_function : Names → Spelling → Bool
is_taken_function before s = is_reserved s || is_among before.statics s

-- the head of a function of the name with a body; of another item what is given
abbrev pub head_or : Option Head → Spelling → Item → Option Head
head_or other s (item.Function g body) = if bytes_eq g.name s then Some g else other
head_or other s i = other

-- the head of the first function of the name with a body
abbrev pub first_head : Spelling → List Item → Option Head
first_head s [] = None
first_head s (i ∷ rest) = head_or (first_head s rest) s i

-- whether a head is the same, places aside
abbrev pub is_same : Head → Option Head → Bool
is_same h None = false
is_same h (Some g) = same_head h g

-- refused if no function of the name has a body, or the first that has one has another head
abbrev pub if_defined : {A : Type 0} → List Item → Head → A → Outcome A
if_defined all h a = if is_same h (first_head h.name all) then Ok a else refused undefined h.pos

-- a structure with its names replaced; refused at its tag if the tag has a body already
abbrev pub structure_named : Names → Names → Spelling → List Decl → Pos → Outcome NamedItem
structure_named names before s members pos =
    bind (struct_named names members) (λ ds. unless_taken (is_among before.structs s) pos (item.Struct (name_of_tag names s) ds pos))

-- an object of file scope with its names replaced; refused at its name if the name is taken
abbrev pub static_named : Names → Names → Decl → Outcome NamedItem
static_named names before d =
    bind (decl_named names no_scope no_scope (name.Static (number_of names.statics d.name)) d) (λ e.
    unless_taken (is_taken_static before d.name) d.pos (item.Static e))

-- a prototype with its names replaced; refused at its name if that is taken or no function has its head
abbrev pub proto_named : Names → List Item → Names → Head → Outcome NamedItem
proto_named names all before h =
    bind (head_named names h) (λ p. bind (unless_taken (is_taken_function before h.name) h.pos p.0) (λ g. if_defined all h (item.Proto g)))

-- The body is judged after the head.
abbrev pub function_named : Names → Names → Head → Stmt → Outcome NamedItem
function_named names before h body =
    bind (head_named names h) (λ p. bind (unless_taken (is_taken_function before h.name || is_among before.defined h.name) h.pos p.0) (λ g.
    bind (body_named names body p.1) (λ b. Ok (item.Function g b.0))))

-- an item, with the names and the items of the whole text, and the names of the items before it
abbrev pub item_named : Names → List Item → Names → Item → Outcome NamedItem
item_named names all before (item.Directive d) = Ok (item.Directive d)
item_named names all before (item.Tag s pos) = Ok (item.Tag (name_of_tag names s) pos)
item_named names all before (item.Struct s members pos) = structure_named names before s members pos
item_named names all before (item.Static d) = static_named names before d
item_named names all before (item.Proto h) = proto_named names all before h
item_named names all before (item.Function h body) = function_named names before h body

-- an item with its names replaced, and the names declared up to it
abbrev pub item_in_turn : Names → List Item → Item → Names → Outcome (NamedItem × Names)
item_in_turn names all i before = bind (item_named names all before i) (λ j. Ok (j, noted before i))

-- the same of each item of a list
abbrev pub items_named : Names → List Item → List Item → Names → Outcome (List NamedItem × Names)
items_named names all is = in_turn (map (item_in_turn names all) is)

-- all items of a text
abbrev pub all_named : Names → List Item → Outcome (List NamedItem)
all_named names all = bind (items_named names all all no_names) (λ p. Ok p.0)

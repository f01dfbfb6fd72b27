-- The names of a text, and those that a place in it sees.
use Rattle.std.specs.Prelude.{◌+◌, Bool, ◌||◌, List, [], ◌∷◌, ◌++◌, length, take, drop, fold, Option, None, Some, if◌then◌else◌, codes}
use Rattle.std.specs.List.{list_any}
use Rattle.std.specs.Str.{bytes_eq}
use Rattle.ckc_syntax.specs.declared.tree.Name.{Name}
use Rattle.ckc_syntax.specs.declared.tree.Name.TheVariants as name
use Rattle.ckc_syntax.specs.declared.tree.Item.TheVariants as item
use Rattle.ckc_resolve.specs.declared.names.Names.{Names}
use Rattle.ckc_resolve.specs.declared.visible.Entry.{Entry}
use Rattle.ckc_resolve.specs.declared.scopes.Scopes.{Scopes}
use Rattle.ckc_resolve.specs.Spellings.{Spelling, with_spelling}
use Rattle.ckc_resolve.specs.Trees.{Tree, Item, Decl}

-- the names of an empty text
abbrev pub no_names : Names
no_names = record { statics = []; functions = []; defined = []; tags = []; structs = []; members = [] }

-- the spellings of members, with that of one more
abbrev pub with_member : List Spelling → Decl → List Spelling
with_member ms d = with_spelling ms d.name

-- The names that one item more declares: statics, functions and those with a body, tags and those with a body, and
-- members. Each kind is numbered in the order of first declaration.
abbrev pub noted : Names → Item → Names
noted names (item.Directive d) = names
noted names (item.Tag n pos) = record names { tags = with_spelling names.tags n }
noted names (item.Struct n members pos) = record names { tags = with_spelling names.tags n; structs = with_spelling names.structs n; members = fold with_member names.members members }
noted names (item.Static d) = record names { statics = with_spelling names.statics d.name }
noted names (item.Proto h) = record names { functions = with_spelling names.functions h.name }
noted names (item.Function h body) = record names { functions = with_spelling names.functions h.name; defined = with_spelling names.defined h.name }

-- the names that the whole text sees
abbrev pub names_of : Tree → Names
names_of tree = fold noted no_names tree.items

-- what the last of the declarations with this spelling declares; the innermost is the last
abbrev pub found : List Entry → Spelling → Option Name
found es s = fold (λ before e. if bytes_eq s e.spelling then Some e.name else before) None es

-- whether one of the declarations has this spelling
abbrev pub is_declared : List Entry → Spelling → Bool
is_declared es s = list_any (λ e. bytes_eq s e.spelling) es

-- whether the innermost scope declares the spelling already
abbrev pub is_declared_here : Scopes → Spelling → Bool
is_declared_here scopes s = is_declared (drop scopes.base scopes.visible) s

-- the names that no text declares
abbrev pub is_reserved : Spelling → Bool
is_reserved s = bytes_eq s (codes "getchar") || (bytes_eq s (codes "putchar") || bytes_eq s (codes "calloc"))

-- whether the innermost scope may not declare the spelling
abbrev pub is_taken_here : Scopes → Spelling → Bool
is_taken_here scopes s = is_reserved s || is_declared_here scopes s

-- what is visible after one more declaration
abbrev pub with_name : Scopes → Spelling → Name → Scopes
with_name scopes s n = record scopes { visible = scopes.visible ++ record { spelling = s; name = n } ∷ [] }

-- Locals are numbered in the order of declaration.
abbrev pub with_local : Scopes → Spelling → Scopes
with_local scopes s = record (with_name scopes s (name.Local scopes.next)) { next = scopes.next + 1 }

-- a new innermost scope, which declares nothing so far
abbrev pub opened : Scopes → Scopes
opened scopes = record scopes { base = length scopes.visible }

-- the end of the innermost scope, after which the declarations of the outer ones are visible
abbrev pub closed : Scopes → Scopes → Scopes
closed outer inner = record inner { visible = take (length outer.visible) inner.visible; base = outer.base }

-- a place that sees no declaration but those of file scope
abbrev pub no_scope : Scopes
no_scope = record { visible = []; base = 0; next = 0 }

-- What a name means at its place (ISO C11, 6.2.1 and 6.2.3).
use Rattle.std.specs.Prelude.{Option, None, Some, if◌then◌else◌, codes}
use Rattle.std.specs.Option.{option_map, option_or}
use Rattle.std.specs.Str.{bytes_eq}
use Rattle.ckc_base.specs.declared.places.Pos.{Pos}
use Rattle.ckc_base.specs.Outcomes.{Outcome, there_or}
use Rattle.ckc_syntax.specs.declared.tree.Name.{Name}
use Rattle.ckc_syntax.specs.declared.tree.Name.TheVariants as name
use Rattle.ckc_resolve.specs.declared.names.Names.{Names}
use Rattle.ckc_resolve.specs.declared.scopes.Scopes.{Scopes}
use Rattle.ckc_resolve.specs.Codes.{undeclared}
use Rattle.ckc_resolve.specs.Spellings.{Spelling, is_among, place_of}
use Rattle.ckc_resolve.specs.Scoping.{found}

-- the object of file scope with this spelling, if there is one
abbrev pub static_of : Names → Spelling → Option Name
static_of names s = option_map (λ n. name.Static n) (place_of names.statics s)

-- the function of file scope with this spelling, if there is one
abbrev pub function_of : Names → Spelling → Option Name
function_of names s = option_map (λ n. name.Function n) (place_of names.functions s)

-- the member of some structure
abbrev pub member_of : Names → Spelling → Option Name
member_of names s = option_map (λ n. name.Member n) (place_of names.members s)

-- the functions that every text may call
abbrev pub built_in : Spelling → Option Name
built_in s = if bytes_eq s (codes "getchar") then Some name.Getchar else (if bytes_eq s (codes "putchar") then Some name.Putchar else None)

-- A name that no local hides is an object of file scope, or else a function of it, or else a built-in one. `calloc` is
-- none: it begins a form of its own, and no text declares it.
abbrev pub of_file : Names → Spelling → Option Name
of_file names s = if bytes_eq s (codes "calloc") then None else option_or (static_of names s) (option_or (function_of names s) (built_in s))

-- A name in an expression, called or not, is the innermost declaration that is visible, or else a name of file scope.
abbrev pub meaning_of : Names → Scopes → Spelling → Option Name
meaning_of names scopes s = option_or (found scopes.visible s) (of_file names s)

-- a tag that a type names has a body somewhere in the text
abbrev pub tag_of : Names → Spelling → Option Name
tag_of names s = if is_among names.structs s then option_map (λ n. name.Tag n) (place_of names.tags s) else None

-- what a name in an expression means, or else E301 at the name
abbrev pub meaning_named : Names → Scopes → Spelling → Pos → Outcome Name
meaning_named names scopes s pos = there_or undeclared pos (meaning_of names scopes s)

-- what a tag in a type means, or else E301 at the tag
abbrev pub tag_named : Names → Spelling → Pos → Outcome Name
tag_named names s pos = there_or undeclared pos (tag_of names s)

-- what the name of a member means, or else E301 at the name
abbrev pub member_named : Names → Spelling → Pos → Outcome Name
member_named names s pos = there_or undeclared pos (member_of names s)

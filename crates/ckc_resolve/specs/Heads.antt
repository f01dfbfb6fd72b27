-- Members, parameters and the heads of functions with their names replaced by what they mean.
use Rattle.std.specs.Prelude.{List, [], Ok, map, fold}
use Rattle.ckc_syntax.specs.declared.tree.Name.{Name}
use Rattle.ckc_syntax.specs.declared.tree.Name.TheVariants as name
use Rattle.ckc_resolve.specs.declared.names.Names.{Names}
use Rattle.ckc_resolve.specs.declared.scopes.Scopes.{Scopes}
use Rattle.ckc_base.specs.Outcomes.{Outcome, bind, in_turn}
use Rattle.ckc_resolve.specs.Spellings.{Spelling, is_among, with_spelling, number_of}
use Rattle.ckc_resolve.specs.Trees.{Decl, Head, NamedDecl, NamedHead}
use Rattle.ckc_resolve.specs.Scoping.{no_scope, with_name, with_local, is_taken_here}
use Rattle.ckc_resolve.specs.Types.{type_named}
use Rattle.ckc_resolve.specs.Expressions.{bounds_named}
use Rattle.ckc_resolve.specs.Declarations.{decl_named, unless_taken}

-- what the spelling of a member means: the member with its number
abbrev pub name_of_member : Names → Spelling → Name
name_of_member names s = name.Member (number_of names.members s)

-- what is visible after one more member
abbrev pub with_member_name : Names → Scopes → Decl → Scopes
with_member_name names scopes d = with_name scopes d.name (name_of_member names d.name)

-- in the bounds of a member all members of its structure are visible
abbrev pub member_scope : Names → List Decl → Scopes
member_scope names ds = fold (with_member_name names) no_scope ds

-- A member, and the spellings of the members so far.
abbrev pub member_named : Names → Scopes → Decl → List Spelling → Outcome (NamedDecl × List Spelling)
member_named names all d before =
    bind (decl_named names all all (name_of_member names d.name) d) (λ e.
    unless_taken (is_among before d.name) d.pos (e, with_spelling before d.name))

-- the members of a structure with their names replaced, each after those before it
abbrev pub members_named : Names → Scopes → List Decl → List Spelling → Outcome (List NamedDecl × List Spelling)
members_named names all ds = in_turn (map (member_named names all) ds)

-- the members of a structure with their names replaced, or the first error in them
abbrev pub struct_named : Names → List Decl → Outcome (List NamedDecl)
struct_named names ds = bind (members_named names (member_scope names ds) ds []) (λ p. Ok p.0)

-- what is visible after one more parameter
abbrev pub with_param : Scopes → Decl → Scopes
with_param scopes d = with_local scopes d.name

-- in the bounds of a parameter and of the result all parameters are visible
abbrev pub param_scope : List Decl → Scopes
param_scope ds = fold with_param no_scope ds

-- A parameter, and the scope that the parameters so far make.
abbrev pub param_named : Names → Scopes → Decl → Scopes → Outcome (NamedDecl × Scopes)
param_named names all d before =
    bind (decl_named names all all (name.Local before.next) d) (λ e.
    unless_taken (is_taken_here before d.name) d.pos (e, with_local before d.name))

-- the parameters of a function with their names replaced, each after those before it
abbrev pub params_named : Names → Scopes → List Decl → Scopes → Outcome (List NamedDecl × Scopes)
params_named names all ds = in_turn (map (param_named names all) ds)

-- A head, and the scope of its parameters, which is also that of the outermost block of the body.
abbrev pub head_named : Names → Head → Outcome (NamedHead × Scopes)
head_named names h =
    bind (type_named names h.result) (λ t. bind (params_named names (param_scope h.params) h.params no_scope) (λ p. bind (bounds_named names (param_scope h.params) h.bounds) (λ b.
    Ok (record { mode = h.mode; result = t; name = name.Function (number_of names.functions h.name); params = p.0; bounds = b; pos = h.pos }, p.1))))

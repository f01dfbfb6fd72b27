-- Declarations with their names replaced by what they mean. A declaration is judged in this order: its type, its
-- bounds, its initialiser, and then itself.
use Rattle.std.specs.Prelude.{Bool, Ok}
use Rattle.ckc_base.specs.declared.places.Pos.{Pos}
use Rattle.ckc_syntax.specs.declared.tree.Name.{Name}
use Rattle.ckc_syntax.specs.declared.tree.Name.TheVariants as name
use Rattle.ckc_syntax.specs.declared.tree.Init.TheVariants as init
use Rattle.ckc_resolve.specs.declared.names.Names.{Names}
use Rattle.ckc_resolve.specs.declared.scopes.Scopes.{Scopes}
use Rattle.ckc_base.specs.Outcomes.{Outcome, bind, unless}
use Rattle.ckc_resolve.specs.Codes.{declared_twice}
use Rattle.ckc_resolve.specs.Trees.{Init, Decl, NamedInit, NamedDecl}
use Rattle.ckc_resolve.specs.Scoping.{is_taken_here, with_local}
use Rattle.ckc_resolve.specs.Types.{type_named}
use Rattle.ckc_resolve.specs.Expressions.{expr_named, exprs_named, bounds_named}

-- an initialiser with its names replaced
abbrev pub init_named : Names → Scopes → Init → Outcome NamedInit
init_named names scopes init.Nothing = Ok init.Nothing
init_named names scopes (init.One e) = bind (expr_named names scopes e) (λ a. Ok (init.One a))
init_named names scopes (init.Many es) = bind (exprs_named names scopes es) (λ all. Ok (init.Many all))

-- The bounds see the one scope, the initialiser the other.
abbrev pub decl_named : Names → Scopes → Scopes → Name → Decl → Outcome NamedDecl
decl_named names within outside n d =
    bind (type_named names d.ctype) (λ t. bind (bounds_named names within d.bounds) (λ b. bind (init_named names outside d.init) (λ i.
    Ok (record { ctype = t; name = n; length = d.length; bounds = b; init = i; pos = d.pos }))))

-- refused if the name is declared already, or no text may declare it
abbrev pub unless_taken : {A : Type 0} → Bool → Pos → A → Outcome A
unless_taken taken pos a = unless taken declared_twice pos (Ok a)

-- A local is visible in its own bounds, and not in its own initialiser.
abbrev pub local_named : Names → Scopes → Decl → Outcome (NamedDecl × Scopes)
local_named names scopes d =
    bind (decl_named names (with_local scopes d.name) scopes (name.Local scopes.next) d) (λ e.
    unless_taken (is_taken_here scopes d.name) d.pos (e, with_local scopes d.name))

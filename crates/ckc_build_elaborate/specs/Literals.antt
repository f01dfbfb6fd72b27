-- How many string literals parts of a text have that make a block: those that initialise no array (ISO C11, 6.4.5 and
-- 6.7.9).
use Rattle.std.specs.Prelude.{ℕ, ◌+◌, List, map, Bool, if◌then◌else◌, Option}
use Rattle.std.specs.Option.{option_map}
use Rattle.ckc_syntax.specs.Inside.{summed, inside_each, inside_if}
use Rattle.ckc_syntax.specs.declared.tree.Init.TheVariants as init
use Rattle.ckc_typed.specs.Trees.{NotedDecl, NotedInit, NotedExpr, NotedLimits}
use Rattle.ckc_typed.specs.Declarations.{is_plain}
use Rattle.ckc_build_values.specs.Expressions.{part_of, part_of_limits, all_literals, literals_if, literals_of}

-- how many string literals are in an expression that may be left out, as after `return`
abbrev pub literals_of_value : Option NotedExpr → ℕ
literals_of_value = inside_if summed literals_of

-- how many string literals are in the bounds of a declaration, which may have none
abbrev pub literals_of_bounds : Option NotedLimits → ℕ
literals_of_bounds l = literals_if (option_map part_of_limits l)

-- how many string literals are in an initialiser; a string that initialises an array makes no block
abbrev pub literals_of_init : Bool → NotedInit → ℕ
literals_of_init plain init.Nothing = 0
literals_of_init plain (init.One e) = if plain then literals_of e else 0
literals_of_init plain (init.Many es) = all_literals (map part_of es)

-- how many string literals are in a declaration
abbrev pub literals_of_decl : NotedDecl → ℕ
literals_of_decl d = literals_of_bounds d.bounds + literals_of_init (is_plain d.length) d.init

-- how many string literals are in several declarations
abbrev pub literals_of_decls : List NotedDecl → ℕ
literals_of_decls = inside_each summed literals_of_decl

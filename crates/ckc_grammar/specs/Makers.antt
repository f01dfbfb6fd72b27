-- What trees are made by.
use Rattle.std.specs.Prelude.{ℕ, List, [], ◌∷◌, ◌++◌, Option, None, Some}
use Rattle.ckc_base.specs.declared.places.Pos.{Pos}
use Rattle.ckc_base.specs.declared.arithmetic.Mode.{Mode}
use Rattle.ckc_syntax.specs.Spelled.{Spelled}
use Rattle.ckc_syntax.specs.declared.tokens.TokenKind.{TokenKind}
use Rattle.ckc_syntax.specs.declared.tokens.TokenKind.TheVariants as kinds
use Rattle.ckc_syntax.specs.declared.tokens.Directive.{Directive}
use Rattle.ckc_syntax.specs.declared.tokens.Directive.TheVariants as directives
use Rattle.ckc_syntax.specs.declared.tree.Length.{Length}
use Rattle.ckc_syntax.specs.declared.tree.Length.TheVariants as lengths
use Rattle.ckc_syntax.specs.declared.tree.Init.TheVariants as inits
pub use Rattle.ckc_grammar.specs.Trees.{function_of}
use Rattle.ckc_grammar.specs.Trees.{Head, TypeTree, Decl, Init, Limits, Expr}

-- lists one after another
abbrev pub flat : {A : Type 0} → List (List A) → List A
flat [] = []
flat (xs ∷ rest) = xs ++ flat rest

-- the declarations of these names with this type before them
abbrev pub given : TypeTree → List (TypeTree → Decl) → List Decl
given b [] = []
given b (d ∷ ds) = d b ∷ given b ds

-- an expression that goes on by `[e]`, `.m` and `->m`
abbrev pub applied : Expr → List (Expr → Expr) → Expr
applied e [] = e
applied e (f ∷ fs) = applied (f e) fs

-- the mode of a function, if it has one
abbrev pub mode_of : Option (Mode × Pos) → Option Mode
mode_of None = None
mode_of (Some m) = Some m.0

-- the length of an object: that of its array, or else it is none
abbrev pub length_of : Option Length → Length
length_of None = lengths.Plain
length_of (Some l) = l

-- the initialiser of a local: what stands behind its `=`, if something does
abbrev pub init_of : Option Expr → Init
init_of None = inits.Nothing
init_of (Some e) = inits.One e

-- the initialiser of an object, if it has one
abbrev pub initial_of : Option Init → Init
initial_of None = inits.Nothing
initial_of (Some i) = i

-- the directive that a token is
abbrev pub directive_of : TokenKind → Directive
directive_of (kinds.Directive d) = d
directive_of _ = directives.Stdio

-- the number that a token is
abbrev pub number_of : TokenKind → ℕ
number_of (kinds.Number number unsigned) = number
number_of _ = 0

-- a declaration of the name: its type, its length, its bounds and its initialiser
abbrev pub declared : TypeTree → Spelled → Length → Option Limits → Init → Decl
declared b x l r i = record { ctype = b; name = x.text; length = l; bounds = r; init = i; pos = x.pos }

-- a head: its mode, its result, its name, its parameters and the bounds of its result
abbrev pub head_of : Option Mode → TypeTree → Spelled → List Decl → Option Limits → Head
head_of m r x ps l = record { mode = m; result = r; name = x.text; params = ps; bounds = l; pos = x.pos }

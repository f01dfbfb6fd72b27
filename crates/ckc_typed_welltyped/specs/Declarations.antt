-- Declarations that are well typed (ISO C11, 6.7.6 and 6.7.9; Checked C specification 0.9, section 2): what is declared
-- has a type that may stand there, and its bounds and initialiser are well typed and fit it.
use Rattle.std.specs.Prelude.{◌≡◌, ◌≤◌, ℕ, ◌-◌, Bool, true, false, List, [], length, Some, IfSome}
use Rattle.std.specs.List.{AllByRecursion}
use Rattle.ckc_base.specs.declared.arithmetic.Mode.{Mode}
use Rattle.ckc_types.specs.declared.types.CType.{CType}
use Rattle.ckc_types.specs.declared.types.Structs.{Structs}
use Rattle.ckc_syntax.specs.declared.tree.Init.TheVariants as init
use Rattle.ckc_typed.specs.declared.environment.Globals.{Globals}
use Rattle.ckc_typed.specs.declared.environment.Variable.{Variable}
use Rattle.ckc_typed.specs.Trees.{NotedDecl, NotedInit, NotedExpr}
use Rattle.ckc_typed.specs.Types.{type_written, is_scalar, is_char, kind_of, is_scalar_type}
use Rattle.ckc_typed.specs.Conversions.{converts}
use Rattle.ckc_typed.specs.Declarations.{is_plain, is_nothing, is_checked_kind, string_in, count_of, kept_zero, is_element_for, is_start}
use Rattle.ckc_typed_welltyped.specs.Expressions.{WellTypedExpr, WellTypedLimits}

abbrev pub WellTypedInit : Globals → List Variable → Mode → NotedInit → Type 0
WellTypedInit globals variables mode init.Nothing = Unit {0}
WellTypedInit globals variables mode (init.One e) = WellTypedExpr globals variables mode e
WellTypedInit globals variables mode (init.Many es) = AllByRecursion (WellTypedExpr globals variables mode) es

-- the bounds and the initialiser of a declaration, each by itself
pub record WellTypedParts (globals : Globals) (variables : List Variable) (mode : Mode) (d : NotedDecl) : Type 0 where
  pub bounds : IfSome d.bounds (WellTypedLimits globals variables mode)
  pub init : WellTypedInit globals variables mode d.init

-- A parameter or member is a scalar and no array, and has no initialiser.
pub record WellTypedBare (globals : Globals) (variables : List Variable) (mode : Mode) (d : NotedDecl) : Type 0 where
  pub scalar : is_scalar_type (type_written d.ctype) ≡ true
  pub parts : WellTypedParts globals variables mode d
  pub plain : is_plain d.length ≡ true
  pub nothing : is_nothing d.init ≡ true

-- A local begins as what converts to its type. One without initialiser is no checked pointer.
abbrev pub StartsLocal : CType → NotedInit → Type 0
StartsLocal t init.Nothing = is_checked_kind (kind_of t) ≡ false
StartsLocal t (init.One e) = converts t e ≡ true
StartsLocal t (init.Many es) = ⊥

-- A local is a scalar and no array.
pub record WellTypedLocal (globals : Globals) (variables : List Variable) (mode : Mode) (d : NotedDecl) : Type 0 where
  pub scalar : is_scalar_type (type_written d.ctype) ≡ true
  pub parts : WellTypedParts globals variables mode d
  pub plain : is_plain d.length ≡ true
  pub starts : StartsLocal (type_written d.ctype) d.init

-- A string initialises an array of `char`, and has at most as many bytes as there is room for.
pub record IsStringFor (t : CType) (room : ℕ) (e : NotedExpr) : Type 0 where
  pub bytes : List ℕ
  pub spelled : string_in e ≡ Some bytes
  pub char : is_char t ≡ true
  pub fits : length bytes ≤ room

-- One expression initialises a scalar, as a constant or as null, or it is a string for an array.
abbrev pub StartsOne : Structs → CType → Bool → ℕ → NotedExpr → Type 0
StartsOne structs t true room e = (is_scalar t ≡ true) × (is_start structs t e ≡ true)
StartsOne structs t false room e = IsStringFor t room e

-- A list initialises an array of scalars, with constants or null, at most as many as there is room for.
pub record IsListFor (structs : Structs) (t : CType) (plain : Bool) (room : ℕ) (es : List NotedExpr) : Type 0 where
  pub array : plain ≡ false
  pub scalar : is_scalar t ≡ true
  pub fits : length es ≤ room
  pub starts : AllByRecursion (λ e. is_start structs t e ≡ true) es

abbrev pub StartsStatic : Structs → CType → Bool → ℕ → NotedInit → Type 0
StartsStatic structs t plain room init.Nothing = Unit {0}
StartsStatic structs t plain room (init.One e) = StartsOne structs t plain room e
StartsStatic structs t plain room (init.Many es) = IsListFor structs t plain room es

-- An object of file scope is a scalar, a structure, or an array of scalars or of structures. It has at least one
-- element, and what it begins as has room in it; the last element of an `_Nt_checked` array stays zero. Beside the
-- objects of the text it sees no variables.
pub record WellTypedStatic (globals : Globals) (mode : Mode) (d : NotedDecl) : Type 0 where
  pub element : is_element_for d.length (type_written d.ctype) ≡ true
  pub parts : WellTypedParts globals [] mode d
  pub count : ℕ
  pub counted : count_of d ≡ Some count
  pub some : 1 ≤ count
  pub starts : StartsStatic globals.structs (type_written d.ctype) (is_plain d.length) (count - kept_zero d.length) d.init

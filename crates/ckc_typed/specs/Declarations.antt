-- Declarations with their bounds and initialisers noted, and their first fault (ISO C11, 6.7.6 and 6.7.9; Checked C
-- specification 0.9, section 2). The bounds are judged, then the initialiser, and at last the declaration itself.
use Rattle.std.specs.Prelude.{ℕ, ◌+◌, ◌-◌, nat_le, Bool, true, false, not, ◌&&◌, ◌||◌, if◌then◌else◌, List, [], length, map, Option, None, Some, is_some, is_none, Ok}
use Rattle.std.specs.List.{list_all}
use Rattle.std.specs.Option.{option_map}
use Rattle.ckc_base.specs.declared.arithmetic.Mode.{Mode}
use Rattle.ckc_types.specs.declared.types.Kind.{Kind}
use Rattle.ckc_types.specs.declared.types.Kind.TheVariants as kind
use Rattle.ckc_types.specs.declared.types.CType.{CType}
use Rattle.ckc_types.specs.declared.types.Structs.{Structs}
use Rattle.ckc_syntax.specs.declared.tree.Name.{Name}
use Rattle.ckc_syntax.specs.declared.tree.Init.TheVariants as init
use Rattle.ckc_syntax.specs.declared.tree.Length.{Length}
use Rattle.ckc_syntax.specs.declared.tree.Length.TheVariants as lengths
use Rattle.ckc_syntax.specs.declared.tree.Node.{Node-F, out-Node}
use Rattle.ckc_typed.specs.Codes.{bad_operands, bad_conversion, no_initialiser}
use Rattle.ckc_typed.specs.declared.environment.Globals.{Globals}
use Rattle.ckc_typed.specs.declared.environment.Variable.{Variable}
use Rattle.ckc_typed.specs.declared.typed.Note.{Note}
use Rattle.ckc_base.specs.Outcomes.{Outcome, bind, refused, in_order}
use Rattle.ckc_typed.specs.Trees.{Decl, Init, NotedDecl, NotedInit, NotedLimits, NotedExpr}
use Rattle.ckc_typed.specs.Types.{type_written, is_integer, is_pointer, is_scalar, is_char, kind_of, is_object_type, is_scalar_type}
use Rattle.ckc_typed.specs.Environment.{kind_of_array}
use Rattle.ckc_typed.specs.Constants.{constant}
use Rattle.ckc_typed.specs.Conversions.{is_null, converts}
use Rattle.ckc_typed.specs.Expressions.{expr_typed, exprs_typed, bounds_typed}

-- an initialiser with the types in it noted, or its first error
abbrev pub init_typed : Globals → List Variable → Mode → Init → Outcome NotedInit
init_typed globals variables mode init.Nothing = Ok init.Nothing
init_typed globals variables mode (init.One e) = bind (expr_typed globals variables mode e) (λ a. Ok (init.One a))
init_typed globals variables mode (init.Many es) = bind (exprs_typed globals variables mode es) (λ all. Ok (init.Many all))

-- a declaration with its bounds and its initialiser noted
abbrev pub decl_with : Decl → Option NotedLimits → NotedInit → NotedDecl
decl_with d l i = record { ctype = d.ctype; name = d.name; length = d.length; bounds = l; init = i; pos = d.pos }

-- a declaration with the types in its bounds and its initialiser noted, or their first error
abbrev pub parts_typed : Globals → List Variable → Mode → Decl → Outcome NotedDecl
parts_typed globals variables mode d = bind (bounds_typed globals variables mode d.bounds) (λ l. bind (init_typed globals variables mode d.init) (λ i. Ok (decl_with d l i)))

-- a declaration, unless it is at fault at the declared name
abbrev pub judged : Option ℕ → NotedDecl → Outcome NotedDecl
judged None d = Ok d
judged (Some code) d = refused code d.pos

-- whether no array is declared
abbrev pub is_plain : Length → Bool
is_plain length = is_none (kind_of_array length)

-- an error code, unless a condition holds
abbrev pub fault_unless : Bool → ℕ → Option ℕ
fault_unless holds code = if holds then None else Some code

-- whether there is no initialiser
abbrev pub is_nothing : NotedInit → Bool
is_nothing init.Nothing = true
is_nothing _ = false

-- Parameters, members and locals are scalars.
abbrev pub is_scalar_declared : NotedDecl → Bool
is_scalar_declared d = is_scalar_type (type_written d.ctype)

-- Parameters and members are no arrays, and have no initialiser.
abbrev pub bare_fault : NotedDecl → Option ℕ
bare_fault d = fault_unless (is_scalar_declared d && (is_plain d.length && is_nothing d.init)) bad_operands

-- whether a pointer is of a checked kind
abbrev pub is_checked_kind : Option Kind → Bool
is_checked_kind (Some kind.Raw) = false
is_checked_kind (Some _) = true
is_checked_kind None = false

-- E407: a checked pointer has no initialiser. E402: the initialiser does not convert.
abbrev pub start_fault : CType → NotedInit → Option ℕ
start_fault t init.Nothing = fault_unless (not (is_checked_kind (kind_of t))) no_initialiser
start_fault t (init.One e) = fault_unless (converts t e) bad_conversion
start_fault t (init.Many es) = Some bad_operands

-- Locals are no arrays.
abbrev pub local_fault : NotedDecl → Option ℕ
local_fault d = if is_scalar_declared d && is_plain d.length then start_fault (type_written d.ctype) d.init else Some bad_operands

-- the bytes of a node that is a string literal
abbrev pub string_in_form : {A L M E : Type 0} → Node-F Name A L M E → Option (List ℕ)
string_in_form (Node-F.Text bytes) = Some bytes
string_in_form _ = None

-- the bytes of a string literal
abbrev pub string_in : NotedExpr → Option (List ℕ)
string_in e = string_in_form (out-Node Name Note e.node)

-- The length that an initialiser gives: that of a list, and of a string one more than its bytes.
abbrev pub length_of_init : NotedInit → Option ℕ
length_of_init init.Nothing = None
length_of_init (init.One e) = option_map (λ bytes. length bytes + 1) (string_in e)
length_of_init (init.Many es) = Some (length es)

-- the length that is written, or else the one that the initialiser gives
abbrev pub length_or : Option ℕ → NotedInit → Option ℕ
length_or (Some n) i = Some n
length_or None i = length_of_init i

-- how many elements there are, if that is known; 1 of what is no array
abbrev pub count_by : Length → NotedInit → Option ℕ
count_by lengths.Plain i = Some 1
count_by (lengths.Raw n pos) i = length_or n i
count_by (lengths.Checked n) i = length_or n i
count_by (lengths.Nt n) i = length_or n i

-- how many elements an object of file scope has, if that is known
abbrev pub count_of : NotedDecl → Option ℕ
count_of d = count_by d.length d.init

-- The last element of an `_Nt_checked` array stays zero.
abbrev pub kept_zero : Length → ℕ
kept_zero (lengths.Nt n) = 1
kept_zero _ = 0

-- whether what is declared may have the type: an integer type for the elements of an `_Nt_checked` array
abbrev pub is_element_for : Length → CType → Bool
is_element_for (lengths.Nt n) t = is_integer t
is_element_for _ t = is_object_type t

-- An object of file scope begins as a constant, or null if it is a pointer.
abbrev pub is_start : Structs → CType → NotedExpr → Bool
is_start structs t e = (is_integer t && is_some (constant structs e)) || (is_pointer t && is_null e)

-- whether an initialiser is a string that an array of `char` has room for
abbrev pub string_fits : CType → ℕ → Option (List ℕ) → Bool
string_fits t room (Some bytes) = is_char t && nat_le (length bytes) room
string_fits t room None = false

-- A string initialises a `char` array alone, another expression a scalar alone.
abbrev pub one_fits : Structs → CType → Bool → ℕ → NotedExpr → Bool
one_fits structs t plain room e = if plain then is_scalar t && is_start structs t e else string_fits t room (string_in e)

-- A list initialises an array of scalars alone. A list and a string have at most as many items as there is room for.
abbrev pub init_fits : Structs → CType → Bool → ℕ → NotedInit → Bool
init_fits structs t plain room init.Nothing = true
init_fits structs t plain room (init.One e) = one_fits structs t plain room e
init_fits structs t plain room (init.Many es) = not plain && (is_scalar t && (nat_le (length es) room && list_all (is_start structs t) es))

-- A length is at least 1. If it is left out, an initialiser gives it. An `_Nt_checked` array whose length only a
-- list gives has no element for its zero, so it is refused.
abbrev pub count_fits : Structs → NotedDecl → Option ℕ → Bool
count_fits structs d None = false
count_fits structs d (Some n) = nat_le 1 n && init_fits structs (type_written d.ctype) (is_plain d.length) (n - kept_zero d.length) d.init

-- An object of file scope is a scalar, a structure, or an array of scalars or of structures.
abbrev pub is_element_declared : NotedDecl → Bool
is_element_declared d = is_element_for d.length (type_written d.ctype)

-- E401 if an object of file scope may not have its type, its length or its initialiser
abbrev pub static_fault : Structs → NotedDecl → Option ℕ
static_fault structs d = fault_unless (is_element_declared d && count_fits structs d (count_of d)) bad_operands

-- a parameter or member with the types in it noted, or its first error
abbrev pub bare_typed : Globals → List Variable → Mode → Decl → Outcome NotedDecl
bare_typed globals variables mode d = bind (parts_typed globals variables mode d) (λ n. judged (bare_fault n) n)

-- parameters or members with the types in them noted, in order, or their first error
abbrev pub bares_typed : Globals → List Variable → Mode → List Decl → Outcome (List NotedDecl)
bares_typed globals variables mode ds = in_order (map (bare_typed globals variables mode) ds)

-- a declaration of a local with the types in it noted, or its first error
abbrev pub local_typed : Globals → List Variable → Mode → Decl → Outcome NotedDecl
local_typed globals variables mode d = bind (parts_typed globals variables mode d) (λ n. judged (local_fault n) n)

-- Beside the objects of the text it sees no variables.
abbrev pub static_typed : Globals → Mode → Decl → Outcome NotedDecl
static_typed globals mode d = bind (parts_typed globals [] mode d) (λ n. judged (static_fault globals.structs n) n)

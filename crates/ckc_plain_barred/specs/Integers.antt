-- The integer types of the functions and locals of a text: the types of the locals that effects are taken out into.
use Rattle.std.specs.Prelude.{ℕ, ◌+◌, ◌==◌, Bool, false, List, [], ◌∷◌, ◌++◌, Option, Some, None, map, fold, length, if◌then◌else◌}
use Rattle.std.specs.List.{slice_get}
use Rattle.ckc_syntax.specs.declared.tree.Name.{Name}
use Rattle.ckc_syntax.specs.declared.tree.Name.TheVariants as name
use Rattle.ckc_syntax.specs.declared.tree.TypeTree.{TypeTree-F, out-TypeTree}
use Rattle.ckc_syntax.specs.declared.tree.TypeTree.TheVariants as ctype
use Rattle.ckc_syntax.specs.declared.tree.Length.{Length}
use Rattle.ckc_syntax.specs.declared.tree.Length.TheVariants as array
use Rattle.ckc_syntax.specs.declared.tree.Item.TheVariants as item
use Rattle.ckc_syntax.specs.declared.tree.Act.{fold-Act}
use Rattle.ckc_syntax.specs.declared.tree.Stmt.{Stmt-F, fold-Stmt}
use Rattle.ckc_syntax.specs.Inside.{listed, inside_run}
use Rattle.ckc_plain_barred.specs.declared.integers.Integer.{Integer}
use Rattle.ckc_plain_barred.specs.declared.integers.Integer.TheVariants as integer
use Rattle.ckc_plain_barred.specs.declared.integers.Integers.{Integers}
use Rattle.ckc_syntax.specs.Trees.{NamedTree, NamedItem, NamedHead, NamedTypeTree, NamedDecl, NamedStmt, NamedAct}

-- the integer type that a type is, by its outermost part
abbrev pub integer_form : TypeTree-F Name NamedTypeTree → Option Integer
integer_form TypeTree-F.Int = Some integer.Int
integer_form TypeTree-F.Unsigned = Some integer.Unsigned
integer_form TypeTree-F.Char = Some integer.Char
integer_form form = None

-- the integer type that a type is
abbrev pub integer_of : NamedTypeTree → Option Integer
integer_of t = integer_form (out-TypeTree Name t)

-- an integer type as it is written
abbrev pub type_of : Integer → NamedTypeTree
type_of integer.Int = ctype.Int
type_of integer.Unsigned = ctype.Unsigned
type_of integer.Char = ctype.Char

-- what is declared without `[..]` has the type that is written
abbrev pub unless_array : Length → Option Integer → Option Integer
unless_array array.Plain t = t
unless_array length t = None

-- the integer type of a parameter or local
abbrev pub declared_integer : NamedDecl → Option Integer
declared_integer d = unless_array d.length (integer_of d.ctype)

-- the locals that a statement declares, by those of its parts
abbrev pub locals_of_stmt_parts : Stmt-F Name (Unit {0}) (List NamedDecl) (List NamedDecl) → List NamedDecl
locals_of_stmt_parts s = s.body

-- the locals that a statement declares, in the order in which they are numbered
abbrev pub locals_of_stmt : NamedStmt → List NamedDecl
locals_of_stmt = fold-Stmt Name (Unit {0}) (List NamedDecl) (List NamedDecl) (inside_run listed (λ e. []) (λ d. d ∷ []) (λ s. s)) locals_of_stmt_parts

abbrev pub locals_of_act : NamedAct → List NamedDecl
locals_of_act = fold-Act Name (Unit {0}) (List NamedDecl) (List NamedDecl) (inside_run listed (λ e. []) (λ d. d ∷ []) (λ s. s)) locals_of_stmt_parts

-- the types of the parameters and locals of a function, each at the place of its number
abbrev pub locals_of : NamedHead → NamedStmt → List (Option Integer)
locals_of h body = map declared_integer (h.params ++ locals_of_stmt body)

-- whether a function has this number
abbrev pub is_function_number : Name → ℕ → Bool
is_function_number (name.Function k) n = k == n
is_function_number other n = false

-- Functions are numbered in the order of first declaration: a head with the next number is the first of its function.
abbrev pub with_result : List (Option Integer) → NamedHead → List (Option Integer)
with_result rs h = if is_function_number h.name (length rs) then rs ++ integer_of h.result ∷ [] else rs

-- the types of the results of functions, with what one item more declares
abbrev pub with_results_of : List (Option Integer) → NamedItem → List (Option Integer)
with_results_of rs (item.Proto h) = with_result rs h
with_results_of rs (item.Function h body) = with_result rs h
with_results_of rs i = rs

-- the types of the results of the functions of a text, each at the place of its number
abbrev pub results_of : NamedTree → List (Option Integer)
results_of tree = fold with_results_of [] tree.items

-- what is known outside functions
abbrev pub known_of : NamedTree → Integers
known_of tree = record { results = results_of tree; locals = [] }

-- what is known in a function
abbrev pub known_in : Integers → NamedHead → NamedStmt → Integers
known_in known h body = record known { locals = locals_of h body }

abbrev pub if_there : Option (Option Integer) → Option Integer
if_there None = None
if_there (Some t) = t

-- the integer type at a place, if there is one
abbrev pub type_at : List (Option Integer) → ℕ → Option Integer
type_at ts k = if_there (slice_get ts k)

-- the type of the result of what is called, if it is an integer
abbrev pub result_of : Integers → Name → Option Integer
result_of known name.Getchar = Some integer.Int
result_of known name.Putchar = Some integer.Int
result_of known (name.Function k) = type_at known.results k
result_of known n = None

-- the type of a local, if it is an integer
abbrev pub local_of : Integers → Name → Option Integer
local_of known (name.Local k) = type_at known.locals k
local_of known n = None

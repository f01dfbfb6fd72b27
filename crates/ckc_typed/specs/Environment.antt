-- What a text declares (ISO C11, 6.2.1): its objects of file scope and its functions, and the variables that an
-- expression sees beside them, whatever its tree notes. If a tree names what it does not declare, nothing is found.
use Rattle.std.specs.Prelude.{ℕ, ◌==◌, Bool, true, false, List, [], ◌∷◌, ◌++◌, map, flat_map, find, Option, None, Some}
use Rattle.std.specs.Option.{option_map}
use Rattle.ckc_base.specs.declared.arithmetic.Mode.{Mode}
use Rattle.ckc_base.specs.declared.arithmetic.Mode.TheVariants.{Checked}
use Rattle.ckc_types.specs.declared.types.Kind.{Kind}
use Rattle.ckc_types.specs.declared.types.Kind.TheVariants as kind
use Rattle.ckc_types.specs.declared.types.CType.{CType}
use Rattle.ckc_types.specs.declared.types.CType.TheVariants as ctype
use Rattle.ckc_types.specs.declared.types.Structs.{Structs}
use Rattle.ckc_types.specs.Layout.{members_of}
use Rattle.ckc_syntax.specs.Inside.{listed, inside_if, inside_act}
use Rattle.ckc_syntax.specs.declared.tree.Name.{Name}
use Rattle.ckc_syntax.specs.declared.tree.Name.TheVariants as name
use Rattle.ckc_syntax.specs.declared.tree.Length.{Length}
use Rattle.ckc_syntax.specs.declared.tree.Length.TheVariants as lengths
use Rattle.ckc_syntax.specs.declared.tree.Item.{Item}
use Rattle.ckc_syntax.specs.declared.tree.Item.TheVariants as item
use Rattle.ckc_syntax.specs.declared.tree.Head as heads
use Rattle.ckc_syntax.specs.declared.tree.Decl as decls
use Rattle.ckc_syntax.specs.declared.tree.Act as acts
use Rattle.ckc_syntax.specs.declared.tree.Act.{Act-F, fold-Act}
use Rattle.ckc_syntax.specs.declared.tree.Stmt as statements
use Rattle.ckc_syntax.specs.declared.tree.Stmt.{Stmt-F, fold-Stmt}
use Rattle.ckc_typed.specs.declared.environment.Globals.{Globals}
use Rattle.ckc_typed.specs.declared.environment.Object.{Object}
use Rattle.ckc_typed.specs.declared.environment.Parameter.{Parameter}
use Rattle.ckc_typed.specs.declared.environment.Signature.{Signature}
use Rattle.ckc_typed.specs.declared.environment.Variable.{Variable}
use Rattle.ckc_typed.specs.Interfaces.{is_interface, seen, seen_params}
use Rattle.ckc_typed.specs.Types.{type_written}

-- whether two names mean the same thing
abbrev pub same_name : Name → Name → Bool
same_name (name.Local j) (name.Local k) = j == k
same_name (name.Static j) (name.Static k) = j == k
same_name (name.Function j) (name.Function k) = j == k
same_name (name.Tag j) (name.Tag k) = j == k
same_name (name.Member j) (name.Member k) = j == k
same_name name.Getchar name.Getchar = true
same_name name.Putchar name.Putchar = true
same_name _ _ = false

-- Used, `T a[n]` is a `T *`, `_Checked` an `_Array_ptr<T>`, and `_Nt_checked` an `_Nt_array_ptr<T>`.
abbrev pub kind_of_array : Length → Option Kind
kind_of_array lengths.Plain = None
kind_of_array (lengths.Raw n pos) = Some kind.Raw
kind_of_array (lengths.Checked n) = Some kind.Arr
kind_of_array (lengths.Nt n) = Some kind.Nt

-- the object of file scope that is declared
abbrev pub object_declared : {A : Type 0} → decls.Decl Name A → Object
object_declared d = record { name = d.name; element = type_written d.ctype; array = kind_of_array d.length }

-- the parameter, local or member that is declared, as a variable that an expression sees
abbrev pub variable_declared : {A : Type 0} → decls.Decl Name A → Variable
variable_declared d = record { name = d.name; ctype = type_written d.ctype }

-- the type that is declared
abbrev pub type_declared : {A : Type 0} → decls.Decl Name A → CType
type_declared d = type_written d.ctype

-- a parameter as its function's callers see it
abbrev pub parameter_declared : {A : Type 0} → decls.Decl Name A → Parameter
parameter_declared d = record { ctype = type_declared (seen Checked d); is_interface = is_interface d }

-- the name, the type of the result and the parameters that a head declares
abbrev pub signature_declared : {A : Type 0} → heads.Head Name A → Signature
signature_declared h = record { name = h.name; result = type_written h.result; params = map parameter_declared h.params }

-- the object that an item of a source file declares, if it declares one
abbrev pub objects_declared_by : {A : Type 0} → Item Name A → List Object
objects_declared_by (item.Static d) = object_declared d ∷ []
objects_declared_by _ = []

-- A prototype adds none, since its function has the same head.
abbrev pub signatures_of_item : {A : Type 0} → Item Name A → List Signature
signatures_of_item (item.Function h body) = signature_declared h ∷ []
signatures_of_item _ = []

-- the objects of file scope, in the order of the source file
abbrev pub objects_of : {A : Type 0} → List (Item Name A) → List Object
objects_of items = flat_map objects_declared_by items

-- `int getchar(void)` and `int putchar(int)` stand for every text.
abbrev pub getchar : Signature
getchar = record { name = name.Getchar; result = ctype.Int; params = [] }

-- `int putchar(int)`, which stands for every source file
abbrev pub putchar : Signature
putchar = record { name = name.Putchar; result = ctype.Int; params = record { ctype = ctype.Int; is_interface = false } ∷ [] }

-- the functions that may be called: `getchar`, `putchar`, and those with a body in the source file
abbrev pub signatures_of : {A : Type 0} → List (Item Name A) → List Signature
signatures_of items = getchar ∷ putchar ∷ flat_map signatures_of_item items

-- the locals that are declared in what a statement does, from those in its parts
abbrev pub act_variables : {A : Type 0} → Act-F Name A (List Variable) (List Variable) → List Variable
act_variables = inside_act listed (λ e. []) (λ d. variable_declared d ∷ []) (λ s. s)

-- A statement declares what is declared in what it does.
abbrev pub stmt_variables : {A : Type 0} → Stmt-F Name A (List Variable) (List Variable) → List Variable
stmt_variables s = s.body

-- the locals that a statement declares anywhere in it; a function numbers each of its locals once
abbrev pub locals_of : {A : Type 0} → statements.Stmt Name A → List Variable
locals_of {A} = fold-Stmt Name A (List Variable) (List Variable) act_variables stmt_variables

abbrev pub locals_of_act : {A : Type 0} → acts.Act Name A → List Variable
locals_of_act {A} = fold-Act Name A (List Variable) (List Variable) act_variables stmt_variables

abbrev pub locals_of_part : {A : Type 0} → Option (statements.Stmt Name A) → List Variable
locals_of_part = inside_if listed locals_of

-- the parameters of a function, as code of a mode sees them
abbrev pub params_of : {A : Type 0} → Mode → heads.Head Name A → List Variable
params_of mode h = map variable_declared (seen_params mode h)

-- what an expression in a function sees, whose body has a mode
abbrev pub variables_of : {A : Type 0} → Mode → heads.Head Name A → statements.Stmt Name A → List Variable
variables_of mode h body = params_of mode h ++ locals_of body

-- the object of file scope that a name means
abbrev pub object_named : Globals → Name → Option Object
object_named globals n = find (λ o. same_name o.name n) globals.objects

-- the function that a name means
abbrev pub signature_named : Globals → Name → Option Signature
signature_named globals n = find (λ s. same_name s.name n) globals.functions

-- the parameter or local that a name means
abbrev pub variable_named : List Variable → Name → Option Variable
variable_named variables n = find (λ v. same_name v.name n) variables

-- whether a name means the member with the number k
abbrev pub is_member_named : Name → ℕ → Bool
is_member_named n k = same_name n (name.Member k)

-- the type of a member of the structure with a tag
abbrev pub member_type : Structs → ℕ → Name → Option CType
member_type structs tag n = option_map (λ m. m.ctype) (find (λ m. is_member_named n m.name) (members_of structs tag))

-- A used array is a pointer to its first element.
abbrev pub used : CType → Option Kind → CType
used element None = element
used element (Some k) = ctype.Pointer k element

-- the type of an object of file scope that is used in an expression
abbrev pub object_type : Object → CType
object_type o = used o.element o.array

-- the type of a parameter or local, if there is one, or else of an object of file scope
abbrev pub or_variable : Option Variable → Option Object → Option CType
or_variable (Some v) o = Some v.ctype
or_variable None o = option_map object_type o

-- the type of a name that is used in an expression
abbrev pub type_of_name : Globals → List Variable → Name → Option CType
type_of_name globals variables n = or_variable (variable_named variables n) (object_named globals n)

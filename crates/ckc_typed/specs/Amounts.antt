-- Amounts of elements or bytes in bounds (Checked C specification 0.9, section 3.1): a number, a variable, or a variable
-- and a number. Members, locals, parameters, results and casts have the same amounts; which names may be the variable,
-- and how great the number, is judged with the bounds.
use Rattle.std.specs.Prelude.{ℕ, ◌==◌, ℤ, pos, neg_ℤ, int_div, int_rem, Bool, ◌&&◌, nat_lt, if◌then◌else◌, Option, None, Some}
use Rattle.std.specs.Ordering.{int_eq}
use Rattle.ckc_types.specs.declared.types.Structs.{Structs}
use Rattle.ckc_syntax.specs.declared.tree.Name.{Name}
use Rattle.ckc_syntax.specs.declared.tree.TreeOp.{TreeOp}
use Rattle.ckc_syntax.specs.declared.tree.TreeOp.TheVariants as op
use Rattle.ckc_syntax.specs.declared.tree.Limits.{Limits, Limits-F, out-Limits}
use Rattle.ckc_syntax.specs.declared.tree.Node.{Node, Node-F, out-Node}
use Rattle.ckc_syntax.specs.declared.tree.Expr.{Expr}
use Rattle.ckc_typed.specs.declared.environment.Amount.{Amount}
use Rattle.ckc_typed.specs.declared.environment.Constant.{Constant}
use Rattle.ckc_typed.specs.Constants.{constant, value_of}

-- the name that a node is
abbrev pub variable_in_form : {A L M E : Type 0} → Node-F Name A L M E → Option Name
variable_in_form (Node-F.Name n) = Some n
variable_in_form _ = None

-- the name that an expression is
abbrev pub variable_in : {A : Type 0} → Expr Name A → Option Name
variable_in {A} e = variable_in_form (out-Node Name A e.node)

-- the number that a constant stands for, if there is one
abbrev pub number_of : Option Constant → Option ℤ
number_of (Some c) = Some (value_of c)
number_of None = None

-- the number that an expression stands for, if it is a constant
abbrev pub number_in : {A : Type 0} → Structs → Expr Name A → Option ℤ
number_in structs e = number_of (constant structs e)

-- a number with its sign changed, if there is one
abbrev pub negative : Option ℤ → Option ℤ
negative (Some c) = Some (neg_ℤ c)
negative None = None

-- a number alone
abbrev pub fixed : ℤ → Amount
fixed c = record { variable = None; number = c }

-- a variable and a number
abbrev pub moved : Option Name → Option ℤ → Option Amount
moved (Some n) (Some c) = Some (record { variable = Some n; number = c })
moved (Some n) None = None
moved None c = None

-- the first of two amounts, if there is one, or else the second
abbrev pub or_amount : Option Amount → Option Amount → Option Amount
or_amount None other = other
or_amount (Some a) other = Some a

-- `x + c`, `c + x` and `x - c`
abbrev pub sum_amount : {A : Type 0} → Structs → TreeOp → Expr Name A → Expr Name A → Option Amount
sum_amount structs op.Add e f = or_amount (moved (variable_in e) (number_in structs f)) (moved (variable_in f) (number_in structs e))
sum_amount structs op.Sub e f = moved (variable_in e) (negative (number_in structs f))
sum_amount structs _ e f = None

-- the amount that a node is, if it is a variable, a sum or a difference
abbrev pub amount_in_form : {A : Type 0} → Structs → Node-F Name A (Limits Name A) (Node Name A) (Expr Name A) → Option Amount
amount_in_form structs (Node-F.Name n) = moved (Some n) (Some (pos 0))
amount_in_form structs (Node-F.Bin o e f) = sum_amount structs o e f
amount_in_form structs _ = None

-- the amount of a constant, or else the one that the node of an expression is
abbrev pub amount_by : {A : Type 0} → Structs → Expr Name A → Option ℤ → Option Amount
amount_by structs e (Some c) = Some (fixed c)
amount_by {A} structs e None = amount_in_form structs (out-Node Name A e.node)

-- the amount that an expression is, if it is one
abbrev pub amount : {A : Type 0} → Structs → Expr Name A → Option Amount
amount structs e = amount_by structs e (number_in structs e)

-- whether a number is a multiple of a size
abbrev pub is_multiple : ℤ → ℕ → Bool
is_multiple c size = nat_lt 0 size && int_eq (int_rem c (pos size)) (pos 0)

-- how many elements of a size a constant number of bytes is, if it is a multiple of the size
abbrev pub scaled : ℕ → Option ℤ → Option Amount
scaled size (Some c) = if is_multiple c size then Some (fixed (int_div c (pos size))) else None
scaled size None = None

-- How many elements so many bytes are: if an element has one byte, as many, else a constant multiple of its size.
abbrev pub amount_of_bytes : {A : Type 0} → Structs → ℕ → Expr Name A → Option Amount
amount_of_bytes structs size e = if size == 1 then amount structs e else scaled size (number_in structs e)

-- how many elements of a size bounds count, by their form
abbrev pub amount_of_form : {A : Type 0} → Structs → ℕ → Limits-F Name A (Limits Name A) (Node Name A) (Expr Name A) → Option Amount
amount_of_form structs size (Limits-F.Count e at) = amount structs e
amount_of_form structs size (Limits-F.ByteCount e at) = amount_of_bytes structs size e
amount_of_form structs size (Limits-F.Between e f at) = None
amount_of_form structs size (Limits-F.Unknown at) = None

-- How many elements of a size bounds count, if they count some.
abbrev pub amount_of_limits : {A : Type 0} → Structs → ℕ → Limits Name A → Option Amount
amount_of_limits {A} structs size l = amount_of_form structs size (out-Limits Name A l)

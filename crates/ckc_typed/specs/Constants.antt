-- Constants: a number, a character, `EOF`, `sizeof(type)`, or `-` before a constant. A constant has a type, and its
-- value is its value in that type: `-1u` is 4,294,967,295, and `-2147483648` is an `unsigned`, since its number is.
use Rattle.std.specs.Prelude.{ℕ, ℤ, pos, nat_le, nat_lt, Bool, true, false, ◌&&◌, if◌then◌else◌, length, Option, None, Some, is_some, slice_get}
use Rattle.std.specs.List.{list_all}
use Rattle.ckc_base.specs.declared.arithmetic.BinOp.TheVariants.{Sub}
use Rattle.ckc_base.specs.Words.{applied, signed}
use Rattle.ckc_types.specs.declared.types.CType.{CType, CType-F, out-CType}
use Rattle.ckc_types.specs.declared.types.Structs.{Structs}
use Rattle.ckc_types.specs.Layout.{size, members_of}
use Rattle.ckc_syntax.specs.declared.tree.Name.{Name}
use Rattle.ckc_syntax.specs.declared.tree.TreeOp.{TreeOp}
use Rattle.ckc_syntax.specs.declared.tree.TreeOp.TheVariants as op
use Rattle.ckc_syntax.specs.declared.tree.Limits.{Limits-F}
use Rattle.ckc_syntax.specs.declared.tree.Node.{Node, Node-F, fold-Node}
use Rattle.ckc_syntax.specs.declared.tree.Expr.{Expr, Expr-F, fold-Expr}
use Rattle.ckc_typed.specs.declared.environment.Constant.{Constant}
use Rattle.ckc_typed.specs.Types.{type_written, is_scalar}

-- whether a type has a size, by its outermost part
abbrev pub is_laid_out_form : Structs → CType-F CType → Bool
is_laid_out_form structs (CType-F.Struct tag) =
    is_some (slice_get structs.shapes tag) && (nat_lt 0 (length (members_of structs tag)) && (nat_le (length (members_of structs tag)) 16384 && list_all (λ m. is_scalar m.ctype) (members_of structs tag)))
is_laid_out_form structs CType-F.Void = false
is_laid_out_form structs _ = true

-- an integer, a pointer, or a structure of 1 to 16,384 integers and pointers
abbrev pub is_laid_out : Structs → CType → Bool
is_laid_out structs t = is_laid_out_form structs (out-CType t)

-- the size of a type in bytes, 0 if it has none
abbrev pub size_of : Structs → CType → ℕ
size_of structs t = if is_laid_out structs t then size structs t else 0

-- `-` before a constant is a constant of the same type; no other operator makes one
abbrev pub negated : TreeOp → Option Constant → Option Constant
negated op.Minus (Some c) = Some (record { word = applied Sub 0 c.word; unsigned = c.unsigned })
negated _ _ = None

-- Bounds are no constants.
abbrev pub limits_constant : {A : Type 0} → Limits-F Name A (Unit {0}) (Option Constant) (Option Constant) → Unit {0}
limits_constant l = tt

-- the constant that a node is, from those that its parts are
abbrev pub node_constant : {A : Type 0} → Structs → Node-F Name A (Unit {0}) (Option Constant) (Option Constant) → Option Constant
node_constant structs (Node-F.Number n unsigned) = Some (record { word = n; unsigned = unsigned })
node_constant structs (Node-F.Size t) = Some (record { word = size_of structs (type_written t); unsigned = true })
node_constant structs (Node-F.Un o e) = negated o e
node_constant structs _ = None

-- the constant that an expression is, by its node
abbrev pub expr_constant : {A : Type 0} → Expr-F Name A (Unit {0}) (Option Constant) (Option Constant) → Option Constant
expr_constant e = e.node

-- the constant that an expression is
abbrev pub constant : {A : Type 0} → Structs → Expr Name A → Option Constant
constant {A} structs = fold-Expr Name A (Unit {0}) (Option Constant) (Option Constant) limits_constant (node_constant structs) expr_constant

abbrev pub constant_of_node : {A : Type 0} → Structs → Node Name A → Option Constant
constant_of_node {A} structs = fold-Node Name A (Unit {0}) (Option Constant) (Option Constant) limits_constant (node_constant structs) expr_constant

-- the number that a constant stands for
abbrev pub value_of : Constant → ℤ
value_of c = if c.unsigned then pos c.word else signed c.word

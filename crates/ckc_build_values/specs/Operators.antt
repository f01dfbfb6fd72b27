-- Operators with what their operands mean (ISO C11, 6.5.3 to 6.5.14; Checked C specification 0.9, section 3, on pointer
-- arithmetic).
use Rattle.std.specs.Prelude.{ℕ, ◌==◌, Bool, true, false, not, ◌&&◌, if◌then◌else◌}
use Rattle.ckc_base.specs.declared.places.Pos.{Pos}
use Rattle.ckc_types.specs.declared.types.CType.{CType}
use Rattle.ckc_types.specs.declared.types.Structs.{Structs}
use Rattle.ckc_syntax.specs.declared.tree.TreeOp.{TreeOp}
use Rattle.ckc_syntax.specs.declared.tree.TreeOp.TheVariants as op
use Rattle.ckc_typed.specs.Types.{is_char, is_pointer, kind_of}
use Rattle.ckc_typed.specs.Declarations.{is_checked_kind}
use Rattle.ckc_typed.specs.Operands.{same_element}
use Rattle.ckc_source.specs.declared.expr.Operation.TheVariants as operation
use Rattle.ckc_source.specs.declared.expr.Shift.{Shift}
use Rattle.ckc_source.specs.Code.{Expr, Number, Moved, Added, Binary, And, Or, Narrow, Bare}
use Rattle.ckc_build_values.specs.Kinds.{integer_of, is_signed, size_behind}

-- What has no meaning of its own has the number 0 in its place; a typed text has none of it.
abbrev pub outside : Expr
outside = Number 0

-- Operands are read as unsigned if one of them is (ISO C11, 6.3.1.8), and those of a shift if the left one is (6.5.7).
-- Addresses are unsigned.
abbrev pub is_signed_at : TreeOp → CType → CType → Bool
is_signed_at op.Shl t u = is_signed t
is_signed_at op.Shr t u = is_signed t
is_signed_at o t u = is_signed t && is_signed u

-- Conversion to an integer type: to `char` it keeps the lowest byte, to the others the word (ISO C11, 6.3.1.3). A
-- pointer is kept.
abbrev pub converted : CType → Expr → Expr
converted t e = if is_char t then Narrow e else e

-- A pointer that is cast to `T *` keeps its range if it points to T.
abbrev pub cast : CType → CType → Expr → Expr
cast t u e = if is_pointer t && not (same_element t u) then Bare e else converted t e

-- ISO C11, 6.5.3.3: `-e` is 0 - e, `+e` is e, `!e` is e == 0, and `~e` has each bit of e turned over.
abbrev pub unary : TreeOp → Pos → Expr → Expr
unary op.Minus at e = Binary operation.Sub true at (Number 0) e
unary op.Plus at e = e
unary op.Not at e = Binary operation.Eq true at e (Number 0)
unary op.Flip at e = Binary operation.Xor true at e (Number 0xFFFFFFFF)
unary _ at e = outside

-- ISO C11, 6.5.5 to 6.5.14; the unary operators and assignments are none of these
abbrev pub binary : TreeOp → Bool → Pos → Expr → Expr → Expr
binary op.OrElse is_signed at e f = Or e f
binary op.AndThen is_signed at e f = And e f
binary op.Or is_signed at e f = Binary operation.Or is_signed at e f
binary op.Xor is_signed at e f = Binary operation.Xor is_signed at e f
binary op.And is_signed at e f = Binary operation.And is_signed at e f
binary op.Eq is_signed at e f = Binary operation.Eq is_signed at e f
binary op.Ne is_signed at e f = Binary operation.Ne is_signed at e f
binary op.Lt is_signed at e f = Binary operation.Lt is_signed at e f
binary op.Le is_signed at e f = Binary operation.Le is_signed at e f
binary op.Gt is_signed at e f = Binary operation.Gt is_signed at e f
binary op.Ge is_signed at e f = Binary operation.Ge is_signed at e f
binary op.Shl is_signed at e f = Binary operation.Shl is_signed at e f
binary op.Shr is_signed at e f = Binary operation.Shr is_signed at e f
binary op.Add is_signed at e f = Binary operation.Add is_signed at e f
binary op.Sub is_signed at e f = Binary operation.Sub is_signed at e f
binary op.Mul is_signed at e f = Binary operation.Mul is_signed at e f
binary op.Div is_signed at e f = Binary operation.Div is_signed at e f
binary op.Rem is_signed at e f = Binary operation.Rem is_signed at e f
binary _ is_signed at e f = outside

-- ---- pointers

-- an index of a type that moves a pointer of a type
abbrev pub shift : Structs → CType → CType → Pos → Bool → Shift
shift structs t u at back = record {
  checked = is_checked_kind (kind_of t);
  at = at;
  size = size_behind structs t;
  index = integer_of u;
  back = back;
}

-- The difference of two pointers is that of their addresses, divided by the size of an element (ISO C11, 6.5.6).
abbrev pub distance : Structs → CType → Pos → Expr → Expr → Expr
distance structs t at e f = Binary operation.Div true at (Binary operation.Sub true at e f) (Number (size_behind structs t))

-- an operator with operands of two types; `p + e`, `e + p`, `p - e` and `p - q` are those of pointers
abbrev pub of_operands : Structs → TreeOp → CType → CType → Pos → Expr → Expr → Expr
of_operands structs op.Add t u at e f =
    if is_pointer t then Moved (shift structs t u at false) e f
    else (if is_pointer u then Added (shift structs u t at false) e f else binary op.Add (is_signed_at op.Add t u) at e f)
of_operands structs op.Sub t u at e f =
    if is_pointer t then (if is_pointer u then distance structs t at e f else Moved (shift structs t u at true) e f)
    else binary op.Sub (is_signed_at op.Sub t u) at e f
of_operands structs o t u at e f = binary o (is_signed_at o t u) at e f

-- So many bytes are as many elements as they have room for.
abbrev pub elements_in : ℕ → CType → Pos → Expr → Expr
elements_in size t at e = if size == 1 then e else Binary operation.Div (is_signed t) at e (Number size)

-- What is made of parts is little deeper than the parts.
use Rattle.std.proofs.Common.{ℕ, ◌+◌, ◌≤◌, max, Bool, true, false, List, arith}
use Rattle.std.specs.Prelude.{◌==◌, not, ◌&&◌, if◌then◌else◌, Option, Some, None}
use Rattle.ckc_base.specs.declared.places.Pos.{Pos}
use Rattle.ckc_types.specs.declared.types.Kind.{Kind}
use Rattle.ckc_types.specs.declared.types.Kind.TheVariants as kind
use Rattle.ckc_types.specs.declared.types.CType.{CType}
use Rattle.ckc_types.specs.declared.types.Structs.{Structs}
use Rattle.ckc_syntax.specs.declared.tree.Name.{Name}
use Rattle.ckc_syntax.specs.declared.tree.Name.TheVariants as name
use Rattle.ckc_syntax.specs.declared.tree.TreeOp.{TreeOp}
use Rattle.ckc_syntax.specs.declared.tree.TreeOp.TheVariants as op
use Rattle.ckc_typed.specs.declared.environment.Variable.{Variable}
use Rattle.ckc_typed.specs.declared.typed.Note.{Note}
use Rattle.ckc_typed.specs.declared.typed.Range.{Range}
use Rattle.ckc_typed.specs.declared.typed.Range.TheVariants as range
use Rattle.ckc_typed.specs.declared.typed.Typed.{Typed}
use Rattle.ckc_typed.specs.Types.{is_char, is_pointer}
use Rattle.ckc_typed.specs.Operands.{same_element}
use Rattle.ckc_source.specs.declared.expr.Count.{Count}
use Rattle.ckc_source.specs.declared.expr.Operation.TheVariants as operation
use Rattle.ckc_source.specs.Code.{Expr, Number, Moved, Added, Binary, Narrow, Bare}
use Rattle.ckc_checks_operands.specs.Compilable.{depth}
use Rattle.ckc_build_values.specs.Kinds.{is_signed}
use Rattle.ckc_build_values.specs.Names.{array_of, count_of_static}
use Rattle.ckc_build_values.specs.Operators.{converted, cast, unary, binary, is_signed_at, shift, distance, of_operands, elements_in}
use Rattle.ckc_build_values.specs.Places.{Place, object_place, name_place, read_at, address_at}
use Rattle.ckc_build_values.specs.Expressions.{local_in, static_in, named}

-- how deep the pointer and the index of a place are
abbrev pub place_depth : Place → ℕ
place_depth q = max (depth q.pointer) (depth q.index)

pub name_place_deep : (p : Typed) (t : CType) (at : Pos) (n : Name) → place_depth (name_place p t at n) ≤ 1
name_place_deep p t at (name.Static k) = omega arith
name_place_deep p t at n = omega arith

pub read_deep : (structs : Structs) (t : CType) (n : Option Count) (q : Place) → depth (read_at structs t n q) ≤ 1 + place_depth q
read_deep structs t (Some n) q = omega arith
read_deep structs t None q = omega arith

pub address_deep : (structs : Structs) (t : CType) (q : Place) → depth (address_at structs t q) ≤ 1 + place_depth q
address_deep structs t q = omega arith

-- ---- names

local_deep : (p : Typed) (locals : List Variable) (t : CType) (k : ℕ) (l : Range) → depth (local_in p locals t k l) ≤ 2
local_deep p locals t k (range.Known l u) = omega arith
local_deep p locals t k range.Missing = omega arith
local_deep p locals t k range.Any = omega arith

static_deep : (p : Typed) (t : CType) (at : Pos) (k : ℕ) (array : Option Kind) → depth (static_in p t at k array) ≤ 2
static_deep p t at k None = omega (arith, read_deep p.layout t (count_of_static p t (name.Static k)) (object_place p t at k))
static_deep p t at k (Some kind.Raw) = omega arith
static_deep p t at k (Some kind.One) = omega arith
static_deep p t at k (Some kind.Arr) = omega arith
static_deep p t at k (Some kind.Nt) = omega arith

pub named_deep : (p : Typed) (locals : List Variable) (a : Note) (at : Pos) (n : Name) → depth (named p locals a at n) ≤ 2
named_deep p locals a at (name.Local k) = local_deep p locals a.ctype k a.range
named_deep p locals a at (name.Static k) = static_deep p a.ctype at k (array_of p k)
named_deep p locals a at n = omega arith

-- ---- operators

narrow_by : (is_narrow : Bool) (e : Expr) → depth (if is_narrow then Narrow e else e) ≤ 1 + depth e
narrow_by true e = omega arith
narrow_by false e = omega arith

pub converted_deep : (t : CType) (e : Expr) → depth (converted t e) ≤ 1 + depth e
converted_deep t e = narrow_by (is_char t) e

cast_by : (is_bare : Bool) (t : CType) (e : Expr) → depth (if is_bare then Bare e else converted t e) ≤ 1 + depth e
cast_by true t e = omega arith
cast_by false t e = converted_deep t e

pub cast_deep : (t u : CType) (e : Expr) → depth (cast t u e) ≤ 1 + depth e
cast_deep t u e = cast_by (is_pointer t && not (same_element t u)) t e

pub unary_deep : (o : TreeOp) (at : Pos) (e : Expr) → depth (unary o at e) ≤ 2 + depth e
unary_deep op.Minus at e = omega arith
unary_deep op.Plus at e = omega arith
unary_deep op.Not at e = omega arith
unary_deep op.Flip at e = omega arith
unary_deep o at e = omega arith

binary_deep : (o : TreeOp) (s : Bool) (at : Pos) (e f : Expr) → depth (binary o s at e f) ≤ 1 + max (depth e) (depth f)
binary_deep op.OrElse s at e f = omega arith
binary_deep op.AndThen s at e f = omega arith
binary_deep op.Or s at e f = omega arith
binary_deep op.Xor s at e f = omega arith
binary_deep op.And s at e f = omega arith
binary_deep op.Eq s at e f = omega arith
binary_deep op.Ne s at e f = omega arith
binary_deep op.Lt s at e f = omega arith
binary_deep op.Le s at e f = omega arith
binary_deep op.Gt s at e f = omega arith
binary_deep op.Ge s at e f = omega arith
binary_deep op.Shl s at e f = omega arith
binary_deep op.Shr s at e f = omega arith
binary_deep op.Add s at e f = omega arith
binary_deep op.Sub s at e f = omega arith
binary_deep op.Mul s at e f = omega arith
binary_deep op.Div s at e f = omega arith
binary_deep op.Rem s at e f = omega arith
binary_deep o s at e f = omega arith

add_by : (left right : Bool) (structs : Structs) (t u : CType) (at : Pos) (e f : Expr)
    → depth (if left then Moved (shift structs t u at false) e f
    else (if right then Added (shift structs u t at false) e f else binary op.Add (is_signed_at op.Add t u) at e f)) ≤ 2 + max (depth e) (depth f)
add_by true right structs t u at e f = omega arith
add_by false true structs t u at e f = omega arith
add_by false false structs t u at e f = omega (arith, binary_deep op.Add (is_signed_at op.Add t u) at e f)

sub_by : (left right : Bool) (structs : Structs) (t u : CType) (at : Pos) (e f : Expr)
    → depth (if left then (if right then distance structs t at e f else Moved (shift structs t u at true) e f)
    else binary op.Sub (is_signed_at op.Sub t u) at e f) ≤ 2 + max (depth e) (depth f)
sub_by true true structs t u at e f = omega arith
sub_by true false structs t u at e f = omega arith
sub_by false right structs t u at e f = omega (arith, binary_deep op.Sub (is_signed_at op.Sub t u) at e f)

pub operands_deep : (structs : Structs) (o : TreeOp) (t u : CType) (at : Pos) (e f : Expr) → depth (of_operands structs o t u at e f) ≤ 2 + max (depth e) (depth f)
operands_deep structs op.Add t u at e f = add_by (is_pointer t) (is_pointer u) structs t u at e f
operands_deep structs op.Sub t u at e f = sub_by (is_pointer t) (is_pointer u) structs t u at e f
operands_deep structs o t u at e f = omega (arith, binary_deep o (is_signed_at o t u) at e f)

elements_by : (is_one : Bool) (s : Bool) (at : Pos) (e : Expr) (size : ℕ) → depth (if is_one then e else Binary operation.Div s at e (Number size)) ≤ 2 + depth e
elements_by true s at e size = omega arith
elements_by false s at e size = omega arith

pub elements_in_deep : (size : ℕ) (t : CType) (at : Pos) (e : Expr) → depth (elements_in size t at e) ≤ 2 + depth e
elements_in_deep size t at e = elements_by (size == 1) (is_signed t) at e size

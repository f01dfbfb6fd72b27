-- The table of types: what an operator makes of operands of which types (ISO C11, 6.5.2 to 6.5.15, without the wider
-- integers and floating types; Checked C specification 0.9, section 2, on checked pointers). None is a combination
-- that is in no row.
use Rattle.std.specs.Prelude.{Bool, true, false, not, ◌&&◌, ◌||◌, if◌then◌else◌, Option, None, Some}
use Rattle.ckc_types.specs.declared.types.Kind.{Kind}
use Rattle.ckc_types.specs.declared.types.Kind.TheVariants as kind
use Rattle.ckc_types.specs.declared.types.CType.{CType, CType-F, out-CType}
use Rattle.ckc_types.specs.declared.types.CType.TheVariants as ctype
use Rattle.ckc_types.specs.declared.types.Structs.{Structs}
use Rattle.ckc_syntax.specs.declared.tree.Name.{Name}
use Rattle.ckc_syntax.specs.declared.tree.TreeOp.{TreeOp}
use Rattle.ckc_syntax.specs.declared.tree.TreeOp.TheVariants as op
use Rattle.ckc_typed.specs.Types.{is_integer, is_pointer, is_void, is_unsigned, is_scalar, element_of, kind_of, is_object_type, same_type}
use Rattle.ckc_typed.specs.Environment.{member_type}

-- `char` becomes `int` if it is an operand.
abbrev pub promoted : CType → CType
promoted t = if is_unsigned t then ctype.Unsigned else ctype.Int

-- `unsigned` if one operand is, else `int`
abbrev pub common : CType → CType → CType
common t u = if is_unsigned t || is_unsigned u then ctype.Unsigned else ctype.Int

-- whether arithmetic moves pointers of a kind: all but `_Ptr`
abbrev pub is_moved_kind : Option Kind → Bool
is_moved_kind (Some kind.Raw) = true
is_moved_kind (Some kind.One) = false
is_moved_kind (Some kind.Arr) = true
is_moved_kind (Some kind.Nt) = true
is_moved_kind None = false

-- A pointer that arithmetic moves is of any kind but `_Ptr`.
abbrev pub is_moved : CType → Bool
is_moved t = is_moved_kind (kind_of t)

-- pointers to one element type
abbrev pub same_element : CType → CType → Bool
same_element t u = is_pointer t && (is_pointer u && same_type (element_of t) (element_of u))

-- `- + ~` on an integer
abbrev pub sign_type : CType → Option CType
sign_type t = if is_integer t then Some (promoted t) else None

-- `!` on a scalar
abbrev pub truth_type : CType → Option CType
truth_type t = if is_scalar t then Some ctype.Int else None

-- `*p` is the element. `NULL` has none.
abbrev pub target_type : CType → Option CType
target_type t = if is_pointer t && not (is_void (element_of t)) then Some (element_of t) else None

-- `* / % & | ^` on integers
abbrev pub arithmetic_type : CType → CType → Option CType
arithmetic_type t u = if is_integer t && is_integer u then Some (common t u) else None

-- `<< >>` on integers has the type of the left one
abbrev pub shift_type : CType → CType → Option CType
shift_type t u = if is_integer t && is_integer u then Some (promoted t) else None

-- `&& ||` on scalars
abbrev pub both_type : CType → CType → Option CType
both_type t u = if is_scalar t && is_scalar u then Some ctype.Int else None

-- `p + e`, `e + p`, or `+` on integers
abbrev pub sum_type : CType → CType → Option CType
sum_type t u = if is_moved t && is_integer u then Some t else (if is_integer t && is_moved u then Some u else arithmetic_type t u)

-- the difference of two pointers to one element type
abbrev pub distance_type : CType → CType → Option CType
distance_type t u = if same_element t u && not (is_void (element_of t)) then Some ctype.Int else None

-- `p - e`, `p - q`, or `-` on integers
abbrev pub difference_type : CType → CType → Option CType
difference_type t u = if is_moved t && is_integer u then Some t else (if is_pointer t then distance_type t u else arithmetic_type t u)

-- Compared are integers, pointers to one element type, or a pointer and null.
abbrev pub is_compared : CType → Bool → CType → Bool → Bool
is_compared t null_t u null_u = (is_integer t && is_integer u) || (same_element t u || ((is_pointer t && null_u) || (null_t && is_pointer u)))

-- the type of `==`, `!=`, `<`, `<=`, `>` and `>=`, which is `int`
abbrev pub comparison_type : CType → Bool → CType → Bool → Option CType
comparison_type t null_t u null_u = if is_compared t null_t u null_u then Some ctype.Int else None

-- `p[e]` is the element
abbrev pub index_type : CType → CType → Option CType
index_type t u = if is_moved t && is_integer u then Some (element_of t) else None

-- a scalar, and then two integers between which `? :` chooses
abbrev pub choice_type : CType → CType → CType → Option CType
choice_type t u v = if is_scalar t then arithmetic_type u v else None

-- the type of a member, by the outermost part of the type of its structure
abbrev pub member_in : Structs → Name → CType-F CType → Option CType
member_in structs n (CType-F.Struct tag) = member_type structs tag n
member_in structs n _ = None

-- `x.m` of a structure
abbrev pub dot_type : Structs → CType → Name → Option CType
dot_type structs t n = member_in structs n (out-CType t)

-- `p->m` of a pointer to a structure; what is no pointer has no element that is a structure
abbrev pub arrow_type : Structs → CType → Name → Option CType
arrow_type structs t n = dot_type structs (element_of t) n

-- `sizeof(type)`
abbrev pub size_type : CType → Option CType
size_type t = if is_object_type t then Some ctype.Unsigned else None

-- whether a pointer is unchecked
abbrev pub is_raw_kind : Option Kind → Bool
is_raw_kind (Some kind.Raw) = true
is_raw_kind _ = false

-- A cast goes from integer to integer, and from any pointer or null to an unchecked pointer.
abbrev pub is_cast : CType → CType → Bool → Bool
is_cast t u null_u = is_object_type t && ((is_integer t && is_integer u) || (is_raw_kind (kind_of t) && (is_pointer u || null_u)))

-- The rows by operator, with the type of each operand and whether it is null. A unary operator has no row here, and
-- neither has an assignment.
abbrev pub binary_type : TreeOp → CType → Bool → CType → Bool → Option CType
binary_type op.OrElse t m u n = both_type t u
binary_type op.AndThen t m u n = both_type t u
binary_type op.Or t m u n = arithmetic_type t u
binary_type op.Xor t m u n = arithmetic_type t u
binary_type op.And t m u n = arithmetic_type t u
binary_type op.Eq t m u n = comparison_type t m u n
binary_type op.Ne t m u n = comparison_type t m u n
binary_type op.Lt t m u n = comparison_type t m u n
binary_type op.Le t m u n = comparison_type t m u n
binary_type op.Gt t m u n = comparison_type t m u n
binary_type op.Ge t m u n = comparison_type t m u n
binary_type op.Shl t m u n = shift_type t u
binary_type op.Shr t m u n = shift_type t u
binary_type op.Add t m u n = sum_type t u
binary_type op.Sub t m u n = difference_type t u
binary_type op.Mul t m u n = arithmetic_type t u
binary_type op.Div t m u n = arithmetic_type t u
binary_type op.Rem t m u n = arithmetic_type t u
binary_type _ t m u n = None

-- A binary operator has no row here, and neither have `++` and `--`, and `&`, which looks at more than the type of its
-- operand.
abbrev pub unary_type : TreeOp → CType → Option CType
unary_type op.Minus t = sign_type t
unary_type op.Plus t = sign_type t
unary_type op.Flip t = sign_type t
unary_type op.Not t = truth_type t
unary_type op.Deref t = target_type t
unary_type _ t = None

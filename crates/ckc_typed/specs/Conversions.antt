-- Conversions at an assignment, an initialisation, an argument and a return (ISO C11, 6.5.16.1; Checked C
-- specification 0.9, section 2, on conversions of pointer types, and section 3, on bounds casts).
use Rattle.std.specs.Prelude.{◌==◌, Bool, true, false, not, ◌&&◌, ◌||◌, Option, Some, None, is_some}
use Rattle.ckc_types.specs.declared.types.Kind.{Kind}
use Rattle.ckc_types.specs.declared.types.Kind.TheVariants as kind
use Rattle.ckc_types.specs.declared.types.CType.{CType}
use Rattle.ckc_syntax.specs.declared.tree.Name.{Name}
use Rattle.ckc_syntax.specs.declared.tree.Node.{Node-F, out-Node}
use Rattle.ckc_typed.specs.declared.typed.Note.{Note}
use Rattle.ckc_typed.specs.Trees.{NotedExpr, NotedLimits}
use Rattle.ckc_typed.specs.Types.{is_integer, is_pointer, is_char, element_of, kind_of, is_object_type}
use Rattle.ckc_typed.specs.Operands.{same_element, is_raw_kind}

-- whether a node is `NULL` or the number 0
abbrev pub is_null_form : {A L M E : Type 0} → Node-F Name A L M E → Bool
is_null_form Node-F.Null = true
is_null_form (Node-F.Number n unsigned) = n == 0
is_null_form _ = false

-- whether a node is a string literal
abbrev pub is_string_form : {A L M E : Type 0} → Node-F Name A L M E → Bool
is_string_form (Node-F.Text bytes) = true
is_string_form _ = false

-- whether a node is a `calloc`
abbrev pub is_allocation_form : {A L M E : Type 0} → Node-F Name A L M E → Bool
is_allocation_form (Node-F.Calloc t e u) = true
is_allocation_form _ = false

-- `NULL` and the number 0 are null. The number has the type `int` all the same.
abbrev pub is_null : NotedExpr → Bool
is_null e = is_null_form (out-Node Name Note e.node)

-- whether an expression is an unchecked pointer
abbrev pub is_unchecked_pointer : NotedExpr → Bool
is_unchecked_pointer e = is_raw_kind (kind_of e.note.ctype)

-- whether an expression is a string literal
abbrev pub is_string : NotedExpr → Bool
is_string e = is_string_form (out-Node Name Note e.node)

-- whether an expression is a `calloc`
abbrev pub is_allocation : NotedExpr → Bool
is_allocation e = is_allocation_form (out-Node Name Note e.node)

-- the kinds of pointer to which one of the first kind converts
abbrev pub kind_converts : Kind → Kind → Bool
kind_converts kind.Raw kind.Raw = true
kind_converts kind.Raw kind.One = true
kind_converts kind.Raw kind.Arr = true
kind_converts kind.One kind.One = true
kind_converts kind.One kind.Arr = true
kind_converts kind.Arr kind.Arr = true
kind_converts kind.Arr kind.One = true
kind_converts kind.Nt kind.One = true
kind_converts kind.Nt kind.Arr = true
kind_converts kind.Nt kind.Nt = true
kind_converts _ _ = false

-- as above, but not from an unchecked pointer
abbrev pub kind_is_tested : Kind → Kind → Bool
kind_is_tested kind.Raw k = false
kind_is_tested j k = kind_converts j k

-- whether two types are those of pointers, and the kind of the first may become that of the second
abbrev pub kinds_allow : (Kind → Kind → Bool) → Option Kind → Option Kind → Bool
kinds_allow allowed (Some j) (Some k) = allowed j k
kinds_allow allowed _ _ = false

-- whether a pointer is an `_Nt_array_ptr`
abbrev pub is_terminated_kind : Option Kind → Bool
is_terminated_kind (Some kind.Nt) = true
is_terminated_kind _ = false

-- A string literal goes to `_Nt_array_ptr<char>` in any mode.
abbrev pub takes_string : CType → NotedExpr → Bool
takes_string t e = is_string e && (is_terminated_kind (kind_of t) && is_char (element_of t))

-- The result of `calloc<T>` goes to any kind of pointer to T.
abbrev pub takes_allocation : CType → NotedExpr → Bool
takes_allocation t e = is_allocation e && same_element t e.note.ctype

-- whether an expression is a pointer to the same type, and its kind may become that of t
abbrev pub takes_pointer : (Kind → Kind → Bool) → CType → NotedExpr → Bool
takes_pointer allowed t e = same_element t e.note.ctype && kinds_allow allowed (kind_of e.note.ctype) (kind_of t)

-- whether an expression may become a pointer of type t: null, a string, a `calloc` or another pointer
abbrev pub pointer_takes : (Kind → Kind → Bool) → CType → NotedExpr → Bool
pointer_takes allowed t e = is_null e || (takes_string t e || (takes_allocation t e || takes_pointer allowed t e))

-- whether an expression converts to a type: an integer to integers, null to any pointer, and pointers as above
abbrev pub converts : CType → NotedExpr → Bool
converts t e = (is_integer t && is_integer e.note.ctype) || (is_pointer t && pointer_takes kind_converts t e)

-- whether `_Dynamic_bounds_cast` to the type takes the expression
abbrev pub is_tested : CType → NotedExpr → Bool
is_tested t e = is_pointer t && pointer_takes kind_is_tested t e

-- `_Assume_bounds_cast` takes any pointer to the same element type.
abbrev pub is_trusted : CType → NotedExpr → Bool
is_trusted t e = same_element t e.note.ctype

-- whether a cast to a pointer of the kind has limits exactly when it needs them
abbrev pub limits_fit_kind : Option Kind → Bool → Bool
limits_fit_kind (Some kind.Raw) there = false
limits_fit_kind (Some kind.One) there = not there
limits_fit_kind (Some kind.Arr) there = there
limits_fit_kind (Some kind.Nt) there = there
limits_fit_kind None there = false

-- A bounds cast goes to a checked pointer type, to `_Ptr` without limits and to the other two with them. That the
-- limits are `count` or `byte_count` is a matter of their form.
abbrev pub is_bounds_cast : CType → Option NotedLimits → Bool
is_bounds_cast t limits = is_object_type t && limits_fit_kind (kind_of t) (is_some limits)

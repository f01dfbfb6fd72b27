-- Types (ISO C11, 6.2.5; Checked C specification 0.9, section 2): what a written type is, which are the types of
-- objects, and when two are the same.
pub use Rattle.ckc_types.specs.Same.{same_kind, same_form, same_parts, same_type}
use Rattle.std.specs.Prelude.{Bool, true, false, ◌&&◌, ◌||◌, Option, None, Some, is_some}
use Rattle.ckc_types.specs.declared.types.Kind.{Kind}
use Rattle.ckc_types.specs.declared.types.Kind.TheVariants as kind
use Rattle.ckc_types.specs.declared.types.CType.{CType, CType-F, fold-CType, out-CType}
use Rattle.ckc_types.specs.declared.types.CType.TheVariants as ctype
use Rattle.ckc_syntax.specs.declared.tree.Name.{Name}
use Rattle.ckc_syntax.specs.declared.tree.Name.TheVariants as name
use Rattle.ckc_syntax.specs.declared.tree.TypeTree.{TypeTree-F, fold-TypeTree}
use Rattle.ckc_typed.specs.Trees.{TypeTree}

-- A structure is given by the number of its tag. No other name is a tag.
abbrev pub struct_of : Name → CType
struct_of (name.Tag k) = ctype.Struct k
struct_of _ = ctype.Void

-- the type that is written, from that of its inner type
abbrev pub written_parts : TypeTree-F Name CType → CType
written_parts TypeTree-F.Int = ctype.Int
written_parts TypeTree-F.Unsigned = ctype.Unsigned
written_parts TypeTree-F.Char = ctype.Char
written_parts TypeTree-F.Void = ctype.Void
written_parts (TypeTree-F.Struct n pos) = struct_of n
written_parts (TypeTree-F.Raw t pos) = ctype.Pointer kind.Raw t
written_parts (TypeTree-F.One t) = ctype.Pointer kind.One t
written_parts (TypeTree-F.Arr t) = ctype.Pointer kind.Arr t
written_parts (TypeTree-F.Nt t) = ctype.Pointer kind.Nt t

-- the type that is written, without its places
abbrev pub type_written : TypeTree → CType
type_written = fold-TypeTree Name CType written_parts

-- whether a type is `int`, `unsigned` or `char`, by its outermost part
abbrev pub is_integer_form : {X : Type 0} → CType-F X → Bool
is_integer_form CType-F.Int = true
is_integer_form CType-F.Unsigned = true
is_integer_form CType-F.Char = true
is_integer_form CType-F.Void = false
is_integer_form (CType-F.Struct tag) = false
is_integer_form (CType-F.Pointer k t) = false

-- whether a type is a pointer of any kind, by its outermost part
abbrev pub is_pointer_form : {X : Type 0} → CType-F X → Bool
is_pointer_form (CType-F.Pointer k t) = true
is_pointer_form _ = false

-- whether a type is `void`, by its outermost part
abbrev pub is_void_form : {X : Type 0} → CType-F X → Bool
is_void_form CType-F.Void = true
is_void_form _ = false

-- whether a type is `unsigned`, by its outermost part
abbrev pub is_unsigned_form : {X : Type 0} → CType-F X → Bool
is_unsigned_form CType-F.Unsigned = true
is_unsigned_form _ = false

-- whether a type is `char`, by its outermost part
abbrev pub is_char_form : {X : Type 0} → CType-F X → Bool
is_char_form CType-F.Char = true
is_char_form _ = false

-- whether a type is `int`, `unsigned` or `char`
abbrev pub is_integer : CType → Bool
is_integer t = is_integer_form (out-CType t)

-- whether a type is a pointer of any kind, checked or not
abbrev pub is_pointer : CType → Bool
is_pointer t = is_pointer_form (out-CType t)

-- whether a type is `void`
abbrev pub is_void : CType → Bool
is_void t = is_void_form (out-CType t)

-- whether a type is `unsigned`; a `char` is not
abbrev pub is_unsigned : CType → Bool
is_unsigned t = is_unsigned_form (out-CType t)

-- whether a type is `char`
abbrev pub is_char : CType → Bool
is_char t = is_char_form (out-CType t)

-- whether a type is that of an integer or of a pointer
abbrev pub is_scalar : CType → Bool
is_scalar t = is_integer t || is_pointer t

-- what a pointer points to, by its outermost part; `void` for what is no pointer
abbrev pub element_in : CType-F CType → CType
element_in (CType-F.Pointer k t) = t
element_in _ = ctype.Void

-- what a pointer points to
abbrev pub element_of : CType → CType
element_of t = element_in (out-CType t)

-- the kind of a pointer, by its outermost part
abbrev pub kind_in : CType-F CType → Option Kind
kind_in (CType-F.Pointer k t) = Some k
kind_in _ = None

-- the kind of a pointer
abbrev pub kind_of : CType → Option Kind
kind_of t = kind_in (out-CType t)

-- whether a pointer type is an integer type, which it never is; none if no object may have it
abbrev pub pointer_parts : Kind → Option Bool → Option Bool
pointer_parts kind.Nt (Some true) = Some false
pointer_parts kind.Nt _ = None
pointer_parts _ (Some integer) = Some false
pointer_parts _ None = None

-- whether a type is an integer type, by its outermost part; none if no object may have it
abbrev pub object_parts : CType-F (Option Bool) → Option Bool
object_parts CType-F.Int = Some true
object_parts CType-F.Unsigned = Some true
object_parts CType-F.Char = Some true
object_parts CType-F.Void = None
object_parts (CType-F.Struct tag) = Some false
object_parts (CType-F.Pointer k t) = pointer_parts k t

-- Whether a type is an integer type; none if it is no type of an object. `void` is none, and neither is an
-- `_Nt_array_ptr` to anything but an integer type.
abbrev pub integer_object : CType → Option Bool
integer_object = fold-CType (Option Bool) object_parts

-- whether objects may have a type
abbrev pub is_object_type : CType → Bool
is_object_type t = is_some (integer_object t)

-- whether a type is that of an integer or of a pointer, and objects may have it
abbrev pub is_scalar_type : CType → Bool
is_scalar_type t = is_scalar t && is_object_type t

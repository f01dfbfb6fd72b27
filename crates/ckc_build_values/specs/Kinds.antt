-- What evaluation needs of types (ISO C11, 6.2.5; Checked C specification 0.9, section 2).
use Rattle.std.specs.Prelude.{ℕ, pos, Bool, not, ◌&&◌, Option, None, Some}
use Rattle.ckc_base.specs.declared.arithmetic.Width.{Width}
use Rattle.ckc_base.specs.declared.arithmetic.Width.TheVariants.{Byte, Word}
use Rattle.std.specs.Prelude.{if◌then◌else◌}
use Rattle.ckc_types.specs.declared.types.Kind.{Kind}
use Rattle.ckc_types.specs.declared.types.Kind.TheVariants as kind
use Rattle.ckc_types.specs.declared.types.CType.{CType, CType-F, out-CType}
use Rattle.ckc_types.specs.declared.types.Structs.{Structs}
use Rattle.ckc_typed.specs.Types.{is_integer, is_unsigned, is_char, kind_of, element_of}
use Rattle.ckc_typed.specs.Constants.{size_of}
use Rattle.ckc_typed.specs.Conversions.{is_terminated_kind}
use Rattle.ckc_source.specs.declared.expr.Integer.{Integer}
use Rattle.ckc_source.specs.declared.expr.Integer.TheVariants.{Int, Unsigned, Char}
use Rattle.ckc_source.specs.declared.expr.Through.{Through}
use Rattle.ckc_source.specs.declared.expr.Through.TheVariants as through
use Rattle.ckc_source.specs.declared.expr.Pointee.{Pointee}
use Rattle.ckc_source.specs.declared.expr.Count.{Count}
use Rattle.ckc_source.specs.declared.expr.Count.TheVariants as count

-- ---- integers

-- the type of an integer by the outermost part of the type, `int` for what is none
abbrev pub integer_in : CType-F CType → Integer
integer_in CType-F.Int = Int
integer_in CType-F.Unsigned = Unsigned
integer_in CType-F.Char = Char
integer_in CType-F.Void = Int
integer_in (CType-F.Struct tag) = Int
integer_in (CType-F.Pointer k t) = Int

-- the type of an integer, `int` for what is none
abbrev pub integer_of : CType → Integer
integer_of t = integer_in (out-CType t)

-- An integer is read as signed unless it is `unsigned`: a `char` becomes an `int` (ISO C11, 6.3.1.1).
abbrev pub is_signed : CType → Bool
is_signed t = is_integer t && not (is_unsigned t)

-- how many bytes a load or store of an object of the type moves
abbrev pub width_of : CType → Width
width_of t = if is_char t then Byte else Word

-- ---- pointers

-- how an access through a pointer of a kind is judged
abbrev pub through_kind : Option Kind → Through
through_kind (Some kind.Raw) = through.Raw
through_kind (Some kind.One) = through.One
through_kind (Some kind.Arr) = through.Array
through_kind (Some kind.Nt) = through.Terminated
through_kind None = through.Raw

-- How many elements a pointer has of which no bounds are written: a `_Ptr` one, an `_Nt_array_ptr` none before its
-- terminator, and of an `_Array_ptr` it is not known (Checked C specification 0.9, section 3.1).
abbrev pub count_of_kind : Option Kind → Option Count
count_of_kind (Some kind.Raw) = None
count_of_kind (Some kind.One) = Some (count.Fixed (pos 1))
count_of_kind (Some kind.Arr) = None
count_of_kind (Some kind.Nt) = Some (count.Fixed (pos 0))
count_of_kind None = None

-- the size of what a pointer points to
abbrev pub size_behind : Structs → CType → ℕ
size_behind structs t = size_of structs (element_of t)

-- what a pointer points to
abbrev pub pointee_of : Structs → CType → Pointee
pointee_of structs t = record { element = element_of t; size = size_behind structs t; terminated = is_terminated_kind (kind_of t) }

-- ---- structures

-- the tag of a structure by the outermost part of the type, 0 for what is none
abbrev pub tag_in : CType-F CType → ℕ
tag_in CType-F.Int = 0
tag_in CType-F.Unsigned = 0
tag_in CType-F.Char = 0
tag_in CType-F.Void = 0
tag_in (CType-F.Struct tag) = tag
tag_in (CType-F.Pointer k t) = 0

-- the tag of a structure, 0 for what is none
abbrev pub tag_of : CType → ℕ
tag_of t = tag_in (out-CType t)

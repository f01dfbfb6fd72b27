-- When two types are the same (ISO C11, 6.2.7, on compatible types; Checked C specification 0.9, section 2, on the
-- kinds of pointers): pointers of one kind to the same type, and structures with one tag.
use Rattle.std.specs.Prelude.{◌==◌, Bool, true, false, ◌&&◌}
use Rattle.ckc_types.specs.declared.types.Kind.{Kind}
use Rattle.ckc_types.specs.declared.types.Kind.TheVariants as kind
use Rattle.ckc_types.specs.declared.types.CType.{CType, CType-F, fold-CType, out-CType}

-- whether two pointers are both `*`, both `_Ptr`, both `_Array_ptr` or both `_Nt_array_ptr`
abbrev pub same_kind : Kind → Kind → Bool
same_kind kind.Raw kind.Raw = true
same_kind kind.One kind.One = true
same_kind kind.Arr kind.Arr = true
same_kind kind.Nt kind.Nt = true
same_kind _ _ = false

-- whether two types are the same, by a test of the types that they point to
abbrev pub same_form : CType-F (CType → Bool) → CType-F CType → Bool
same_form CType-F.Int CType-F.Int = true
same_form CType-F.Unsigned CType-F.Unsigned = true
same_form CType-F.Char CType-F.Char = true
same_form CType-F.Void CType-F.Void = true
same_form (CType-F.Struct j) (CType-F.Struct k) = j == k
same_form (CType-F.Pointer j t) (CType-F.Pointer k u) = same_kind j k && t u
same_form _ _ = false

-- the same, if the second type is given whole
abbrev pub same_parts : CType-F (CType → Bool) → CType → Bool
same_parts t u = same_form t (out-CType u)

-- whether two types are the same
abbrev pub same_type : CType → CType → Bool
same_type = fold-CType (CType → Bool) same_parts

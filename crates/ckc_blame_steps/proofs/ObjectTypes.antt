-- Which types are those of objects.
use Rattle.std.proofs.Common.{◌≡◌, ◌∙◌, sym, ap, refl, Bool, true, false}
use Rattle.std.specs.Prelude.{Option, Some, None, is_some}
use Rattle.ckc_types.specs.declared.types.CType.{CType, CType-F, out-CType, map-CType, fold_out-CType}
use Rattle.ckc_types.specs.declared.types.CType.TheVariants as ctype
use Rattle.ckc_types.specs.declared.types.Kind.{Kind}
use Rattle.ckc_types.specs.declared.types.Kind.TheVariants as kind
use Rattle.ckc_typed.specs.Types.{is_integer, is_integer_form, is_pointer, is_pointer_form, is_void, is_void_form, element_in, element_of, pointer_parts, object_parts, integer_object, is_object_type}
use Rattle.ckc_blame_steps.proofs.Pointees.{pointer_out}

abbrev object_in : CType-F CType → Option Bool
object_in x = object_parts (map-CType CType (Option Bool) integer_object x)

object_out : (t : CType) → integer_object t ≡ object_in (out-CType t)
object_out t = fold_out-CType (Option Bool) object_parts t

-- ---- integers and `void`

integer_in : (x : CType-F CType) → is_integer_form x ≡ true → object_in x ≡ Some true
integer_in CType-F.Int e = refl
integer_in CType-F.Unsigned e = refl
integer_in CType-F.Char e = refl
integer_in CType-F.Void e = absurd cc
integer_in (CType-F.Struct tag) e = absurd cc
integer_in (CType-F.Pointer k t) e = absurd cc

integer_parts : (t : CType) → is_integer t ≡ true → integer_object t ≡ Some true
integer_parts t e = object_out t ∙ integer_in (out-CType t) e

pub integer_is_object : (t : CType) → is_integer t ≡ true → is_object_type t ≡ true
integer_is_object t e = ap is_some (integer_parts t e)

void_in : (x : CType-F CType) → is_void_form x ≡ true → object_in x ≡ None
void_in CType-F.Void e = refl
void_in CType-F.Int e = absurd cc
void_in CType-F.Unsigned e = absurd cc
void_in CType-F.Char e = absurd cc
void_in (CType-F.Struct tag) e = absurd cc
void_in (CType-F.Pointer k t) e = absurd cc

-- no object is void
pub object_solid : (t : CType) → is_object_type t ≡ true → is_void t ≡ false
object_solid t o = by (is_void t) refl
  where
    different : true ≡ false → ⊥
    different e = cc

    by : (b : Bool) → is_void t ≡ b → b ≡ false
    by true v = absurd (different (sym o ∙ ap is_some (object_out t ∙ void_in (out-CType t) v)))
    by false v = refl

-- ---- pointers

some_inside : (k : Kind) (o : Option Bool) → is_some (pointer_parts k o) ≡ true → is_some o ≡ true
some_inside k (Some b) e = refl
some_inside kind.Raw None e = absurd cc
some_inside kind.One None e = absurd cc
some_inside kind.Arr None e = absurd cc
some_inside kind.Nt None e = absurd cc

element_is : (x : CType-F CType) → is_some (object_in x) ≡ true → is_pointer_form x ≡ true → is_object_type (element_in x) ≡ true
element_is (CType-F.Pointer k t) o p = some_inside k (integer_object t) o
element_is CType-F.Int o p = absurd cc
element_is CType-F.Unsigned o p = absurd cc
element_is CType-F.Char o p = absurd cc
element_is CType-F.Void o p = absurd cc
element_is (CType-F.Struct tag) o p = absurd cc

-- what a pointer that is an object points to is an object
pub element_is_object : (t : CType) → is_object_type t ≡ true → is_pointer t ≡ true → is_object_type (element_of t) ≡ true
element_is_object t o p = element_is (out-CType t) (ap is_some (sym (object_out t)) ∙ o) p

some_pointer : (k : Kind) (o : Option Bool) → is_some o ≡ true → (k ≡ kind.Nt → o ≡ Some true) → is_some (pointer_parts k o) ≡ true
some_pointer kind.Raw (Some b) e h = refl
some_pointer kind.One (Some b) e h = refl
some_pointer kind.Arr (Some b) e h = refl
some_pointer kind.Nt (Some true) e h = refl
some_pointer kind.Nt (Some false) e h = let same : ◌≡◌ {A = Option Bool} (Some false) (Some true) = h refl in absurd cc
some_pointer k None e h = absurd cc

-- a pointer to an object is one, and an `_Nt_array_ptr` to an integer
pub pointer_is_object : (k : Kind) (t : CType) → is_object_type t ≡ true → (k ≡ kind.Nt → is_integer t ≡ true) → is_object_type (ctype.Pointer k t) ≡ true
pointer_is_object k t o h =
    ap is_some (object_out (ctype.Pointer k t) ∙ ap object_in (pointer_out k t)) ∙ some_pointer k (integer_object t) o (λ n. integer_parts t (h n))

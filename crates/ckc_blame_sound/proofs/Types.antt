-- What the rows of the table of types say of integers.
use Rattle.std.proofs.Common.{◌≡◌, refl, sym, ap, subst, ◌∙◌, ℕ, Bool, true, false, ℤ, arith}
use Rattle.std.specs.Prelude.{◌<◌, ◌^◌, ◌&&◌, ◌||◌, not, if◌then◌else◌, Option, None, Some}
use Rattle.ckc_types.specs.declared.types.CType.{CType, CType-F, out-CType}
use Rattle.ckc_types.specs.declared.types.CType.TheVariants as ctype
use Rattle.ckc_typed.specs.Types.{is_integer, is_integer_form, is_pointer, is_pointer_form, is_unsigned, is_unsigned_form, is_char, is_char_form, kind_in, is_void, element_of, same_type, is_object_type}
use Rattle.ckc_typed.specs.Expressions.{number_type}
use Rattle.ckc_typed.specs.Operands.{promoted, common, is_moved, is_moved_kind, sign_type, arithmetic_type, sum_type, distance_type, difference_type, size_type, same_element}
use Rattle.ckc_bounds.specs.ckc_bounds_known.specs.Ranges.{range_in}
use Rattle.ckc_linear.specs.declared.forms.Form.{Form}
use Rattle.ckc_bounds.specs.ckc_bounds_known.specs.Shown.{Known}
use Rattle.ckc_bounds.specs.ckc_bounds_points.specs.Forms.{in_type, within_interval}
use Rattle.ckc_source.specs.declared.expr.Integer.TheVariants.{Int, Unsigned, Char}
use Rattle.ckc_build_values.specs.Kinds.{integer_in, integer_of}
use Rattle.ckc_blame_sound.specs.Values.{IsBetween, IsNumberOf, IsWordOf}
use Rattle.ckc_blame_sound.proofs.IntegerWords.{InType}

pub some_is : {A : Type 0} (a b : A) → ◌≡◌ {A = Option A} (Some a) (Some b) → a ≡ b
some_is a b e = cc

pub none_is_some : {A : Type 0} {P : Type 0} (a : A) → ◌≡◌ {A = Option A} None (Some a) → P
none_is_some a e = absurd (cc)

-- ---- kinds of types

no_pointer_in : (f : CType-F CType) → is_integer_form f ≡ true → is_pointer_form f ≡ false
no_pointer_in CType-F.Int i = refl
no_pointer_in CType-F.Unsigned i = refl
no_pointer_in CType-F.Char i = refl
no_pointer_in CType-F.Void i = refl
no_pointer_in (CType-F.Struct tag) i = refl
no_pointer_in (CType-F.Pointer k t) i = sym i

pub no_pointer : (t : CType) → is_integer t ≡ true → is_pointer t ≡ false
no_pointer t i = no_pointer_in (out-CType t) i

moved_in : (f : CType-F CType) → is_moved_kind (kind_in f) ≡ true → is_integer_form f ≡ false
moved_in CType-F.Int i = sym i
moved_in CType-F.Unsigned i = sym i
moved_in CType-F.Char i = sym i
moved_in CType-F.Void i = refl
moved_in (CType-F.Struct tag) i = refl
moved_in (CType-F.Pointer k t) i = refl

moved_is_none : (t : CType) → is_moved t ≡ true → is_integer t ≡ false
moved_is_none t i = moved_in (out-CType t) i

signed_form_in : (f : CType-F CType) → is_integer_form f ≡ true → is_unsigned_form f ≡ true → integer_in f ≡ Unsigned
signed_form_in CType-F.Int i u = absurd (cc)
signed_form_in CType-F.Unsigned i u = refl
signed_form_in CType-F.Char i u = absurd (cc)
signed_form_in CType-F.Void i u = absurd (cc)
signed_form_in (CType-F.Struct tag) i u = absurd (cc)
signed_form_in (CType-F.Pointer k t) i u = absurd (cc)

pub unsigned_is : (t : CType) → is_integer t ≡ true → is_unsigned t ≡ true → integer_of t ≡ Unsigned
unsigned_is t i u = signed_form_in (out-CType t) i u

char_in : (f : CType-F CType) → is_char_form f ≡ true → integer_in f ≡ Char
char_in CType-F.Int u = absurd (cc)
char_in CType-F.Unsigned u = absurd (cc)
char_in CType-F.Char u = refl
char_in CType-F.Void u = absurd (cc)
char_in (CType-F.Struct tag) u = absurd (cc)
char_in (CType-F.Pointer k t) u = absurd (cc)

pub char_is : (t : CType) → is_char t ≡ true → integer_of t ≡ Char
char_is t u = char_in (out-CType t) u

int_in : (f : CType-F CType) → is_char_form f ≡ false → is_unsigned_form f ≡ false → integer_in f ≡ Int
int_in CType-F.Int c u = refl
int_in CType-F.Unsigned c u = absurd (cc)
int_in CType-F.Char c u = absurd (cc)
int_in CType-F.Void c u = refl
int_in (CType-F.Struct tag) c u = refl
int_in (CType-F.Pointer k t) c u = refl

pub int_is : (t : CType) → is_char t ≡ false → is_unsigned t ≡ false → integer_of t ≡ Int
int_is t c u = int_in (out-CType t) c u

-- ---- numbers of types

in_type_in : (f : CType-F CType) (z : ℤ) → is_integer_form f ≡ true → IsBetween (range_in f) z → InType (integer_in f) z
in_type_in CType-F.Int z i h = h
in_type_in CType-F.Unsigned z i h = h
in_type_in CType-F.Char z i h = h
in_type_in CType-F.Void z i h = absurd (cc)
in_type_in (CType-F.Struct tag) z i h = absurd (cc)
in_type_in (CType-F.Pointer k t) z i h = absurd (cc)

pub in_type_of : (t : CType) (z : ℤ) → is_integer t ≡ true → IsNumberOf t z → InType (integer_of t) z
in_type_of t z i h = in_type_in (out-CType t) z i h

wide_by : (b : Bool) (n : ℕ) → n < (if b then 256 else 2 ^ 32) → n < 2 ^ 32
wide_by true n h = omega arith
wide_by false n h = h

pub word_wide : (t : CType) (n : ℕ) → IsWordOf t n → n < 2 ^ 32
word_wide t n h = wide_by (is_char t) n h

pub wide_word : (t : CType) (n : ℕ) → is_char t ≡ false → n < 2 ^ 32 → IsWordOf t n
wide_word t n c h = subst (λ (b : Bool). n < (if b then 256 else 2 ^ 32)) (sym c) h

pub byte_word : (t : CType) (n : ℕ) → is_char t ≡ true → n < 256 → IsWordOf t n
byte_word t n c h = subst (λ (b : Bool). n < (if b then 256 else 2 ^ 32)) (sym c) h

pub word_byte : (t : CType) (n : ℕ) → is_char t ≡ true → IsWordOf t n → n < 256
word_byte t n c h = subst (λ (b : Bool). n < (if b then 256 else 2 ^ 32)) c h

-- ---- rows

-- an integer type that is not `char`
pub record IsWide (t : CType) (unsigned : Bool) : Type 0 where
  pub integer : is_integer t ≡ true
  pub wide : is_char t ≡ false
  pub unsigned_is : is_unsigned t ≡ unsigned

pub wide_type : (b : Bool) → IsWide (if b then ctype.Unsigned else ctype.Int) b
unfolding out-CType denote.Hole.Carrier.out
wide_type true = record { integer = refl; wide = refl; unsigned_is = refl }
wide_type false = record { integer = refl; wide = refl; unsigned_is = refl }

pub number_wide : (unsigned : Bool) → IsWide (number_type unsigned) unsigned
number_wide unsigned = wide_type unsigned

pub sign_row : (t r : CType) → sign_type t ≡ Some r → (is_integer t ≡ true) × IsWide r (is_unsigned t)
sign_row t r e = by (is_integer t) refl e
  where
    by : (b : Bool) → is_integer t ≡ b → ◌≡◌ {A = Option CType} (if b then Some (promoted t) else None) (Some r) → (is_integer t ≡ true) × IsWide r (is_unsigned t)
    by true i e = (i, subst (λ x. IsWide x (is_unsigned t)) (some_is (promoted t) r e) (wide_type (is_unsigned t)))
    by false i e = none_is_some r e

pub arithmetic_row : (t u r : CType) → arithmetic_type t u ≡ Some r → (is_integer t ≡ true) × (is_integer u ≡ true) × IsWide r (is_unsigned t || is_unsigned u)
arithmetic_row t u r e = by (is_integer t) (is_integer u) refl refl e
  where
    by : (a b : Bool) → is_integer t ≡ a → is_integer u ≡ b → ◌≡◌ {A = Option CType} (if a && b then Some (common t u) else None) (Some r)
        → (is_integer t ≡ true) × (is_integer u ≡ true) × IsWide r (is_unsigned t || is_unsigned u)
    by true true i j e = (i, j, subst (λ x. IsWide x (is_unsigned t || is_unsigned u)) (some_is (common t u) r e) (wide_type (is_unsigned t || is_unsigned u)))
    by true false i j e = none_is_some r e
    by false b i j e = none_is_some r e

no_moved : (t r : CType) {P : Type 0} → is_moved t ≡ true → ◌≡◌ {A = Option CType} (Some t) (Some r) → is_integer r ≡ true → P
no_moved t r m e i = let j : is_integer t ≡ true = subst (λ x. is_integer x ≡ true) (sym (some_is t r e)) i in let n = moved_is_none t m in absurd (cc)

and_first : (a b : Bool) → (a && b) ≡ true → a ≡ true
and_first true b e = refl
and_first false b e = e

and_second : (a b : Bool) → (a && b) ≡ true → b ≡ true
and_second true b e = e
and_second false b e = absurd (cc)

-- a sum that is an integer has integer operands
pub sum_row : (t u r : CType) → sum_type t u ≡ Some r → is_integer r ≡ true → (is_integer t ≡ true) × (is_integer u ≡ true) × IsWide r (is_unsigned t || is_unsigned u)
sum_row t u r e i = by (is_moved t && is_integer u) (is_integer t && is_moved u) refl refl e
  where
    by : (a b : Bool) → (is_moved t && is_integer u) ≡ a → (is_integer t && is_moved u) ≡ b
        → (if a then Some t else (if b then Some u else arithmetic_type t u)) ≡ Some r
        → (is_integer t ≡ true) × (is_integer u ≡ true) × IsWide r (is_unsigned t || is_unsigned u)
    by true b p q e = no_moved t r (and_first (is_moved t) (is_integer u) p) e i
    by false true p q e = no_moved u r (and_second (is_integer t) (is_moved u) q) e i
    by false false p q e = arithmetic_row t u r e

-- and so has a difference, if it is none of pointers
pub difference_row : (t u r : CType) → difference_type t u ≡ Some r → is_integer r ≡ true → is_integer u ≡ true
    → (is_integer t ≡ true) × (is_integer u ≡ true) × IsWide r (is_unsigned t || is_unsigned u)
difference_row t u r e i j = by (is_moved t && is_integer u) (is_pointer t) refl refl e
  where
    apart : is_pointer u ≡ false
    apart = no_pointer u j

    different : same_element t u ≡ false
    different = by_first (is_pointer t)
      where
        by_first : (b : Bool) → (b && (is_pointer u && same_type (element_of t) (element_of u))) ≡ false
        by_first true = ap (λ b. b && same_type (element_of t) (element_of u)) apart
        by_first false = refl

    by : (a b : Bool) → (is_moved t && is_integer u) ≡ a → is_pointer t ≡ b
        → (if a then Some t else (if b then distance_type t u else arithmetic_type t u)) ≡ Some r
        → (is_integer t ≡ true) × (is_integer u ≡ true) × IsWide r (is_unsigned t || is_unsigned u)
    by true b p q e = no_moved t r (and_first (is_moved t) (is_integer u) p) e i
    by false true p q e = none_is_some r (subst (λ (b : Bool). ◌≡◌ {A = Option CType} (if b && not (is_void (element_of t)) then Some ctype.Int else None) (Some r)) different e)
    by false false p q e = arithmetic_row t u r e

-- what has a form in a type is of an integer type
none_in : (f : CType-F CType) → is_integer_form f ≡ false → range_in f ≡ None
none_in CType-F.Int i = absurd (cc)
none_in CType-F.Unsigned i = absurd (cc)
none_in CType-F.Char i = absurd (cc)
none_in CType-F.Void i = refl
none_in (CType-F.Struct tag) i = refl
none_in (CType-F.Pointer k t) i = refl

pub in_type_integer : (facts : Known) (t : CType) (o : Option Form) (g : Form) → in_type facts t o ≡ Some g → is_integer t ≡ true
in_type_integer facts t None g e = none_is_some g e
in_type_integer facts t (Some f) g e = by (is_integer t) refl
  where
    by : (b : Bool) → is_integer t ≡ b → b ≡ true
    by true i = refl
    by false i = none_is_some g (sym (ap (within_interval facts f) (none_in (out-CType t) i)) ∙ e)

-- `sizeof` is unsigned
pub size_wide : (w t : CType) → size_type w ≡ Some t → IsWide t true
size_wide w t e = by (is_object_type w) e
  where
    by : (b : Bool) → ◌≡◌ {A = Option CType} (if b then Some ctype.Unsigned else None) (Some t) → IsWide t true
    by true e = subst (λ x. IsWide x true) (some_is ctype.Unsigned t e) (wide_type true)
    by false e = none_is_some t e

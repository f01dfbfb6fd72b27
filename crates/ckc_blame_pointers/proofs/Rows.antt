-- The words that operations give, and the types of their rows.
use Rattle.std.proofs.Common.{◌≡◌, refl, sym, ap, subst, ◌∙◌, ℕ, Bool, true, false, arith}
use Rattle.std.specs.Prelude.{◌<◌, ◌^◌, ◌==◌, ◌&&◌, ◌||◌, not, if◌then◌else◌, Option, None, Some}
use Rattle.ckc_base.specs.declared.arithmetic.BinOp.TheVariants as binary
use Rattle.ckc_base.specs.declared.places.Pos.{Pos}
use Rattle.ckc_base.specs.declared.runtime_checks.Check.TheVariants as check
use Rattle.ckc_base.proofs.WordValues.{applied_word}
use Rattle.ckc_types.specs.declared.types.CType.{CType, CType-F, out-CType}
use Rattle.ckc_types.specs.declared.types.CType.TheVariants as ctype
use Rattle.ckc_types.specs.declared.types.Structs.{Structs}
use Rattle.ckc_syntax.specs.declared.tree.TreeOp.{TreeOp}
use Rattle.ckc_syntax.specs.declared.tree.TreeOp.TheVariants as op
use Rattle.ckc_typed.specs.Operands.{promoted, common, is_moved, is_moved_kind, sum_type, distance_type, difference_type, arithmetic_type, shift_type, binary_type, same_element}
use Rattle.ckc_blame_sound.specs.ckc_bounds_views.specs.Judged.{is_counted_kind}
use Rattle.ckc_typed.specs.Types.{is_integer, is_pointer, is_pointer_form, is_integer_form, is_char, is_char_form, is_unsigned, is_scalar, is_void, element_of, kind_of, kind_in, same_type}
use Rattle.ckc_source.specs.declared.expr.Operation.{Operation}
use Rattle.ckc_source.specs.declared.expr.Operation.TheVariants as operation
use Rattle.ckc_source.specs.declared.outcome.Value.{Value}
use Rattle.ckc_source.specs.Code.{Expr, Binary}
use Rattle.ckc_source.specs.Eval.{Store, stops, plain, operates, evaluated}
use Rattle.ckc_source.specs.Words.{truth, operator, computed, divides}
use Rattle.ckc_build_values.specs.Operators.{is_signed_at, of_operands}
use Rattle.ckc_blame_sound.specs.Values.{IsWordOf}
use Rattle.ckc_blame_sound.proofs.Types.{some_is, none_is_some, IsWide, wide_type, arithmetic_row, wide_word}
use Rattle.ckc_blame_pointers.specs.Meant.{IsNotStuck}
use Rattle.ckc_blame_pointers.proofs.Claims.{both_go_on}

-- ---- words

computed_word : (o : Operation) (s : Bool) (a b : ℕ) → a < 2 ^ 32 → b < 2 ^ 32 → computed o s a b < 2 ^ 32
computed_word operation.Le s a b h k = applied_word binary.Eq _ 0 (applied_word (operator operation.Lt s) b a k h) (omega arith)
computed_word operation.Gt s a b h k = applied_word (operator operation.Lt s) b a k h
computed_word operation.Ge s a b h k = applied_word binary.Eq _ 0 (applied_word (operator operation.Lt s) a b h k) (omega arith)
computed_word o s a b h k = applied_word (operator o s) a b h k

pub truth_word : (n : ℕ) → n < 2 ^ 32 → truth n < 2 ^ 32
truth_word n h = applied_word binary.Ne n 0 h (omega arith)

-- a value that is a word
abbrev pub IsSmall : Value → Type 0
IsSmall v = v.number < 2 ^ 32

operates_word : (o : Operation) (s : Bool) (at : Pos) (a b : ℕ) → a < 2 ^ 32 → b < 2 ^ 32 → IsNotStuck IsSmall (operates o s at a b)
operates_word o s at a b h k = by (divides o && (b == 0))
  where
    by : (c : Bool) → IsNotStuck IsSmall (if c then stops check.Divide at else plain (computed o s a b))
    by true = tt
    by false = computed_word o s a b h k

module _ (store : Store) where
  pub operation_word : (o : Operation) (s : Bool) (at : Pos) (x y : Expr) → IsNotStuck IsSmall (evaluated store x) → IsNotStuck IsSmall (evaluated store y)
      → IsNotStuck IsSmall (evaluated store (Binary o s at x y))
  operation_word o s at x y h k = both_go_on IsSmall IsSmall IsSmall (evaluated store x) (evaluated store y) (λ v w. operates o s at v.number w.number) h k
      (λ v w is there p q. operates_word o s at v.number w.number p q)

-- ---- rows

pub record Wide (t : CType) : Type 0 where
  pub unsigned : Bool
  pub wide : IsWide t unsigned

pub wide_small : (t : CType) → Wide t → (n : ℕ) → n < 2 ^ 32 → IsWordOf t n
wide_small t w n h = wide_word t n w.wide.wide h

wide_made : (b : Bool) (r : CType) → (if b then ctype.Unsigned else ctype.Int) ≡ r → Wide r
wide_made b r e = record { unsigned = b; wide = subst (λ t. IsWide t b) e (wide_type b) }

pub int_row : (b : Bool) (r : CType) → ◌≡◌ {A = Option CType} (if b then Some ctype.Int else None) (Some r) → Wide r
int_row true r e = wide_made false r (some_is ctype.Int r e)
int_row false r e = none_is_some r e

pub arithmetic_wide : (t u r : CType) → arithmetic_type t u ≡ Some r → Wide r
arithmetic_wide t u r e = record { unsigned = is_unsigned t || is_unsigned u; wide = (arithmetic_row t u r e).2 }

shift_row : (t u r : CType) → shift_type t u ≡ Some r → Wide r
shift_row t u r e = by (is_integer t && is_integer u) e
  where
    by : (b : Bool) → ◌≡◌ {A = Option CType} (if b then Some (promoted t) else None) (Some r) → Wide r
    by true e = wide_made (is_unsigned t) r (some_is (promoted t) r e)
    by false e = none_is_some r e

-- whether an operator may move a pointer
abbrev pub is_sum : TreeOp → Bool
is_sum op.Add = true
is_sum op.Sub = true
is_sum _ = false

pub other_row : (o : TreeOp) (t u r : CType) (m n : Bool) → is_sum o ≡ false → binary_type o t m u n ≡ Some r → Wide r
other_row op.OrElse t u r m n c e = int_row (is_scalar t && is_scalar u) r e
other_row op.AndThen t u r m n c e = int_row (is_scalar t && is_scalar u) r e
other_row op.Or t u r m n c e = arithmetic_wide t u r e
other_row op.Xor t u r m n c e = arithmetic_wide t u r e
other_row op.And t u r m n c e = arithmetic_wide t u r e
other_row op.Eq t u r m n c e = int_row _ r e
other_row op.Ne t u r m n c e = int_row _ r e
other_row op.Lt t u r m n c e = int_row _ r e
other_row op.Le t u r m n c e = int_row _ r e
other_row op.Gt t u r m n c e = int_row _ r e
other_row op.Ge t u r m n c e = int_row _ r e
other_row op.Shl t u r m n c e = shift_row t u r e
other_row op.Shr t u r m n c e = shift_row t u r e
other_row op.Mul t u r m n c e = arithmetic_wide t u r e
other_row op.Div t u r m n c e = arithmetic_wide t u r e
other_row op.Rem t u r m n c e = arithmetic_wide t u r e
other_row op.Add t u r m n c e = absurd (cc)
other_row op.Sub t u r m n c e = absurd (cc)
other_row o t u r m n c e = none_is_some r e

-- whether a side of an operator tells more than a comparison does
abbrev pub tells_more : TreeOp → Bool
tells_more op.Ne = true
tells_more op.AndThen = true
tells_more op.OrElse = true
tells_more _ = false

module _ (store : Store) (structs : Structs) (t u r : CType) (m n : Bool) (at : Pos) (x y : Expr)
    (h : IsNotStuck IsSmall (evaluated store x)) (k : IsNotStuck IsSmall (evaluated store y)) where
  pub other_word : (o : TreeOp) → is_sum o ≡ false → tells_more o ≡ false → binary_type o t m u n ≡ Some r → IsNotStuck IsSmall (evaluated store (of_operands structs o t u at x y))
  other_word op.Or c b e = operation_word store operation.Or (is_signed_at op.Or t u) at x y h k
  other_word op.Xor c b e = operation_word store operation.Xor (is_signed_at op.Xor t u) at x y h k
  other_word op.And c b e = operation_word store operation.And (is_signed_at op.And t u) at x y h k
  other_word op.Eq c b e = operation_word store operation.Eq (is_signed_at op.Eq t u) at x y h k
  other_word op.Ne c b e = absurd (cc)
  other_word op.Lt c b e = operation_word store operation.Lt (is_signed_at op.Lt t u) at x y h k
  other_word op.Le c b e = operation_word store operation.Le (is_signed_at op.Le t u) at x y h k
  other_word op.Gt c b e = operation_word store operation.Gt (is_signed_at op.Gt t u) at x y h k
  other_word op.Ge c b e = operation_word store operation.Ge (is_signed_at op.Ge t u) at x y h k
  other_word op.Shl c b e = operation_word store operation.Shl (is_signed_at op.Shl t u) at x y h k
  other_word op.Shr c b e = operation_word store operation.Shr (is_signed_at op.Shr t u) at x y h k
  other_word op.Mul c b e = operation_word store operation.Mul (is_signed_at op.Mul t u) at x y h k
  other_word op.Div c b e = operation_word store operation.Div (is_signed_at op.Div t u) at x y h k
  other_word op.Rem c b e = operation_word store operation.Rem (is_signed_at op.Rem t u) at x y h k
  other_word op.Add c b e = absurd (cc)
  other_word op.Sub c b e = absurd (cc)
  other_word op.AndThen c b e = absurd (cc)
  other_word op.OrElse c b e = absurd (cc)
  other_word o c b e = none_is_some r e

-- ---- sums of pointers

pointer_no_integer_in : (f : CType-F CType) → is_pointer_form f ≡ true → is_integer_form f ≡ false
pointer_no_integer_in (CType-F.Pointer k t) e = refl
pointer_no_integer_in CType-F.Int e = absurd (cc)
pointer_no_integer_in CType-F.Unsigned e = absurd (cc)
pointer_no_integer_in CType-F.Char e = absurd (cc)
pointer_no_integer_in CType-F.Void e = absurd (cc)
pointer_no_integer_in (CType-F.Struct tag) e = absurd (cc)

pub pointer_no_integer : (t : CType) → is_pointer t ≡ true → is_integer t ≡ false
pointer_no_integer t e = pointer_no_integer_in (out-CType t) e

pointer_no_char_in : (f : CType-F CType) → is_pointer_form f ≡ true → is_char_form f ≡ false
pointer_no_char_in (CType-F.Pointer k t) e = refl
pointer_no_char_in CType-F.Int e = absurd (cc)
pointer_no_char_in CType-F.Unsigned e = absurd (cc)
pointer_no_char_in CType-F.Char e = absurd (cc)
pointer_no_char_in CType-F.Void e = absurd (cc)
pointer_no_char_in (CType-F.Struct tag) e = absurd (cc)

pub pointer_no_char : (t : CType) → is_pointer t ≡ true → is_char t ≡ false
pointer_no_char t e = pointer_no_char_in (out-CType t) e

pub pointer_word : (t : CType) → is_pointer t ≡ true → (n : ℕ) → n < 2 ^ 32 → IsWordOf t n
pointer_word t e n h = wide_word t n (pointer_no_char t e) h

no_moved_in : (f : CType-F CType) → is_pointer_form f ≡ false → is_moved_kind (kind_in f) ≡ false
no_moved_in (CType-F.Pointer k t) e = absurd (cc)
no_moved_in CType-F.Int e = refl
no_moved_in CType-F.Unsigned e = refl
no_moved_in CType-F.Char e = refl
no_moved_in CType-F.Void e = refl
no_moved_in (CType-F.Struct tag) e = refl

counted_pointer_in : (f : CType-F CType) → is_counted_kind (kind_in f) ≡ true → is_pointer_form f ≡ true
counted_pointer_in (CType-F.Pointer k t) e = refl
counted_pointer_in CType-F.Int e = absurd (cc)
counted_pointer_in CType-F.Unsigned e = absurd (cc)
counted_pointer_in CType-F.Char e = absurd (cc)
counted_pointer_in CType-F.Void e = absurd (cc)
counted_pointer_in (CType-F.Struct tag) e = absurd (cc)

pub counted_pointer : (t : CType) → is_counted_kind (kind_of t) ≡ true → is_pointer t ≡ true
counted_pointer t e = counted_pointer_in (out-CType t) e

no_moved : (t : CType) → is_pointer t ≡ false → is_moved t ≡ false
no_moved t e = no_moved_in (out-CType t) e

module _ (t u r : CType) where
  -- a pointer and an integer
  pub left_row : is_pointer t ≡ true → sum_type t u ≡ Some r → (r ≡ t) × (is_integer u ≡ true) × (is_moved t ≡ true)
  left_row p e = by (is_moved t) (is_integer u) refl refl e
    where
      rest : (b : Bool) → (if is_integer t && is_moved u then Some u else (if is_integer t && b then Some (common t u) else None)) ≡ None
      rest b = ap (λ i. if i && is_moved u then Some u else (if i && b then Some (common t u) else None)) (pointer_no_integer t p)

      by : (a b : Bool) → is_moved t ≡ a → is_integer u ≡ b
          → (if a && b then Some t else (if is_integer t && is_moved u then Some u else (if is_integer t && b then Some (common t u) else None))) ≡ Some r
          → (r ≡ t) × (is_integer u ≡ true) × (is_moved t ≡ true)
      by true true m i e = (sym (some_is t r e), i, m)
      by true false m i e = none_is_some r (sym (rest false) ∙ e)
      by false b m i e = none_is_some r (sym (rest b) ∙ e)

  -- an integer and a pointer
  pub right_row : is_pointer t ≡ false → is_pointer u ≡ true → sum_type t u ≡ Some r → (r ≡ u) × (is_integer t ≡ true) × (is_moved u ≡ true)
  right_row p q e = by (is_integer t) (is_moved u) refl refl (sym left ∙ e)
    where
      left : sum_type t u ≡ (if is_integer t && is_moved u then Some u else (if is_integer t && false then Some (common t u) else None))
      left =
          ap (λ a. if a && is_integer u then Some t else (if is_integer t && is_moved u then Some u else (if is_integer t && is_integer u then Some (common t u) else None))) (no_moved t p)
          ∙ ap (λ b. if is_integer t && is_moved u then Some u else (if is_integer t && b then Some (common t u) else None)) (pointer_no_integer u q)

      by : (a b : Bool) → is_integer t ≡ a → is_moved u ≡ b → (if a && b then Some u else (if a && false then Some (common t u) else None)) ≡ Some r
          → (r ≡ u) × (is_integer t ≡ true) × (is_moved u ≡ true)
      by true true i m e = (sym (some_is u r e), i, m)
      by true false i m e = none_is_some r e
      by false b i m e = none_is_some r e

  -- two integers
  pub plain_row : is_pointer t ≡ false → is_pointer u ≡ false → sum_type t u ≡ Some r → Wide r
  plain_row p q e = by (is_integer t) (sym left ∙ e)
    where
      left : sum_type t u ≡ (if is_integer t && false then Some u else arithmetic_type t u)
      left =
          ap (λ a. if a && is_integer u then Some t else (if is_integer t && is_moved u then Some u else arithmetic_type t u)) (no_moved t p)
          ∙ ap (λ b. if is_integer t && b then Some u else arithmetic_type t u) (no_moved u q)

      by : (a : Bool) → (if a && false then Some u else arithmetic_type t u) ≡ Some r → Wide r
      by true e = arithmetic_wide t u r e
      by false e = arithmetic_wide t u r e

  no_distance : is_pointer u ≡ false → distance_type t u ≡ None
  no_distance q = ap (λ (b : Bool). if b && not (is_void (element_of t)) then Some ctype.Int else None) (by (is_pointer t) ∙ refl)
    where
      by : (a : Bool) → (a && (is_pointer u && same_type (element_of t) (element_of u))) ≡ false
      by true = ap (λ b. b && same_type (element_of t) (element_of u)) q
      by false = refl

  -- a pointer less an integer
  pub less_row : is_pointer t ≡ true → is_pointer u ≡ false → difference_type t u ≡ Some r → (r ≡ t) × (is_integer u ≡ true) × (is_moved t ≡ true)
  less_row p q e = by (is_moved t) (is_integer u) refl refl e
    where
      rest : (if is_pointer t then distance_type t u else arithmetic_type t u) ≡ None
      rest = ap (λ b. if b then distance_type t u else arithmetic_type t u) p ∙ no_distance q

      by : (a b : Bool) → is_moved t ≡ a → is_integer u ≡ b → (if a && b then Some t else (if is_pointer t then distance_type t u else arithmetic_type t u)) ≡ Some r
          → (r ≡ t) × (is_integer u ≡ true) × (is_moved t ≡ true)
      by true true m i e = (sym (some_is t r e), i, m)
      by true false m i e = none_is_some r (sym rest ∙ e)
      by false b m i e = none_is_some r (sym rest ∙ e)

  -- two pointers
  pub distance_row : is_pointer t ≡ true → is_pointer u ≡ true → difference_type t u ≡ Some r → Wide r
  distance_row p q e = int_row (same_element t u && not (is_void (element_of t))) r (sym left ∙ e)
    where
      left : difference_type t u ≡ distance_type t u
      left =
          ap (λ i. if is_moved t && i then Some t else (if is_pointer t then distance_type t u else arithmetic_type t u)) (pointer_no_integer u q)
          ∙ by (is_moved t) ∙ ap (λ b. if b then distance_type t u else arithmetic_type t u) p
        where
          by : (a : Bool) → (if a && false then Some t else (if is_pointer t then distance_type t u else arithmetic_type t u)) ≡ (if is_pointer t then distance_type t u else arithmetic_type t u)
          by true = refl
          by false = refl

  -- what is no pointer less something
  pub plain_less_row : is_pointer t ≡ false → difference_type t u ≡ Some r → Wide r
  plain_less_row p e =
      arithmetic_wide t u r (sym (ap (λ a. if a && is_integer u then Some t else (if is_pointer t then distance_type t u else arithmetic_type t u)) (no_moved t p)
      ∙ ap (λ b. if b then distance_type t u else arithmetic_type t u) p) ∙ e)

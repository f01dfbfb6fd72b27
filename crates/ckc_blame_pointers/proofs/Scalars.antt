-- Operands are integers or pointers.
use Rattle.std.proofs.Common.{◌≡◌, ⊎_elim, refl, ap, ◌∙◌, ℕ, Bool, true, false}
use Rattle.std.specs.Prelude.{◌&&◌, ◌||◌, not, if◌then◌else◌, Option, None, Some}
use Rattle.std.proofs.lemmas.Bool.{and_parts}
use Rattle.ckc_types.specs.declared.types.Kind.{Kind}
use Rattle.ckc_types.specs.declared.types.CType.{CType, CType-F, out-CType}
use Rattle.ckc_types.specs.declared.types.CType.TheVariants as ctype
use Rattle.ckc_types.specs.declared.types.Kind.TheVariants as kind
use Rattle.ckc_types.specs.Same.{same_type}
use Rattle.ckc_syntax.specs.declared.tree.Name.{Name}
use Rattle.ckc_syntax.specs.declared.tree.TreeOp.{TreeOp}
use Rattle.ckc_syntax.specs.declared.tree.TreeOp.TheVariants as op
use Rattle.ckc_syntax.specs.declared.tree.Node.{Node-F, out-Node}
use Rattle.ckc_syntax.specs.declared.tree.Expr.{every_here-Expr}
use Rattle.ckc_typed.specs.declared.environment.Globals.{Globals}
use Rattle.ckc_typed.specs.declared.typed.Note.{Note}
use Rattle.ckc_typed.specs.Conversions.{is_terminated_kind, is_null, is_null_form}
use Rattle.ckc_typed.specs.Operands.{is_moved_kind, is_moved, same_element, is_raw_kind, common, promoted, target_type, index_type, arithmetic_type, distance_type, choice_type, binary_type, is_cast}
use Rattle.ckc_typed.specs.Trees.{NotedExpr, NotedLayer}
use Rattle.ckc_typed.specs.Types.{is_integer, is_integer_form, is_pointer, is_pointer_form, is_void, is_scalar, kind_of, is_object_type, kind_in, element_of}
use Rattle.ckc_typed_welltyped.specs.Expressions.{AnyLimits, AnyNode}
use Rattle.ckc_blame_sound.specs.Settings.{Setting}
use Rattle.ckc_blame_sound.specs.Typed.{IsRow, HasRow, IsTyped}
use Rattle.ckc_blame_sound.proofs.Types.{number_wide}
use Rattle.ckc_blame_pointers.specs.Covered.{IsThrough}
use Rattle.ckc_blame_pointers.proofs.Truths.{either}

pub integer_scalar : (t : CType) → is_integer t ≡ true → is_scalar t ≡ true
integer_scalar t i = ap (λ b. b || is_pointer t) i

or_true : (b c : Bool) → c ≡ true → (b || c) ≡ true
or_true true c e = refl
or_true false c e = e

pub pointer_scalar : (t : CType) → is_pointer t ≡ true → is_scalar t ≡ true
pointer_scalar t p = or_true (is_integer t) (is_pointer t) p

pub moved_pointer : (t : CType) → is_moved t ≡ true → is_pointer t ≡ true
moved_pointer t m = by (out-CType t) m
  where
    by : (f : CType-F CType) → is_moved_kind (kind_in f) ≡ true → is_pointer_form f ≡ true
    by (CType-F.Pointer k u) m = refl
    by CType-F.Int m = absurd (cc)
    by CType-F.Unsigned m = absurd (cc)
    by CType-F.Char m = absurd (cc)
    by CType-F.Void m = absurd (cc)
    by (CType-F.Struct tag) m = absurd (cc)

pub moved_scalar : (t : CType) → is_moved t ≡ true → is_scalar t ≡ true
moved_scalar t m = pointer_scalar t (moved_pointer t m)

-- what has a kind is a pointer
pub kind_scalar : (t : CType) (k : Kind) → kind_of t ≡ Some k → is_scalar t ≡ true
kind_scalar t k e = pointer_scalar t (by (out-CType t) e)
  where
    by : (f : CType-F CType) → kind_in f ≡ Some k → is_pointer_form f ≡ true
    by (CType-F.Pointer q u) e = refl
    by CType-F.Int e = absurd (cc)
    by CType-F.Unsigned e = absurd (cc)
    by CType-F.Char e = absurd (cc)
    by CType-F.Void e = absurd (cc)
    by (CType-F.Struct tag) e = absurd (cc)

-- what a structure is reached through
pub through_scalar : (s : Setting) (t : CType) → IsThrough s t → is_scalar t ≡ true
through_scalar s t h = ⊎_elim (λ e. kind_scalar t kind.Arr e) (λ e. kind_scalar t kind.One e.0) h

pub through_bare : (s : Setting) (t : CType) → IsThrough s t → is_terminated_kind (kind_of t) ≡ false
through_bare s t h = ⊎_elim (λ e. ap is_terminated_kind e) (λ e. ap is_terminated_kind e.0) h

-- a structure is none
pub no_structure : (t : CType) → is_scalar t ≡ true → (tag : ℕ) → out-CType t ≡ CType-F.Struct tag → ⊥
no_structure t scalar tag e = let other : is_scalar t ≡ false = ap (λ f. is_integer_form f || is_pointer_form f) e in absurd (cc)

pub true_if : (b : Bool) (t r : CType) → ◌≡◌ {A = Option CType} (if b then Some t else None) (Some r) → b ≡ true
true_if true t r e = refl
true_if false t r e = absurd (cc)

-- the operands of `*` and of `[`
pub target_scalar : (e : NotedExpr) (r : CType) → target_type e.note.ctype ≡ Some r → is_scalar e.note.ctype ≡ true
target_scalar e r row =
    pointer_scalar e.note.ctype (and_parts (is_pointer e.note.ctype) (not (is_void (element_of e.note.ctype))) (true_if (is_pointer e.note.ctype && not (is_void (element_of e.note.ctype))) (element_of e.note.ctype) r row)).0

pub index_scalar : (t u r : CType) → index_type t u ≡ Some r → (is_scalar t ≡ true) × (is_scalar u ≡ true)
index_scalar t u r row = let p = and_parts (is_moved t) (is_integer u) (true_if (is_moved t && is_integer u) (element_of t) r row) in (moved_scalar t p.0, integer_scalar u p.1)

both_integers : (t u : CType) → (is_integer t && is_integer u) ≡ true → (is_scalar t ≡ true) × (is_scalar u ≡ true)
both_integers t u e = let p = and_parts (is_integer t) (is_integer u) e in (integer_scalar t p.0, integer_scalar u p.1)

arithmetic_scalar : (t u v r : CType) → ◌≡◌ {A = Option CType} (if is_integer t && is_integer u then Some v else None) (Some r) → (is_scalar t ≡ true) × (is_scalar u ≡ true)
arithmetic_scalar t u v r e = both_integers t u (true_if (is_integer t && is_integer u) v r e)

pub same_scalar : (t u : CType) → same_element t u ≡ true → (is_scalar t ≡ true) × (is_scalar u ≡ true)
same_scalar t u e =
    let p = and_parts (is_pointer t) (is_pointer u && same_type (element_of t) (element_of u)) e in
    let q = and_parts (is_pointer u) (same_type (element_of t) (element_of u)) p.1 in
    (pointer_scalar t p.0, pointer_scalar u q.0)

pub same_pointer : (t u : CType) → same_element t u ≡ true → is_pointer u ≡ true
same_pointer t u e = (and_parts (is_pointer u) (same_type (element_of t) (element_of u)) (and_parts (is_pointer t) (is_pointer u && same_type (element_of t) (element_of u)) e).1).0

module _ (t u r : CType) where
  abbrev Both : Type 0
  Both = (is_scalar t ≡ true) × (is_scalar u ≡ true)

  truths_scalar : ◌≡◌ {A = Option CType} (if is_scalar t && is_scalar u then Some ctype.Int else None) (Some r) → Both
  truths_scalar e = and_parts (is_scalar t) (is_scalar u) (true_if (is_scalar t && is_scalar u) ctype.Int r e)

  sum_scalar : (if is_moved t && is_integer u then Some t else (if is_integer t && is_moved u then Some u else arithmetic_type t u)) ≡ Some r → Both
  sum_scalar e = by (is_moved t && is_integer u) refl (is_integer t && is_moved u) refl e
    where
      by : (b : Bool) → (is_moved t && is_integer u) ≡ b → (c : Bool) → (is_integer t && is_moved u) ≡ c → (if b then Some t else (if c then Some u else arithmetic_type t u)) ≡ Some r → Both
      by true m c n e = let p = and_parts (is_moved t) (is_integer u) m in (moved_scalar t p.0, integer_scalar u p.1)
      by false m true n e = let p = and_parts (is_integer t) (is_moved u) n in (integer_scalar t p.0, moved_scalar u p.1)
      by false m false n e = arithmetic_scalar t u (common t u) r e

  difference_scalar : (if is_moved t && is_integer u then Some t else (if is_pointer t then distance_type t u else arithmetic_type t u)) ≡ Some r → Both
  difference_scalar e = by (is_moved t && is_integer u) refl (is_pointer t) e
    where
      by : (b : Bool) → (is_moved t && is_integer u) ≡ b → (c : Bool) → (if b then Some t else (if c then distance_type t u else arithmetic_type t u)) ≡ Some r → Both
      by true m c e = let p = and_parts (is_moved t) (is_integer u) m in (moved_scalar t p.0, integer_scalar u p.1)
      by false m true e = same_scalar t u (and_parts (same_element t u) (not (is_void (element_of t))) (true_if (same_element t u && not (is_void (element_of t))) ctype.Int r e)).0
      by false m false e = arithmetic_scalar t u (common t u) r e

  compared_scalar : (m n : Bool) → (m ≡ true → is_scalar t ≡ true) → (n ≡ true → is_scalar u ≡ true)
      → ◌≡◌ {A = Option CType} (if (is_integer t && is_integer u) || (same_element t u || ((is_pointer t && n) || (m && is_pointer u))) then Some ctype.Int else None) (Some r) → Both
  compared_scalar m n null_t null_u e =
      ⊎_elim (λ h. both_integers t u h)
      (λ h. ⊎_elim (λ h. same_scalar t u h)
      (λ h. ⊎_elim
      (λ h. let p = and_parts (is_pointer t) n h in (pointer_scalar t p.0, null_u p.1))
      (λ h. let p = and_parts m (is_pointer u) h in (null_t p.0, pointer_scalar u p.1))
      (either (is_pointer t && n) (m && is_pointer u) h))
      (either (same_element t u) ((is_pointer t && n) || (m && is_pointer u)) h))
      (either (is_integer t && is_integer u) (same_element t u || ((is_pointer t && n) || (m && is_pointer u)))
      (true_if ((is_integer t && is_integer u) || (same_element t u || ((is_pointer t && n) || (m && is_pointer u)))) ctype.Int r e))

  pub binary_scalar : (o : TreeOp) (m n : Bool) → (m ≡ true → is_scalar t ≡ true) → (n ≡ true → is_scalar u ≡ true) → binary_type o t m u n ≡ Some r → Both
  binary_scalar op.OrElse m n p q e = truths_scalar e
  binary_scalar op.AndThen m n p q e = truths_scalar e
  binary_scalar op.Or m n p q e = arithmetic_scalar t u (common t u) r e
  binary_scalar op.Xor m n p q e = arithmetic_scalar t u (common t u) r e
  binary_scalar op.And m n p q e = arithmetic_scalar t u (common t u) r e
  binary_scalar op.Eq m n p q e = compared_scalar m n p q e
  binary_scalar op.Ne m n p q e = compared_scalar m n p q e
  binary_scalar op.Lt m n p q e = compared_scalar m n p q e
  binary_scalar op.Le m n p q e = compared_scalar m n p q e
  binary_scalar op.Gt m n p q e = compared_scalar m n p q e
  binary_scalar op.Ge m n p q e = compared_scalar m n p q e
  binary_scalar op.Shl m n p q e = arithmetic_scalar t u (promoted t) r e
  binary_scalar op.Shr m n p q e = arithmetic_scalar t u (promoted t) r e
  binary_scalar op.Add m n p q e = sum_scalar e
  binary_scalar op.Sub m n p q e = difference_scalar e
  binary_scalar op.Mul m n p q e = arithmetic_scalar t u (common t u) r e
  binary_scalar op.Div m n p q e = arithmetic_scalar t u (common t u) r e
  binary_scalar op.Rem m n p q e = arithmetic_scalar t u (common t u) r e
  binary_scalar o m n p q e = absurd (cc)

pub choice_scalar : (t u v r : CType) → choice_type t u v ≡ Some r → (is_scalar t ≡ true) × (is_scalar u ≡ true) × (is_scalar v ≡ true)
choice_scalar t u v r e = by (is_scalar t) refl e
  where
    by : (b : Bool) → is_scalar t ≡ b → (if b then arithmetic_type u v else None) ≡ Some r → (is_scalar t ≡ true) × (is_scalar u ≡ true) × (is_scalar v ≡ true)
    by true s e = let p = arithmetic_scalar u v (common u v) r e in (s, p.0, p.1)
    by false s e = absurd (cc)

pub cast_scalar : (t u : CType) (n : Bool) → (n ≡ true → is_scalar u ≡ true) → is_cast t u n ≡ true → is_scalar u ≡ true
cast_scalar t u n null e =
    ⊎_elim (λ h. integer_scalar u (and_parts (is_integer t) (is_integer u) h).1)
    (λ h. ⊎_elim (λ p. pointer_scalar u p) null (either (is_pointer u) n (and_parts (is_raw_kind (kind_of t)) (is_pointer u || n) h).1))
    (either (is_integer t && is_integer u) (is_raw_kind (kind_of t) && (is_pointer u || n))
    (and_parts (is_object_type t) ((is_integer t && is_integer u) || (is_raw_kind (kind_of t) && (is_pointer u || n))) e).1)

null_type : is_scalar (ctype.Pointer kind.One ctype.Void) ≡ true
unfolding out-CType denote.Hole.Carrier.out
null_type = refl

-- So is null.
pub null_scalar : (globals : Globals) (s : Setting) (e : NotedExpr) → IsTyped globals s e → is_null e ≡ true → is_scalar e.note.ctype ≡ true
null_scalar globals s e typed null = by (out-Node Name Note e.node) (every_here-Expr Name Note AnyLimits AnyNode (HasRow globals s) e typed) null
  where
    by : (n : NotedLayer) → IsRow globals s n e.note → is_null_form n ≡ true → is_scalar e.note.ctype ≡ true
    by Node-F.Null row null = ap is_scalar row.row ∙ null_type
    by (Node-F.Number n unsigned) row null = ap is_scalar row.row ∙ integer_scalar _ (number_wide unsigned).integer
    by n row null = absurd (cc)

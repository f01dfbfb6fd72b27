-- What is made of parts that have the form has the form.
use Rattle.std.proofs.Common.{◌≡◌, ◌⊎◌, ◌∙◌, inl, inr, refl, sym, ap, subst, arith, ℕ, ◌+◌, ◌<◌, ◌≤◌, ◌^◌, Bool, true, false, List, [], ◌∷◌}
use Rattle.std.specs.Prelude.{◌==◌, not, ◌&&◌, ◌||◌, if◌then◌else◌, Option, Some, None, IfSome}
use Rattle.std.proofs.Math.Nat.{mod-le}
use Rattle.std.proofs.lemmas.Bool.{and_parts}
use Rattle.ckc_base.specs.declared.places.Pos.{Pos}
use Rattle.ckc_base.specs.MemoryMap.{statics_end}
use Rattle.ckc_types.specs.declared.types.Kind.{Kind}
use Rattle.ckc_types.specs.declared.types.Kind.TheVariants as kind
use Rattle.ckc_types.specs.declared.types.CType.{CType, CType-F, out-CType}
use Rattle.ckc_types.specs.declared.types.CType.TheVariants as ctype
use Rattle.ckc_types.specs.declared.types.Structs.{Structs}
use Rattle.ckc_types.specs.Layout.{size_by_form}
use Rattle.ckc_syntax.specs.declared.tree.Name.{Name}
use Rattle.ckc_syntax.specs.declared.tree.TreeOp.{TreeOp}
use Rattle.ckc_syntax.specs.declared.tree.TreeOp.TheVariants as op
use Rattle.ckc_typed.specs.Constants.{is_laid_out_form, size_of}
use Rattle.ckc_typed.specs.Declarations.{is_checked_kind}
use Rattle.ckc_typed.specs.Layouts.{member_number}
use Rattle.ckc_typed.specs.Operands.{common, arithmetic_type, distance_type, is_moved, is_moved_kind, same_element, sum_type, difference_type, index_type}
use Rattle.ckc_typed.specs.Types.{element_of, is_char, is_integer, is_integer_form, is_pointer, is_pointer_form, is_scalar, is_void, kind_of}
use Rattle.ckc_blame_steps.specs.ckc_bounds_views.specs.Judged.{is_counted_kind}
use Rattle.ckc_source.specs.declared.expr.Access.{Access}
use Rattle.ckc_source.specs.declared.expr.Count.{Count}
use Rattle.ckc_source.specs.declared.expr.Integer.{Integer}
use Rattle.ckc_source.specs.declared.expr.Operation.TheVariants as operation
use Rattle.ckc_source.specs.declared.expr.Pointee.{Pointee}
use Rattle.ckc_source.specs.declared.expr.Shift.{Shift}
use Rattle.ckc_source.specs.Code.{Expr, Number, Array, Moved, Added, Binary, And, Or, Choice, Narrow, Bare, Tested, Trusted}
use Rattle.ckc_source.specs.Eval.{place_in}
use Rattle.ckc_checks_operands.specs.Cases.{casts_one, is_named, is_static, is_ranged}
use Rattle.ckc_checks_operands.specs.Compilable.{IsZero, IsCount, EndsLow, IsTestedSize}
use Rattle.ckc_build_values.specs.Kinds.{is_signed, size_behind, through_kind}
use Rattle.ckc_build_values.specs.Members.{offset_of}
use Rattle.ckc_build_values.specs.Operators.{converted, cast, unary, binary, is_signed_at, shift, distance, of_operands, elements_in}
use Rattle.ckc_build_values.specs.Places.{Place, element_place, target_place, member_place, nowhere, read_at, address_at}
use Rattle.ckc_blame_steps.specs.ckc_blame_sound.proofs.Sizes.{sizes_are_small}
use Rattle.ckc_blame_steps.specs.ckc_blame_sound.proofs.Types.{no_pointer}
use Rattle.ckc_build_forms.proofs.Forms.{RangedForm, RangeForm, BoundedForm, JudgedForm, AccessForm, ShiftForm, CastForm, ExprForm}
use Rattle.ckc_build_forms.proofs.SmallCounts.{offset_small}
use Rattle.ckc_build_forms.proofs.SoundTypes.{IsSound, counted_sized}

-- a value has the form, and so have its ranges, however they are computed
pub record Means (n : ℕ) (v : Expr) : Type 0 where
  pub form : ExprForm n v
  pub range : RangeForm n v
  pub ranged : is_ranged v ≡ true → RangedForm n v

-- so has a place
pub record PlaceMeans (n : ℕ) (q : Place) : Type 0 where
  pub access : AccessForm n q.access q.pointer q.index
  pub pointer : ExprForm n q.pointer
  pub index : ExprForm n q.index

-- what lies at a place is a whole object or element, or an integer or pointer in one
abbrev pub IsNear : Place → CType → Type 0
IsNear q t = (q.access.offset ≡ 0) ⊎ ((is_scalar t ≡ true) × (q.access.offset < 2 ^ 31))

-- what lies at a place that is named begins low
abbrev pub IsLow : Place → Type 0
IsLow q = is_static q.access q.pointer ≡ true → (a : ℕ) × (q.pointer ≡ Number a) × (a ≤ statics_end)

not_ranged : {X : Type 0} → false ≡ true → X
not_ranged e = absurd cc

-- the size of a type is a word, and far from being too large for one
pub size_fits : (structs : Structs) (t : CType) → size_of structs t < 2 ^ 32
size_fits structs t = let small = sizes_are_small structs t in omega (arith, small)

module _ (n : ℕ) where
  pub number_means : (m : ℕ) → m < 2 ^ 32 → Means n (Number m)
  number_means m small = record { form = small; range = tt; ranged = λ e. not_ranged e }

  pub zero_means : Means n (Number 0)
  zero_means = number_means 0 (omega arith)

  pub array_means : (at bytes : ℕ) → at + bytes < 2 ^ 32 → Means n (Array at bytes)
  array_means at bytes h = record { form = (omega (arith, h), omega (arith, h)); range = omega (arith, h); ranged = λ e. h }

  bounded : (v : Expr) → Means n v → BoundedForm n (is_ranged v) v
  bounded v m = by (is_ranged v) refl
    where
      by : (b : Bool) → is_ranged v ≡ b → BoundedForm n b v
      by true e = m.ranged e
      by false e = m.range

  pub choice_means : (c a b : Expr) → Means n c → Means n a → Means n b → Means n (Choice c a b)
  choice_means c a b l h i = record { form = (l.form, h.form, i.form); range = (h.range, i.range); ranged = λ e. not_ranged e }

  pub trusted_means : (to : Pointee) (form : Integer) (v k : Expr) → to.size < 2 ^ 32 → Means n v → ExprForm n k → Means n (Trusted to form v k)
  trusted_means to form v k small m h = record { form = (small, m.form, h); range = small; ranged = λ e. not_ranged e }

  small_size : (size : ℕ) → IsTestedSize size → size < 2 ^ 32
  small_size size s = let h = s.1 in omega (arith, h)

  pub tested_means : (size : ℕ) (form : Integer) (at : Pos) (v k : Expr) → IsTestedSize size → Means n v → ExprForm n k → Means n (Tested size form at v k)
  tested_means size form at v k s m h = record {
    form = (small_size size s, by (casts_one size v k), m.form, h);
    range = (s, m.range);
    ranged = λ e. not_ranged e;
  }
    where
      by : (b : Bool) → CastForm n b size v
      by true = tt
      by false = (s, m.range)

  -- ---- sizes

  pub tested_size : (structs : Structs) (t : CType) → 0 < size_of structs t → IsTestedSize (size_of structs t)
  tested_size structs t h = let small = sizes_are_small structs t in (omega (arith, h), small)

  -- ---- places

  near_fits : (q : Place) (t : CType) → IsNear q t → q.access.offset < 2 ^ 32
  near_fits q t (inl z) = omega (arith, z)
  near_fits q t (inr z) = let far = z.1 in omega (arith, far)

  nowhere_static : (q : Place) → is_named q.access.through ≡ false → IsLow q
  nowhere_static q h e = absurd (not_static q.access q.pointer h e)
    where
      not_static : (access : Access) (p : Expr) → is_named access.through ≡ false → is_static access p ≡ true → ⊥
      not_static access (Number a) h e = different (sym h ∙ e)
        where
          different : false ≡ true → ⊥
          different f = cc
      not_static access p h e = absurd cc

  module _ (structs : Structs) where
    judged_by : (t : CType) (e f : Expr) → IsSound structs t → (kind_of t ≡ Some kind.One → IsZero f) → Means n e → (k : Option Kind) → kind_of t ≡ k
        → JudgedForm n (through_kind k) (size_behind structs t) e f
    judged_by t e f s zero m None is = tt
    judged_by t e f s zero m (Some kind.Raw) is = tt
    judged_by t e f s zero m (Some kind.One) is = zero is
    judged_by t e f s zero m (Some kind.Arr) is = (tested_size structs (element_of t) (counted_sized structs t s (ap is_counted_kind is)), bounded e m)
    judged_by t e f s zero m (Some kind.Nt) is = (tested_size structs (element_of t) (counted_sized structs t s (ap is_counted_kind is)), bounded e m)

    pub element_means : (t : CType) (at : Pos) (index : Integer) (e f : Expr) → IsSound structs t → (kind_of t ≡ Some kind.One → IsZero f) → Means n e → ExprForm n f
        → PlaceMeans n (element_place structs t at index e f)
    element_means t at index e f s zero m h = record {
      access = (size_fits structs (element_of t), omega arith, judged_by t e f s zero m (kind_of t) refl);
      pointer = m.form;
      index = h;
    }

    pub target_means : (t : CType) (at : Pos) (e : Expr) → IsSound structs t → Means n e → PlaceMeans n (target_place structs t at e)
    target_means t at e s m = element_means t at _ e (Number 0) s (λ h. refl) m (omega arith)

    unnamed : (k : Option Kind) → is_named (through_kind k) ≡ false
    unnamed None = refl
    unnamed (Some kind.Raw) = refl
    unnamed (Some kind.One) = refl
    unnamed (Some kind.Arr) = refl
    unnamed (Some kind.Nt) = refl

    pub element_low : (t : CType) (at : Pos) (index : Integer) (e f : Expr) → IsLow (element_place structs t at index e f)
    element_low t at index e f = nowhere_static (element_place structs t at index e f) (unnamed (kind_of t))

    pub arrow_low : (tag : ℕ) (m : Name) (t : CType) (at : Pos) (e : Expr) → IsLow (member_place structs tag m (target_place structs t at e))
    arrow_low tag m t at e = nowhere_static (member_place structs tag m (target_place structs t at e)) (unnamed (kind_of t))

    pub member_means : (tag : ℕ) (m : Name) (q : Place) (t : CType) → IsNear (member_place structs tag m q) t → PlaceMeans n q → PlaceMeans n (member_place structs tag m q)
    member_means tag m q t near h = record { access = (h.access.0, near_fits (member_place structs tag m q) t near, h.access.2); pointer = h.pointer; index = h.index }

    pub nowhere_means : (at : Pos) → PlaceMeans n (nowhere at)
    nowhere_means at = record { access = (omega arith, omega arith, tt); pointer = omega arith; index = omega arith }

    pub nowhere_low : (at : Pos) → IsLow (nowhere at)
    nowhere_low at e = (0, refl, omega arith)

    -- ---- members

    -- a member of what is no member itself lies near
    pub member_near : (tag : ℕ) (m : Name) (q : Place) (u t : CType) → is_scalar t ≡ true → (is_scalar u ≡ true → ⊥) → IsNear q u → IsNear (member_place structs tag m q) t
    member_near tag m q u t scalar apart (inl z) =
        let far = offset_small structs tag (member_number m) in
        let less : q.access.offset + offset_of structs tag (member_number m) < 2 ^ 31 = omega (arith, z, far) in
        inr (scalar, less)
    member_near tag m q u t scalar apart (inr z) = absurd (apart z.0)

    pub member_low : (tag : ℕ) (m : Name) (q : Place) → IsLow q → IsLow (member_place structs tag m q)
    member_low tag m q low = low

    -- ---- what lies at a place

    scalar_form : (f : CType-F CType) → (is_integer_form f || is_pointer_form f) ≡ true → (if is_laid_out_form structs f then size_by_form structs f else 0) ≤ 4
    scalar_form CType-F.Int e = omega arith
    scalar_form CType-F.Unsigned e = omega arith
    scalar_form CType-F.Char e = omega arith
    scalar_form CType-F.Void e = absurd cc
    scalar_form (CType-F.Struct tag) e = absurd cc
    scalar_form (CType-F.Pointer k t) e = omega arith

    ends_low : (q : Place) (t : CType) (a : ℕ) → q.pointer ≡ Number a → a ≤ statics_end → IsNear q t → EndsLow q.access (size_of structs t) q.pointer
    ends_low q t a is low near = subst (λ p. EndsLow q.access (size_of structs t) p) (sym is) (by near)
      where
        small : size_of structs t < 2 ^ 31
        small = sizes_are_small structs t

        less : place_in a q.access.offset ≤ a + q.access.offset
        less = mod-le (a + q.access.offset) (2 ^ 32)

        by : IsNear q t → place_in a q.access.offset + size_of structs t < 2 ^ 32
        by (inl z) = omega (arith, less, small, low, z)
        by (inr z) = let four = scalar_form (out-CType t) z.0 in let far = z.1 in omega (arith, less, four, low, far)

    pub address_means : (t : CType) (q : Place) → PlaceMeans n q → IsLow q → IsNear q t → Means n (address_at structs t q)
    address_means t q m low near = record {
      form = (size_fits structs t, m.access, m.pointer, m.index);
      range = size_fits structs t;
      ranged = λ e. (let l = low e in ends_low q t l.0 l.1 l.2 near);
    }

    pub read_means : (t : CType) (c : Option Count) (q : Place) → IfSome c IsCount → PlaceMeans n q → Means n (read_at structs t c q)
    read_means t (Some c) q small m = record {
      form = (size_fits structs (element_of t), small, m.access, m.pointer, m.index);
      range = (size_fits structs (element_of t), small);
      ranged = λ e. (size_fits structs (element_of t), small);
    }
    read_means t None q small m = record { form = (m.access, m.pointer, m.index); range = tt; ranged = λ e. not_ranged e }

  -- ---- operators

  narrow_means : (b : Bool) (e : Expr) → Means n e → Means n (if b then Narrow e else e)
  narrow_means true e m = record { form = m.form; range = tt; ranged = λ e. not_ranged e }
  narrow_means false e m = m

  pub converted_means : (t : CType) (e : Expr) → Means n e → Means n (converted t e)
  converted_means t e m = narrow_means (is_char t) e m

  bare_means : (b : Bool) (t : CType) (e : Expr) → Means n e → Means n (if b then Bare e else converted t e)
  bare_means true t e m = record { form = m.form; range = tt; ranged = λ e. not_ranged e }
  bare_means false t e m = converted_means t e m

  pub cast_means : (t u : CType) (e : Expr) → Means n e → Means n (cast t u e)
  cast_means t u e m = bare_means (is_pointer t && not (same_element t u)) t e m

  plain_means : (o : _) (s : Bool) (at : Pos) (a b : Expr) → ExprForm n a → ExprForm n b → Means n (Binary o s at a b)
  plain_means o s at a b h i = record { form = (h, i); range = tt; ranged = λ e. not_ranged e }

  pub unary_means : (o : TreeOp) (at : Pos) (e : Expr) → Means n e → Means n (unary o at e)
  unary_means op.Minus at e m = plain_means operation.Sub true at (Number 0) e (omega arith) m.form
  unary_means op.Plus at e m = m
  unary_means op.Not at e m = plain_means operation.Eq true at e (Number 0) m.form (omega arith)
  unary_means op.Flip at e m = plain_means operation.Xor true at e (Number 0xFFFFFFFF) m.form (omega arith)
  unary_means o at e m = zero_means

  both_means : (a b : Expr) → Means n a → Means n b → Means n (And a b) × Means n (Or a b)
  both_means a b h i = (
    record { form = (h.form, i.form); range = tt; ranged = λ e. not_ranged e },
    record { form = (h.form, i.form); range = tt; ranged = λ e. not_ranged e },
  )

  binary_means : (o : TreeOp) (s : Bool) (at : Pos) (e f : Expr) → Means n e → Means n f → Means n (binary o s at e f)
  binary_means op.OrElse s at e f h i = (both_means e f h i).1
  binary_means op.AndThen s at e f h i = (both_means e f h i).0
  binary_means op.Or s at e f h i = plain_means operation.Or s at e f h.form i.form
  binary_means op.Xor s at e f h i = plain_means operation.Xor s at e f h.form i.form
  binary_means op.And s at e f h i = plain_means operation.And s at e f h.form i.form
  binary_means op.Eq s at e f h i = plain_means operation.Eq s at e f h.form i.form
  binary_means op.Ne s at e f h i = plain_means operation.Ne s at e f h.form i.form
  binary_means op.Lt s at e f h i = plain_means operation.Lt s at e f h.form i.form
  binary_means op.Le s at e f h i = plain_means operation.Le s at e f h.form i.form
  binary_means op.Gt s at e f h i = plain_means operation.Gt s at e f h.form i.form
  binary_means op.Ge s at e f h i = plain_means operation.Ge s at e f h.form i.form
  binary_means op.Shl s at e f h i = plain_means operation.Shl s at e f h.form i.form
  binary_means op.Shr s at e f h i = plain_means operation.Shr s at e f h.form i.form
  binary_means op.Add s at e f h i = plain_means operation.Add s at e f h.form i.form
  binary_means op.Sub s at e f h i = plain_means operation.Sub s at e f h.form i.form
  binary_means op.Mul s at e f h i = plain_means operation.Mul s at e f h.form i.form
  binary_means op.Div s at e f h i = plain_means operation.Div s at e f h.form i.form
  binary_means op.Rem s at e f h i = plain_means operation.Rem s at e f h.form i.form
  binary_means o s at e f h i = zero_means

  -- ---- pointer arithmetic

  ranged_inside : (checked b : Bool) → (checked && b) ≡ true → b ≡ true
  ranged_inside true b e = e
  ranged_inside false b e = absurd cc

  moved_means : (s : Shift) (p i : Expr) → s.size < 2 ^ 32 → ShiftForm s.checked s.size → Means n p → ExprForm n i → Means n (Moved s p i)
  moved_means s p i small h m f = record { form = (small, h, m.form, f); range = m.range; ranged = λ e. m.ranged (ranged_inside s.checked (is_ranged p) e) }

  added_means : (s : Shift) (i p : Expr) → s.size < 2 ^ 32 → ShiftForm s.checked s.size → Means n p → ExprForm n i → Means n (Added s i p)
  added_means s i p small h m f = record { form = (small, h, f, m.form); range = m.range; ranged = λ e. m.ranged (ranged_inside s.checked (is_ranged p) e) }

  module _ (structs : Structs) where
    shift_by : (t : CType) → IsSound structs t → (k : Option Kind) → kind_of t ≡ k → is_moved_kind k ≡ true → ShiftForm (is_checked_kind k) (size_behind structs t)
    shift_by t s (Some kind.Raw) is e = tt
    shift_by t s (Some kind.One) is e = absurd cc
    shift_by t s (Some kind.Arr) is e = tested_size structs (element_of t) (counted_sized structs t s (ap is_counted_kind is))
    shift_by t s (Some kind.Nt) is e = tested_size structs (element_of t) (counted_sized structs t s (ap is_counted_kind is))
    shift_by t s None is e = absurd cc

    shift_form : (t : CType) → IsSound structs t → is_moved t ≡ true → ShiftForm (is_checked_kind (kind_of t)) (size_behind structs t)
    shift_form t s e = shift_by t s (kind_of t) refl e

    -- pointers among operands are moved
    abbrev pub Moves : CType → Type 0
    Moves t = is_pointer t ≡ true → is_moved t ≡ true

    add_by : (left right : Bool) (t u : CType) (at : Pos) (e f : Expr) → is_pointer t ≡ left → is_pointer u ≡ right → IsSound structs t → IsSound structs u → Moves t → Moves u → Means n e → Means n f
        → Means n (if left then Moved (shift structs t u at false) e f
        else (if right then Added (shift structs u t at false) e f else binary op.Add (is_signed_at op.Add t u) at e f))
    add_by true right t u at e f l r s v moves more h i = moved_means (shift structs t u at false) e f (size_fits structs (element_of t)) (shift_form t s (moves l)) h i.form
    add_by false true t u at e f l r s v moves more h i = added_means (shift structs u t at false) e f (size_fits structs (element_of u)) (shift_form u v (more r)) i h.form
    add_by false false t u at e f l r s v moves more h i = binary_means op.Add (is_signed_at op.Add t u) at e f h i

    pub add_means : (t u : CType) (at : Pos) (e f : Expr) → IsSound structs t → IsSound structs u → Moves t → Moves u → Means n e → Means n f → Means n (of_operands structs op.Add t u at e f)
    add_means t u at e f s v moves more h i = add_by (is_pointer t) (is_pointer u) t u at e f refl refl s v moves more h i

    sub_by : (left right : Bool) (t u : CType) (at : Pos) (e f : Expr) → is_pointer t ≡ left → is_pointer u ≡ right → IsSound structs t → (is_pointer t ≡ true → is_pointer u ≡ false → is_moved t ≡ true)
        → Means n e → Means n f
        → Means n (if left then (if right then distance structs t at e f else Moved (shift structs t u at true) e f) else binary op.Sub (is_signed_at op.Sub t u) at e f)
    sub_by true true t u at e f l r s moves h i = record { form = ((h.form, i.form), size_fits structs (element_of t)); range = tt; ranged = λ e. not_ranged e }
    sub_by true false t u at e f l r s moves h i = moved_means (shift structs t u at true) e f (size_fits structs (element_of t)) (shift_form t s (moves l r)) h i.form
    sub_by false right t u at e f l r s moves h i = binary_means op.Sub (is_signed_at op.Sub t u) at e f h i

    -- ---- what the rows say of pointers

    no_integer : (t : CType) → is_integer t ≡ true → is_pointer t ≡ true → ⊥
    no_integer t i p = different (sym (no_pointer t i) ∙ p)
      where
        different : false ≡ true → ⊥
        different e = cc

    arithmetic_integers : (t u r : CType) → arithmetic_type t u ≡ Some r → (is_integer t ≡ true) × (is_integer u ≡ true)
    arithmetic_integers t u r e = by (is_integer t && is_integer u) refl e
      where
        by : (b : Bool) → (is_integer t && is_integer u) ≡ b → (if b then Some (common t u) else None) ≡ Some r → (is_integer t ≡ true) × (is_integer u ≡ true)
        by true h f = and_parts (is_integer t) (is_integer u) h
        by false h f = absurd cc

    sum_moves : (t u r : CType) → sum_type t u ≡ Some r → Moves t × Moves u
    sum_moves t u r e = by (is_moved t && is_integer u) refl (is_integer t && is_moved u) refl e
      where
        by : (b : Bool) → (is_moved t && is_integer u) ≡ b → (c : Bool) → (is_integer t && is_moved u) ≡ c → (if b then Some t else (if c then Some u else arithmetic_type t u)) ≡ Some r → Moves t × Moves u
        by true h c g f = let p = and_parts (is_moved t) (is_integer u) h in ((λ x. p.0), (λ x. absurd (no_integer u p.1 x)))
        by false h true g f = let p = and_parts (is_integer t) (is_moved u) g in ((λ x. absurd (no_integer t p.0 x)), (λ x. p.1))
        by false h false g f = let p = arithmetic_integers t u r f in ((λ x. absurd (no_integer t p.0 x)), (λ x. absurd (no_integer u p.1 x)))

    pub index_moves : (t u r : CType) → index_type t u ≡ Some r → (is_moved t ≡ true) × Moves u
    index_moves t u r e = by (is_moved t && is_integer u) refl e
      where
        by : (b : Bool) → (is_moved t && is_integer u) ≡ b → (if b then Some (element_of t) else None) ≡ Some r → (is_moved t ≡ true) × Moves u
        by true h f = let p = and_parts (is_moved t) (is_integer u) h in (p.0, (λ x. absurd (no_integer u p.1 x)))
        by false h f = absurd cc

    distance_pointers : (t u r : CType) → distance_type t u ≡ Some r → is_pointer u ≡ true
    distance_pointers t u r e = by (same_element t u) refl (not (is_void (element_of t))) e
      where
        by : (b : Bool) → same_element t u ≡ b → (c : Bool) → (if b && c then Some ctype.Int else None) ≡ Some r → is_pointer u ≡ true
        by true h c f = (and_parts (is_pointer u) _ (and_parts (is_pointer t) _ h).1).0
        by false h c f = absurd cc

    difference_moves : (t u r : CType) → difference_type t u ≡ Some r → is_pointer t ≡ true → is_pointer u ≡ false → is_moved t ≡ true
    difference_moves t u r e p q = by (is_moved t && is_integer u) refl (is_pointer t) p e
      where
        different : {X : Type 0} → false ≡ true → X
        different f = absurd cc

        by : (b : Bool) → (is_moved t && is_integer u) ≡ b → (c : Bool) → c ≡ true → (if b then Some t else (if c then distance_type t u else arithmetic_type t u)) ≡ Some r → is_moved t ≡ true
        by true h c g f = (and_parts (is_moved t) (is_integer u) h).0
        by false h true g f = different (sym q ∙ distance_pointers t u r f)
        by false h false g f = absurd cc

    pub sum_means : (t u r : CType) (at : Pos) (e f : Expr) → sum_type t u ≡ Some r → IsSound structs t → IsSound structs u → Means n e → Means n f → Means n (of_operands structs op.Add t u at e f)
    sum_means t u r at e f row s v h i = let m = sum_moves t u r row in add_means t u at e f s v m.0 m.1 h i

    pub difference_means : (t u r : CType) (at : Pos) (e f : Expr) → difference_type t u ≡ Some r → IsSound structs t → Means n e → Means n f → Means n (of_operands structs op.Sub t u at e f)
    difference_means t u r at e f row s h i = sub_by (is_pointer t) (is_pointer u) t u at e f refl refl s (difference_moves t u r row) h i

    pub other_means : (o : TreeOp) (s : Bool) (at : Pos) (e f : Expr) → Means n e → Means n f → Means n (binary o s at e f)
    other_means = binary_means

  elements_by : (one : Bool) (s : Bool) (at : Pos) (e : Expr) (size : ℕ) → size < 2 ^ 32 → ExprForm n e → ExprForm n (if one then e else Binary operation.Div s at e (Number size))
  elements_by true s at e size small h = h
  elements_by false s at e size small h = (h, small)

  pub elements_form : (size : ℕ) (t : CType) (at : Pos) (e : Expr) → size < 2 ^ 32 → ExprForm n e → ExprForm n (elements_in size t at e)
  elements_form size t at e small h = elements_by (size == 1) (is_signed t) at e size small h

-- What is made of well formed parts is well formed, and pointer arithmetic keeps a range.
use Rattle.std.proofs.Common.{◌≡◌, ◌⊎◌, ◌∙◌, inl, inr, refl, sym, ap, subst, rules, arith, ℕ, ◌+◌, ◌<◌, Bool, true, false}
use Rattle.std.specs.Prelude.{◌==◌, not, ◌&&◌, ◌||◌, if◌then◌else◌, Option, Some, None}
use Rattle.std.proofs.lemmas.Bool.{and_parts}
use Rattle.ckc_base.specs.declared.arithmetic.Width.TheVariants.{Byte, Word}
use Rattle.ckc_base.specs.declared.places.Pos.{Pos}
use Rattle.ckc_types.specs.declared.types.Kind.{Kind}
use Rattle.ckc_types.specs.declared.types.Kind.TheVariants as kind
use Rattle.ckc_types.specs.declared.types.CType.{CType, CType-F, out-CType, the_lemmas}
use Rattle.ckc_types.specs.declared.types.CType.TheVariants as ctype
use Rattle.ckc_types.specs.declared.types.Structs.{Structs}
use Rattle.ckc_syntax.specs.declared.tree.Name.{Name}
use Rattle.ckc_syntax.specs.declared.tree.TreeOp.{TreeOp}
use Rattle.ckc_syntax.specs.declared.tree.TreeOp.TheVariants as op
use Rattle.ckc_typed.specs.Constants.{size_of}
use Rattle.ckc_typed.specs.Declarations.{is_checked_kind}
use Rattle.ckc_typed.specs.Operands.{promoted, common, arithmetic_type, both_type, shift_type, comparison_type, is_compared, distance_type, is_moved, is_moved_kind, same_element, sum_type, difference_type, index_type, binary_type, unary_type, size_type}
use Rattle.ckc_typed.specs.Layouts.{member_number}
use Rattle.ckc_typed.specs.Types.{element_of, is_char, is_char_form, is_integer, is_integer_form, is_object_type, is_pointer, is_pointer_form, is_scalar, is_unsigned, is_void, kind_of, kind_in}
use Rattle.ckc_source.specs.declared.expr.Count.{Count}
use Rattle.ckc_source.specs.declared.expr.Count.TheVariants as count
use Rattle.ckc_source.specs.declared.expr.Integer.{Integer}
use Rattle.ckc_source.specs.declared.expr.Through.TheVariants as through
use Rattle.ckc_source.specs.declared.expr.Operation.TheVariants as operation
use Rattle.ckc_source.specs.Words as words
use Rattle.ckc_source.specs.Code.{Expr, Number, Moved, Added, Binary, Narrow, Bare, Program}
use Rattle.ckc_build_values.specs.Kinds.{count_of_kind, is_signed, width_of}
use Rattle.ckc_build_values.specs.Members.{offset_of}
use Rattle.ckc_build_values.specs.Operators.{converted, cast, unary, binary, is_signed_at, shift, distance, of_operands, elements_in}
use Rattle.ckc_build_values.specs.Places.{Place, address_at, element_place, member_place, read_at}
use Rattle.ckc_build_forms.specs.ckc_blame_steps.specs.ckc_blame_sound.specs.Cells.{IsPart}
use Rattle.ckc_build_forms.specs.ckc_blame_steps.specs.ckc_blame_sound.specs.Limited.{IsCountPart}
use Rattle.ckc_build_forms.specs.ckc_blame_steps.specs.ckc_blame_sound.proofs.Accesses.{scalar_part}
use Rattle.ckc_source_causes.specs.Layouts.{Layout, IsInElement, IsCellOf, IsCountOf}
use Rattle.ckc_source_causes.specs.Ranges.{GivesRange}
use Rattle.ckc_source_causes.specs.WellFormed.{Accesses, IsWellFormedCell, IsWellFormedExpr}
use Rattle.ckc_build_wellformed.proofs.Layouts.{layout_of, part_cell, scalar_in, scalar_sized, whole}
use Rattle.ckc_build_wellformed.proofs.Ranges.{Leads, accesses, checked_access, leads_to, through_checked}

pub different : {X : Type 0} → false ≡ true → X
different e = absurd cc

pub unlike : {X : Type 0} → true ≡ false → X
unlike e = absurd cc

-- ---- kinds of types

pub int_out : out-CType ctype.Int ≡ CType-F.Int
int_out = search (rules, the_lemmas)

pub unsigned_out : out-CType ctype.Unsigned ≡ CType-F.Unsigned
unsigned_out = search (rules, the_lemmas)

pub pointer_out : (k : Kind) (t : CType) → out-CType (ctype.Pointer k t) ≡ CType-F.Pointer k t
pointer_out k t = search (rules, the_lemmas)

pub int_kind : kind_of ctype.Int ≡ None
int_kind = ap (λ (x : CType-F CType). kind_in x) int_out

pub unsigned_kind : kind_of ctype.Unsigned ≡ None
unsigned_kind = ap (λ (x : CType-F CType). kind_in x) unsigned_out

pub pointer_kind : (k : Kind) (t : CType) → kind_of (ctype.Pointer k t) ≡ Some k
pointer_kind k t = ap (λ (x : CType-F CType). kind_in x) (pointer_out k t)

either_kind : (b : Bool) → kind_of (if b then ctype.Unsigned else ctype.Int) ≡ None
either_kind true = unsigned_kind
either_kind false = int_kind

pub integer_kind : (t : CType) → is_integer t ≡ true → kind_of t ≡ None
integer_kind t h = by (out-CType t) h
  where
    by : (x : CType-F CType) → is_integer_form x ≡ true → kind_in x ≡ None
    by CType-F.Int h = refl
    by CType-F.Unsigned h = refl
    by CType-F.Char h = refl
    by CType-F.Void h = absurd cc
    by (CType-F.Struct tag) h = absurd cc
    by (CType-F.Pointer k u) h = absurd cc

pub no_kind : (t : CType) → is_pointer t ≡ false → kind_of t ≡ None
no_kind t h = by (out-CType t) h
  where
    by : (x : CType-F CType) → is_pointer_form x ≡ false → kind_in x ≡ None
    by CType-F.Int h = refl
    by CType-F.Unsigned h = refl
    by CType-F.Char h = refl
    by CType-F.Void h = refl
    by (CType-F.Struct tag) h = refl
    by (CType-F.Pointer k u) h = absurd cc

pub kind_pointer : (t : CType) (k : Kind) → kind_of t ≡ Some k → is_pointer t ≡ true
kind_pointer t k h = by (out-CType t) h
  where
    by : (x : CType-F CType) → kind_in x ≡ Some k → is_pointer_form x ≡ true
    by CType-F.Int h = absurd cc
    by CType-F.Unsigned h = absurd cc
    by CType-F.Char h = absurd cc
    by CType-F.Void h = absurd cc
    by (CType-F.Struct tag) h = absurd cc
    by (CType-F.Pointer j u) h = refl

pub pointer_some : (t : CType) → is_pointer t ≡ true → (k : Kind) × (kind_of t ≡ Some k)
pointer_some t h = by (out-CType t) h
  where
    by : (x : CType-F CType) → is_pointer_form x ≡ true → (k : Kind) × (kind_in x ≡ Some k)
    by CType-F.Int h = absurd cc
    by CType-F.Unsigned h = absurd cc
    by CType-F.Char h = absurd cc
    by CType-F.Void h = absurd cc
    by (CType-F.Struct tag) h = absurd cc
    by (CType-F.Pointer k u) h = (k, refl)

pub integer_no_pointer : (t : CType) → is_integer t ≡ true → is_pointer t ≡ false
integer_no_pointer t h = by (out-CType t) h
  where
    by : (x : CType-F CType) → is_integer_form x ≡ true → is_pointer_form x ≡ false
    by CType-F.Int h = refl
    by CType-F.Unsigned h = refl
    by CType-F.Char h = refl
    by CType-F.Void h = absurd cc
    by (CType-F.Struct tag) h = absurd cc
    by (CType-F.Pointer k u) h = absurd cc

moved_some : (t : CType) (k : Option Kind) → kind_of t ≡ k → is_moved_kind k ≡ true → is_pointer t ≡ true
moved_some t (Some k) is h = kind_pointer t k is
moved_some t None is h = absurd cc

pub moved_pointer : (t : CType) → is_moved t ≡ true → is_pointer t ≡ true
moved_pointer t h = moved_some t (kind_of t) refl h

pub moved_no_one : {X : Type 0} (t : CType) → is_moved t ≡ true → kind_of t ≡ Some kind.One → X
moved_no_one t h is = different (sym (ap is_moved_kind is) ∙ h)

none_checked : {X : Type 0} (k : Option Kind) → k ≡ None → is_checked_kind k ≡ true → X
none_checked k n h = different (sym (ap is_checked_kind n) ∙ h)

some_same : {A : Type 0} {x y : A} → ◌≡◌ {A = Option A} (Some x) (Some y) → x ≡ y
some_same e = cc

-- ---- rows

pub arithmetic_kind : (t u r : CType) → arithmetic_type t u ≡ Some r → kind_of r ≡ None
arithmetic_kind t u r h = by (is_integer t && is_integer u) h
  where
    by : (b : Bool) → (if b then Some (common t u) else None) ≡ Some r → kind_of r ≡ None
    by true e = ap kind_of (sym (some_same e)) ∙ either_kind (is_unsigned t || is_unsigned u)
    by false e = absurd cc

if_kind : (b : Bool) (t r : CType) → kind_of t ≡ None → (if b then Some t else None) ≡ Some r → kind_of r ≡ None
if_kind true t r h e = ap kind_of (sym (some_same e)) ∙ h
if_kind false t r h e = absurd cc

shift_kind : (t u r : CType) → shift_type t u ≡ Some r → kind_of r ≡ None
shift_kind t u r h = if_kind (is_integer t && is_integer u) (promoted t) r (either_kind (is_unsigned t)) h

both_kind : (t u r : CType) → both_type t u ≡ Some r → kind_of r ≡ None
both_kind t u r h = if_kind (is_scalar t && is_scalar u) ctype.Int r int_kind h

comparison_kind : (t : CType) (m : Bool) (u : CType) (n : Bool) (r : CType) → comparison_type t m u n ≡ Some r → kind_of r ≡ None
comparison_kind t m u n r h = if_kind (is_compared t m u n) ctype.Int r int_kind h

distance_kind : (t u r : CType) → distance_type t u ≡ Some r → kind_of r ≡ None
distance_kind t u r h = if_kind (same_element t u && not (is_void (element_of t))) ctype.Int r int_kind h

pub size_kind : (t r : CType) → size_type t ≡ Some r → kind_of r ≡ None
size_kind t r h = if_kind (is_object_type t) ctype.Unsigned r unsigned_kind h

pub unary_kind : (o : TreeOp) (t r : CType) → unary_type o t ≡ Some r → (o ≡ op.Deref → ⊥) → kind_of r ≡ None
unary_kind op.Minus t r h n = if_kind (is_integer t) (promoted t) r (either_kind (is_unsigned t)) h
unary_kind op.Plus t r h n = if_kind (is_integer t) (promoted t) r (either_kind (is_unsigned t)) h
unary_kind op.Flip t r h n = if_kind (is_integer t) (promoted t) r (either_kind (is_unsigned t)) h
unary_kind op.Not t r h n = if_kind (is_scalar t) ctype.Int r int_kind h
unary_kind op.Deref t r h n = absurd (n refl)
unary_kind o t r h n = absurd cc

-- ---- pointer arithmetic

module _ (g : Program) (structs : Structs) where
  abbrev pub L : Layout
  L = layout_of structs

  -- the value of a pointer of a type gives a range
  abbrev pub Gives : CType → Bool → Expr → Type 0
  Gives t b e = GivesRange g L (element_of t) b e

  -- what `+` moves is the pointer
  pub record IsSum (t u r : CType) (e f : Expr) (at : Pos) : Type 0 where
    pub no_one : kind_of r ≡ Some kind.One → ⊥
    pub given : (z : Bool) → is_checked_kind (kind_of r) ≡ true → (is_pointer t ≡ true → r ≡ t → Gives r z e) → (is_pointer t ≡ false → r ≡ u → Gives r z f) → Gives r z (of_operands structs op.Add t u at e f)

  pub sum_is : (t u r : CType) (e f : Expr) (at : Pos) → sum_type t u ≡ Some r → IsSum t u r e f at
  sum_is t u r e f at h = by (is_moved t && is_integer u) refl (is_integer t && is_moved u) refl h
    where
      left : is_pointer t ≡ true → r ≡ t → is_checked_kind (kind_of r) ≡ true → (z : Bool) → Gives r z e → Gives r z (of_operands structs op.Add t u at e f)
      left p is c z g =
          subst (λ b. Gives r z (if b then Moved (shift structs t u at false) e f else (if is_pointer u then Added (shift structs u t at false) e f else binary op.Add (is_signed_at op.Add t u) at e f))) (sym p)
          (sym (ap (λ x. is_checked_kind (kind_of x)) is) ∙ c, ap (λ x. L.size (element_of x)) (sym is), g)

      right : is_pointer t ≡ false → is_pointer u ≡ true → r ≡ u → is_checked_kind (kind_of r) ≡ true → (z : Bool) → Gives r z f → Gives r z (of_operands structs op.Add t u at e f)
      right p q is c z g =
          subst (λ b. Gives r z (if b then Moved (shift structs t u at false) e f else (if is_pointer u then Added (shift structs u t at false) e f else binary op.Add (is_signed_at op.Add t u) at e f))) (sym p)
          (subst (λ b. Gives r z (if b then Added (shift structs u t at false) e f else binary op.Add (is_signed_at op.Add t u) at e f)) (sym q)
          (sym (ap (λ x. is_checked_kind (kind_of x)) is) ∙ c, ap (λ x. L.size (element_of x)) (sym is), g))

      by : (b : Bool) → (is_moved t && is_integer u) ≡ b → (c : Bool) → (is_integer t && is_moved u) ≡ c → (if b then Some t else (if c then Some u else arithmetic_type t u)) ≡ Some r → IsSum t u r e f at
      by true m c n g =
          let both = and_parts (is_moved t) (is_integer u) m in
          let same : r ≡ t = sym (some_same g) in
          let p = moved_pointer t both.0 in
          record { no_one = λ is. moved_no_one t both.0 (ap kind_of (sym same) ∙ is); given = λ z c x y. left p same c z (x p same) }
      by false m true n g =
          let both = and_parts (is_integer t) (is_moved u) n in
          let same : r ≡ u = sym (some_same g) in
          let p = integer_no_pointer t both.0 in
          record { no_one = λ is. moved_no_one u both.1 (ap kind_of (sym same) ∙ is); given = λ z c x y. right p (moved_pointer u both.1) same c z (y p same) }
      by false m false n g =
          let none = arithmetic_kind t u r g in
          record { no_one = λ is. none_some (sym none ∙ is); given = λ z c x y. none_checked (kind_of r) none c }
        where
          none_some : ◌≡◌ {A = Option Kind} None (Some kind.One) → ⊥
          none_some e = cc

  pub record IsDifference (t u r : CType) (e f : Expr) (at : Pos) : Type 0 where
    pub no_one : kind_of r ≡ Some kind.One → ⊥
    pub given : (z : Bool) → is_checked_kind (kind_of r) ≡ true → (is_pointer t ≡ true → r ≡ t → Gives r z e) → Gives r z (of_operands structs op.Sub t u at e f)

  pub difference_is : (t u r : CType) (e f : Expr) (at : Pos) → difference_type t u ≡ Some r → IsDifference t u r e f at
  difference_is t u r e f at h = by (is_moved t && is_integer u) refl (is_pointer t) h
    where
      left : is_pointer t ≡ true → is_pointer u ≡ false → r ≡ t → is_checked_kind (kind_of r) ≡ true → (z : Bool) → Gives r z e → Gives r z (of_operands structs op.Sub t u at e f)
      left p q is c z g =
          subst (λ b. Gives r z (if b then (if is_pointer u then distance structs t at e f else Moved (shift structs t u at true) e f) else binary op.Sub (is_signed_at op.Sub t u) at e f)) (sym p)
          (subst (λ b. Gives r z (if b then distance structs t at e f else Moved (shift structs t u at true) e f)) (sym q)
          (sym (ap (λ x. is_checked_kind (kind_of x)) is) ∙ c, ap (λ x. L.size (element_of x)) (sym is), g))

      none_some : ◌≡◌ {A = Option Kind} None (Some kind.One) → ⊥
      none_some e = cc

      without : kind_of r ≡ None → IsDifference t u r e f at
      without none = record { no_one = λ is. none_some (sym none ∙ is); given = λ z c x. none_checked (kind_of r) none c }

      by : (b : Bool) → (is_moved t && is_integer u) ≡ b → (c : Bool) → (if b then Some t else (if c then distance_type t u else arithmetic_type t u)) ≡ Some r → IsDifference t u r e f at
      by true m c g =
          let both = and_parts (is_moved t) (is_integer u) m in
          let same : r ≡ t = sym (some_same g) in
          let p = moved_pointer t both.0 in
          record { no_one = λ is. moved_no_one t both.0 (ap kind_of (sym same) ∙ is); given = λ z c x. left p (integer_no_pointer u both.1) same c z (x p same) }
      by false m true g = without (distance_kind t u r g)
      by false m false g = without (arithmetic_kind t u r g)

  -- `p[e]` moves p
  pub index_given : (t u r : CType) (e f : Expr) (at : Pos) → index_type t u ≡ Some r → is_checked_kind (kind_of t) ≡ true → (z : Bool) → Gives t z e → Gives t z (of_operands structs op.Add t u at e f)
  index_given t u r e f at h c z g = by (is_moved t && is_integer u) refl h
    where
      by : (b : Bool) → (is_moved t && is_integer u) ≡ b → (if b then Some (element_of t) else None) ≡ Some r → Gives t z (of_operands structs op.Add t u at e f)
      by true m x =
          subst (λ b. Gives t z (if b then Moved (shift structs t u at false) e f else (if is_pointer u then Added (shift structs u t at false) e f else binary op.Add (is_signed_at op.Add t u) at e f)))
          (sym (moved_pointer t (and_parts (is_moved t) (is_integer u) m).0)) (c, refl, g)
      by false m x = absurd cc

pub index_pointer : (t u r : CType) → index_type t u ≡ Some r → is_pointer t ≡ true
index_pointer t u r h = by (is_moved t && is_integer u) refl h
  where
    by : (b : Bool) → (is_moved t && is_integer u) ≡ b → (if b then Some (element_of t) else None) ≡ Some r → is_pointer t ≡ true
    by true m x = moved_pointer t (and_parts (is_moved t) (is_integer u) m).0
    by false m x = absurd cc

-- the other operators give integers
abbrev pub IsMoving : TreeOp → Type 0
IsMoving op.Add = Unit {0}
IsMoving op.Sub = Unit {0}
IsMoving o = ⊥

pub other_kind : (o : TreeOp) (t : CType) (m : Bool) (u : CType) (n : Bool) (r : CType) → (IsMoving o → ⊥) → binary_type o t m u n ≡ Some r → kind_of r ≡ None
other_kind op.OrElse t m u n r other h = both_kind t u r h
other_kind op.AndThen t m u n r other h = both_kind t u r h
other_kind op.Or t m u n r other h = arithmetic_kind t u r h
other_kind op.Xor t m u n r other h = arithmetic_kind t u r h
other_kind op.And t m u n r other h = arithmetic_kind t u r h
other_kind op.Eq t m u n r other h = comparison_kind t m u n r h
other_kind op.Ne t m u n r other h = comparison_kind t m u n r h
other_kind op.Lt t m u n r other h = comparison_kind t m u n r h
other_kind op.Le t m u n r other h = comparison_kind t m u n r h
other_kind op.Gt t m u n r other h = comparison_kind t m u n r h
other_kind op.Ge t m u n r other h = comparison_kind t m u n r h
other_kind op.Shl t m u n r other h = shift_kind t u r h
other_kind op.Shr t m u n r other h = shift_kind t u r h
other_kind op.Add t m u n r other h = absurd (other tt)
other_kind op.Sub t m u n r other h = absurd (other tt)
other_kind op.Mul t m u n r other h = arithmetic_kind t u r h
other_kind op.Div t m u n r other h = arithmetic_kind t u r h
other_kind op.Rem t m u n r other h = arithmetic_kind t u r h
other_kind o t m u n r other h = absurd cc

-- ---- integers and pointers in elements

-- a pointer is a word
pub pointer_wide : (t : CType) → is_pointer t ≡ true → width_of t ≡ Word
pointer_wide t h = by (out-CType t) h
  where
    by : (f : CType-F CType) → is_pointer_form f ≡ true → (if is_char_form f then Byte else Word) ≡ Word
    by (CType-F.Pointer k u) e = refl
    by CType-F.Int e = absurd cc
    by CType-F.Unsigned e = absurd cc
    by CType-F.Char e = absurd cc
    by CType-F.Void e = absurd cc
    by (CType-F.Struct tag) e = absurd cc

-- a number of elements that no member keeps
abbrev pub IsFixed : Count → Type 0
IsFixed (count.Fixed n) = Unit {0}
IsFixed (count.Member offset form add) = ⊥

-- a kind of pointer whose number of elements is known has a number of them
pub kind_fixed : (t : CType) (n : Count) → count_of_kind (kind_of t) ≡ Some n → (is_pointer t ≡ true) × IsFixed n
kind_fixed t n e = by (kind_of t) refl e
  where
    by : (k : Option Kind) → kind_of t ≡ k → count_of_kind k ≡ Some n → (is_pointer t ≡ true) × IsFixed n
    by (Some kind.One) is f = (kind_pointer t kind.One is, subst IsFixed (some_same f) tt)
    by (Some kind.Nt) is f = (kind_pointer t kind.Nt is, subst IsFixed (some_same f) tt)
    by (Some kind.Raw) is f = absurd cc
    by (Some kind.Arr) is f = absurd cc
    by None is f = absurd cc

-- ---- what is well formed

module _ (g : Program) (structs : Structs) where
  abbrev F : Expr → Type 0
  F = IsWellFormedExpr g (layout_of structs)

  -- an access leads to elements of a type of which this holds
  abbrev pub Goes : Place → (CType → Type 0) → Type 0
  Goes q P = Accesses g (layout_of structs) q.access q.pointer q.index P

  -- what is at a place of a type lies in an element of another
  abbrev pub LiesAt : CType → Place → CType → Type 0
  LiesAt t q u = IsInElement (layout_of structs) u q.access.offset (size_of structs t) ((layout_of structs).is_wide t)

  -- A place of a type: its access is well formed, and what is there lies in an element; in checked code it goes through no `T *`.
  -- It is the begin of an element, or it is an integer or a pointer in one.
  pub record PlaceFormed (Safe : Type 0) (t : CType) (q : Place) : Type 0 where
    pub access : Goes q (LiesAt t q)
    pub pointer : F q.pointer
    pub index : F q.index
    pub near : (q.access.offset ≡ 0) ⊎ (is_scalar t ≡ true)
    pub checked : Safe → q.access.through ≡ through.Raw → ⊥

  goes_on : (q : Place) (P Q : CType → Type 0) → ((u : CType) → P u → Q u) → Goes q P → Goes q Q
  goes_on q P Q f h = accesses g (layout_of structs) q.access q.pointer q.index P Q f h

  -- an integer or a pointer at a place, in the element of it
  scalar_cell : (t : CType) (q : Place) → is_scalar t ≡ true → (u : CType) → LiesAt t q u → IsCellOf (layout_of structs) u q.access.offset (width_of t)
  scalar_cell t q scalar u h =
      let same : q.access.offset + 0 ≡ q.access.offset = omega arith in
      subst (λ n. IsCellOf (layout_of structs) u n (width_of t)) same
      (part_cell structs t u q.access.offset 0 (width_of t) (scalar_sized structs t scalar) (scalar_part structs t scalar) h)

  -- what a place of an integer or a pointer reads or writes
  pub cell_formed : (Safe : Type 0) (t : CType) (q : Place) → PlaceFormed Safe t q → is_scalar t ≡ true → IsWellFormedCell g (layout_of structs) (width_of t) q.access q.pointer q.index
  cell_formed Safe t q h scalar = goes_on q (LiesAt t q) (λ u. IsCellOf (layout_of structs) u q.access.offset (width_of t)) (scalar_cell t q scalar) h.access

  -- where the number of elements is kept lies in the element in which the pointer at a place lies
  abbrev pub HasCount : CType → Place → Count → Type 0
  HasCount t q n = Goes q (λ u. LiesAt t q u × IsCountOf (layout_of structs) u n)

  pub read_formed : (Safe : Type 0) (t : CType) (c : Option Count) (q : Place) → PlaceFormed Safe t q → is_scalar t ≡ true
      → ((n : Count) → c ≡ Some n → (is_pointer t ≡ true) × HasCount t q n) → F (read_at structs t c q)
  read_formed Safe t (Some n) q h scalar counts =
      let both = counts n refl in (
        goes_on q (λ u. LiesAt t q u × IsCountOf (layout_of structs) u n) (λ u. IsCellOf (layout_of structs) u q.access.offset Word × IsCountOf (layout_of structs) u n)
            (λ u m. (subst (IsCellOf (layout_of structs) u q.access.offset) (pointer_wide t both.0) (scalar_cell t q scalar u m.0), m.1)) both.1,
        h.pointer,
        h.index,
      )
  read_formed Safe t None q h scalar counts = (cell_formed Safe t q h scalar, h.pointer, h.index)

  -- the address of a place
  pub address_formed : (Safe : Type 0) (t : CType) (q : Place) → PlaceFormed Safe t q → F (address_at structs t q)
  address_formed Safe t q h = (goes_on q (LiesAt t q) (λ u. Unit {0}) (λ u m. tt) h.access, h.pointer, h.index)

  pub address_gives : (Safe : Type 0) (t : CType) (q : Place) → PlaceFormed Safe t q → Safe → GivesRange g (layout_of structs) t false (address_at structs t q)
  address_gives Safe t q h safe =
      let a = checked_access g (layout_of structs) q.access q.pointer q.index (LiesAt t q) (h.checked safe) h.access in
      (refl, refl, (a.0, a.1, a.3, a.2))

  pub element_formed : (Safe : Type 0) (t : CType) (at : Pos) (index : Integer) (e f : Expr) → Leads g (layout_of structs) (kind_of t) (element_of t) e f → F e → F f
      → (Safe → is_checked_kind (kind_of t) ≡ true) → PlaceFormed Safe (element_of t) (element_place structs t at index e f)
  element_formed Safe t at index e f leads h i checked = record {
    access = leads_to g (layout_of structs) (kind_of t) (size_of structs (element_of t)) (element_of t) e f (LiesAt (element_of t) (element_place structs t at index e f)) refl leads (whole structs (element_of t));
    pointer = h;
    index = i;
    near = inl refl;
    checked = λ safe. through_checked (kind_of t) (checked safe);
  }

  -- a member that is an integer or a pointer lies in what its structure lies in
  member_in : (u t : CType) (tag : ℕ) (n : Name) (q : Place) → 0 < size_of structs u → is_scalar t ≡ true → IsPart structs u (offset_of structs tag (member_number n)) (width_of t)
      → (x : CType) → LiesAt u q x → LiesAt t (member_place structs tag n q) x
  member_in u t tag n q sized scalar part x h =
      scalar_in structs t x (q.access.offset + offset_of structs tag (member_number n)) scalar
      (part_cell structs u x q.access.offset (offset_of structs tag (member_number n)) (width_of t) sized part h)

  pub member_formed : (Safe : Type 0) (u t : CType) (tag : ℕ) (n : Name) (q : Place) → PlaceFormed Safe u q → 0 < size_of structs u → is_scalar t ≡ true
      → IsPart structs u (offset_of structs tag (member_number n)) (width_of t) → PlaceFormed Safe t (member_place structs tag n q)
  member_formed Safe u t tag n q h sized scalar part = record {
    access = goes_on q (LiesAt u q) (LiesAt t (member_place structs tag n q)) (member_in u t tag n q sized scalar part) h.access;
    pointer = h.pointer;
    index = h.index;
    near = inr scalar;
    checked = h.checked;
  }

  -- ---- numbers of elements

  pub fixed_count : (Safe : Type 0) (t : CType) (q : Place) (n : Count) → PlaceFormed Safe t q → IsFixed n → HasCount t q n
  fixed_count Safe t q (count.Fixed n) h fixed = goes_on q (LiesAt t q) (λ u. LiesAt t q u × Unit {0}) (λ u m. (m, tt)) h.access
  fixed_count Safe t q (count.Member offset form add) h fixed = absurd fixed

  -- the member that keeps one lies in the structure
  pub member_count : (Safe : Type 0) (u t : CType) (tag : ℕ) (m : Name) (q : Place) (n : Count) → PlaceFormed Safe u q → 0 < size_of structs u → is_scalar u ≡ false → is_scalar t ≡ true
      → IsPart structs u (offset_of structs tag (member_number m)) (width_of t) → IsCountPart structs u n → HasCount t (member_place structs tag m q) n
  member_count Safe u t tag m q n h sized bare scalar part counted =
      goes_on q (LiesAt u q) (λ x. LiesAt t (member_place structs tag m q) x × IsCountOf (layout_of structs) x n)
      (λ x lies. (member_in u t tag m q sized scalar part x lies, count_in x lies n counted h.near)) h.access
    where
      count_in : (x : CType) → LiesAt u q x → (n : Count) → IsCountPart structs u n → (q.access.offset ≡ 0) ⊎ (is_scalar u ≡ true) → IsCountOf (layout_of structs) x n
      count_in x lies (count.Fixed k) part near = tt
      count_in x lies (count.Member offset form add) part (inl zero) =
          let same : q.access.offset + offset ≡ offset = omega (arith, zero) in
          subst (λ k. IsCellOf (layout_of structs) x k (words.width_of form)) same (part_cell structs u x q.access.offset offset (words.width_of form) sized part lies)
      count_in x lies (count.Member offset form add) part (inr scalar) = different (sym bare ∙ scalar)

  pub narrow_formed : (b : Bool) (e : Expr) → F e → F (if b then Narrow e else e)
  narrow_formed true e h = h
  narrow_formed false e h = h

  pub converted_formed : (t : CType) (e : Expr) → F e → F (converted t e)
  converted_formed t e h = narrow_formed (is_char t) e h

  pub cast_formed : (t u : CType) (e : Expr) → F e → F (cast t u e)
  cast_formed t u e h = by (is_pointer t && not (same_element t u))
    where
      by : (b : Bool) → F (if b then Bare e else converted t e)
      by true = h
      by false = converted_formed t e h

  pub unary_formed : (o : TreeOp) (at : Pos) (e : Expr) → F e → F (unary o at e)
  unary_formed op.Minus at e h = (tt, h)
  unary_formed op.Plus at e h = h
  unary_formed op.Not at e h = (h, tt)
  unary_formed op.Flip at e h = (h, tt)
  unary_formed o at e h = tt

  binary_formed : (o : TreeOp) (s : Bool) (at : Pos) (e f : Expr) → F e → F f → F (binary o s at e f)
  binary_formed op.OrElse s at e f h i = (h, i)
  binary_formed op.AndThen s at e f h i = (h, i)
  binary_formed op.Or s at e f h i = (h, i)
  binary_formed op.Xor s at e f h i = (h, i)
  binary_formed op.And s at e f h i = (h, i)
  binary_formed op.Eq s at e f h i = (h, i)
  binary_formed op.Ne s at e f h i = (h, i)
  binary_formed op.Lt s at e f h i = (h, i)
  binary_formed op.Le s at e f h i = (h, i)
  binary_formed op.Gt s at e f h i = (h, i)
  binary_formed op.Ge s at e f h i = (h, i)
  binary_formed op.Shl s at e f h i = (h, i)
  binary_formed op.Shr s at e f h i = (h, i)
  binary_formed op.Add s at e f h i = (h, i)
  binary_formed op.Sub s at e f h i = (h, i)
  binary_formed op.Mul s at e f h i = (h, i)
  binary_formed op.Div s at e f h i = (h, i)
  binary_formed op.Rem s at e f h i = (h, i)
  binary_formed o s at e f h i = tt

  pub operands_formed : (o : TreeOp) (t u : CType) (at : Pos) (e f : Expr) → F e → F f → F (of_operands structs o t u at e f)
  operands_formed op.Add t u at e f h i = by (is_pointer t) (is_pointer u)
    where
      by : (b c : Bool) → F (if b then Moved (shift structs t u at false) e f else (if c then Added (shift structs u t at false) e f else binary op.Add (is_signed_at op.Add t u) at e f))
      by true c = (h, i)
      by false true = (h, i)
      by false false = (h, i)
  operands_formed op.Sub t u at e f h i = by (is_pointer t) (is_pointer u)
    where
      by : (b c : Bool) → F (if b then (if c then distance structs t at e f else Moved (shift structs t u at true) e f) else binary op.Sub (is_signed_at op.Sub t u) at e f)
      by true true = ((h, i), tt)
      by true false = (h, i)
      by false c = (h, i)
  operands_formed o t u at e f h i = binary_formed o (is_signed_at o t u) at e f h i

  pub elements_formed : (size : ℕ) (t : CType) (at : Pos) (e : Expr) → F e → F (elements_in size t at e)
  elements_formed size t at e h = by (size == 1)
    where
      by : (b : Bool) → F (if b then e else Binary operation.Div (is_signed t) at e (Number size))
      by true = h
      by false = (h, tt)

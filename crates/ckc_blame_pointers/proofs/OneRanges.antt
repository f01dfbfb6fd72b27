-- The range of a `_Ptr` is known, if those of locals have the bounds of one element.
use Rattle.std.proofs.Common.{◌≡◌, ◌⊎◌, ⊎_elim, inl, inr, refl, sym, ap, subst, ◌∙◌, ℕ, Bool, true, false}
use Rattle.std.specs.Prelude.{◌==◌, ◌&&◌, ◌||◌, not, if◌then◌else◌, slice_get, is_some, Option, None, Some}
use Rattle.std.specs.List.{list_any}
use Rattle.std.proofs.lemmas.Bool.{and_parts}
use Rattle.ckc_base.specs.declared.arithmetic.Mode.{Mode}
use Rattle.ckc_base.specs.declared.arithmetic.Mode.TheVariants.{Checked, Unchecked}
use Rattle.ckc_base.specs.declared.places.Pos.{Pos}
use Rattle.ckc_types.specs.declared.types.Kind.{Kind}
use Rattle.ckc_types.specs.declared.types.Kind.TheVariants as kind
use Rattle.ckc_types.specs.declared.types.CType.{CType, CType-F, out-CType}
use Rattle.ckc_types.specs.declared.types.CType.TheVariants as ctype
use Rattle.ckc_types.specs.declared.types.MemberBounds.{MemberBounds}
use Rattle.ckc_types.specs.declared.types.MemberBounds.TheVariants as mbounds
use Rattle.ckc_linear.specs.declared.forms.Base.TheVariants as base
use Rattle.ckc_syntax.specs.declared.tree.Name.{Name}
use Rattle.ckc_syntax.specs.declared.tree.Name.TheVariants as name
use Rattle.ckc_syntax.specs.declared.tree.TreeOp.{TreeOp}
use Rattle.ckc_syntax.specs.declared.tree.TreeOp.TheVariants as op
use Rattle.ckc_syntax.specs.declared.tree.Node.{Node-F, map-Node, out-Node}
use Rattle.ckc_syntax.specs.declared.tree.Expr.{every_here-Expr}
use Rattle.ckc_typed.specs.declared.environment.Globals.{Globals}
use Rattle.ckc_typed.specs.declared.typed.Note.{Note}
use Rattle.ckc_typed.specs.declared.typed.Range as noted
use Rattle.ckc_typed.specs.declared.typed.Range.TheVariants as range
use Rattle.ckc_typed.specs.Conversions.{is_null, is_null_form}
use Rattle.ckc_typed.specs.Expressions.{string_type, address_kind, has_address}
use Rattle.ckc_typed.specs.Operands.{is_moved, is_moved_kind, is_raw_kind, choice_type, same_element, promoted, arithmetic_type, distance_type, binary_type, is_compared, is_cast}
use Rattle.ckc_typed.specs.Trees.{NotedLimits, NotedNode, NotedExpr, NotedLayer}
use Rattle.ckc_typed.specs.Types.{type_written, is_integer, is_unsigned, is_pointer, is_pointer_form, is_object_type, is_scalar, is_void, kind_of, kind_in, element_of}
use Rattle.ckc_typed_welltyped.specs.Expressions.{AnyLimits, AnyNode, unary_row}
use Rattle.ckc_blame_sound.specs.ckc_bounds_declared.specs.Written.{bounds_of_kind}
use Rattle.ckc_blame_sound.specs.ckc_bounds_points.specs.declared.frame.Bounds.{Bounds}
use Rattle.ckc_blame_sound.specs.ckc_bounds_points.specs.declared.frame.Local.{Local}
use Rattle.ckc_blame_sound.specs.ckc_bounds_points.specs.Flow.{State}
use Rattle.ckc_blame_sound.specs.ckc_bounds_ranges.specs.Rows.{range_by, range_widened, range_of_bounds, range_of_array}
use Rattle.ckc_blame_sound.specs.ckc_bounds_views.specs.Fresh.{member_bounds, is_checked}
use Rattle.ckc_blame_sound.specs.ckc_bounds_views.specs.Judged.{is_missing, is_declared_object}
use Rattle.ckc_blame_sound.specs.ckc_bounds_views.specs.Parts.{LimitsView, NodeView, View, NodeOfViews}
use Rattle.ckc_blame_sound.specs.ckc_bounds_views.specs.Ranges.{own_numbers, pointer_range, range_by_type, range_in_struct, range_of_object, range_of_static}
use Rattle.ckc_blame_sound.specs.ckc_bounds_views.specs.declared.variables.Own.{Own}
use Rattle.ckc_blame_sound.specs.ckc_bounds_views.specs.Views.{node_view, view, view_of_limits, view_of_node}
use Rattle.ckc_blame_sound.specs.ckc_bounds_statements.specs.Paths.{Here}
use Rattle.ckc_source.specs.Eval.{Store}
use Rattle.ckc_blame_sound.specs.Settings.{Setting}
use Rattle.ckc_blame_sound.specs.Typed.{IsRow, HasRow, IsTyped, Agrees}
use Rattle.ckc_blame_sound.proofs.Types.{some_is, no_pointer, number_wide, size_wide, sign_row, arithmetic_row, wide_type}
use Rattle.ckc_blame_pointers.specs.Covered.{DeclareOnes, IsStaticInteger, IsStaticArray, IsStaticPointer, IsStaticBounded, IsStaticStructure, IsIntegerMember, IsPointerMember, IsArrow, IsPointerArrow, IsCoveredNode, IsUncheckedNode, IsCoveredExpr, AreCovered}
use Rattle.ckc_blame_pointers.proofs.Addresses.{address_row}
use Rattle.ckc_blame_pointers.proofs.Arrows.{arrow_node}
use Rattle.ckc_blame_pointers.proofs.Casts.{no_limits}
use Rattle.ckc_blame_pointers.proofs.Dots.{dot_node}
use Rattle.ckc_blame_pointers.proofs.Inside.{view_is, node_view_is}
use Rattle.ckc_blame_pointers.proofs.Scalars.{no_structure, kind_scalar}
use Rattle.ckc_blame_pointers.proofs.Truths.{either}

-- ---- types

one_form : (f : CType-F CType) → kind_in f ≡ Some kind.One → is_pointer_form f ≡ true
one_form (CType-F.Pointer k u) e = refl
one_form CType-F.Int e = absurd (cc)
one_form CType-F.Unsigned e = absurd (cc)
one_form CType-F.Char e = absurd (cc)
one_form CType-F.Void e = absurd (cc)
one_form (CType-F.Struct tag) e = absurd (cc)

one_pointer : (t : CType) → kind_of t ≡ Some kind.One → is_pointer t ≡ true
one_pointer t e = one_form (out-CType t) e

-- An integer is no `_Ptr`, and neither is a pointer that arithmetic moves.
no_integer : (t : CType) → is_integer t ≡ true → kind_of t ≡ Some kind.One → ⊥
no_integer t i one = let p = one_pointer t one in let q = no_pointer t i in absurd (cc)

abbrev IsNoOne : CType → Type 0
IsNoOne t = (is_integer t ≡ true) ⊎ (is_moved t ≡ true)

no_one : (t : CType) → IsNoOne t → kind_of t ≡ Some kind.One → ⊥
no_one t (inl i) one = no_integer t i one
no_one t (inr m) one = let moved : is_moved t ≡ false = ap is_moved_kind one in absurd (cc)

int_integer : is_integer ctype.Int ≡ true
int_integer = (wide_type false).integer

type_if : (b : Bool) (t r : CType) → ◌≡◌ {A = Option CType} (if b then Some t else None) (Some r) → t ≡ r
type_if true t r e = some_is t r e
type_if false t r e = absurd (cc)

int_if : (b : Bool) (r : CType) → ◌≡◌ {A = Option CType} (if b then Some ctype.Int else None) (Some r) → is_integer r ≡ true
int_if b r e = subst (λ t. is_integer t ≡ true) (type_if b ctype.Int r e) int_integer

promoted_if : (b : Bool) (t r : CType) → ◌≡◌ {A = Option CType} (if b then Some (promoted t) else None) (Some r) → is_integer r ≡ true
promoted_if b t r e = subst (λ t. is_integer t ≡ true) (type_if b (promoted t) r e) (wide_type (is_unsigned t)).integer

arithmetic_integer : (t u r : CType) → arithmetic_type t u ≡ Some r → is_integer r ≡ true
arithmetic_integer t u r e = (arithmetic_row t u r e).2.integer

module _ (t u r : CType) where
  sum_no_one : (if is_moved t && is_integer u then Some t else (if is_integer t && is_moved u then Some u else arithmetic_type t u)) ≡ Some r → IsNoOne r
  sum_no_one e = by (is_moved t && is_integer u) refl (is_integer t && is_moved u) refl e
    where
      by : (b : Bool) → (is_moved t && is_integer u) ≡ b → (c : Bool) → (is_integer t && is_moved u) ≡ c → (if b then Some t else (if c then Some u else arithmetic_type t u)) ≡ Some r → IsNoOne r
      by true m c n e = inr (subst (λ t. is_moved t ≡ true) (some_is t r e) (and_parts (is_moved t) (is_integer u) m).0)
      by false m true n e = inr (subst (λ t. is_moved t ≡ true) (some_is u r e) (and_parts (is_integer t) (is_moved u) n).1)
      by false m false n e = inl (arithmetic_integer t u r e)

  difference_no_one : (if is_moved t && is_integer u then Some t else (if is_pointer t then distance_type t u else arithmetic_type t u)) ≡ Some r → IsNoOne r
  difference_no_one e = by (is_moved t && is_integer u) refl (is_pointer t) e
    where
      by : (b : Bool) → (is_moved t && is_integer u) ≡ b → (c : Bool) → (if b then Some t else (if c then distance_type t u else arithmetic_type t u)) ≡ Some r → IsNoOne r
      by true m c e = inr (subst (λ t. is_moved t ≡ true) (some_is t r e) (and_parts (is_moved t) (is_integer u) m).0)
      by false m true e = inl (int_if (same_element t u && not (is_void (element_of t))) r e)
      by false m false e = inl (arithmetic_integer t u r e)

  -- What a binary operator gives is no `_Ptr`.
  binary_no_one : (o : TreeOp) (m n : Bool) → binary_type o t m u n ≡ Some r → IsNoOne r
  binary_no_one op.OrElse m n e = inl (int_if (is_scalar t && is_scalar u) r e)
  binary_no_one op.AndThen m n e = inl (int_if (is_scalar t && is_scalar u) r e)
  binary_no_one op.Or m n e = inl (arithmetic_integer t u r e)
  binary_no_one op.Xor m n e = inl (arithmetic_integer t u r e)
  binary_no_one op.And m n e = inl (arithmetic_integer t u r e)
  binary_no_one op.Eq m n e = inl (int_if (is_compared t m u n) r e)
  binary_no_one op.Ne m n e = inl (int_if (is_compared t m u n) r e)
  binary_no_one op.Lt m n e = inl (int_if (is_compared t m u n) r e)
  binary_no_one op.Le m n e = inl (int_if (is_compared t m u n) r e)
  binary_no_one op.Gt m n e = inl (int_if (is_compared t m u n) r e)
  binary_no_one op.Ge m n e = inl (int_if (is_compared t m u n) r e)
  binary_no_one op.Shl m n e = inl (promoted_if (is_integer t && is_integer u) t r e)
  binary_no_one op.Shr m n e = inl (promoted_if (is_integer t && is_integer u) t r e)
  binary_no_one op.Add m n e = sum_no_one e
  binary_no_one op.Sub m n e = difference_no_one e
  binary_no_one op.Mul m n e = inl (arithmetic_integer t u r e)
  binary_no_one op.Div m n e = inl (arithmetic_integer t u r e)
  binary_no_one op.Rem m n e = inl (arithmetic_integer t u r e)
  binary_no_one o m n e = absurd (cc)

choice_no_one : (t u v r : CType) → choice_type t u v ≡ Some r → IsNoOne r
choice_no_one t u v r e = by (is_scalar t) e
  where
    by : (b : Bool) → (if b then arithmetic_type u v else None) ≡ Some r → IsNoOne r
    by true e = inl (arithmetic_integer u v r e)
    by false e = absurd (cc)

cast_no_one : (t u : CType) (n : Bool) → is_cast t u n ≡ true → kind_of t ≡ Some kind.One → ⊥
cast_no_one t u n e one =
    ⊎_elim (λ h. no_integer t (and_parts (is_integer t) (is_integer u) h).0 one)
    (λ h. let raw = (and_parts (is_raw_kind (kind_of t)) (is_pointer u || n) h).0 in let other : is_raw_kind (kind_of t) ≡ false = ap is_raw_kind one in absurd (cc))
    (either (is_integer t && is_integer u) (is_raw_kind (kind_of t) && (is_pointer u || n))
    (and_parts (is_object_type t) ((is_integer t && is_integer u) || (is_raw_kind (kind_of t) && (is_pointer u || n))) e).1)

string_no_one : (mode : Mode) → kind_of (string_type mode) ≡ Some kind.One → ⊥
unfolding out-CType denote.Hole.Carrier.out
string_no_one Checked e = absurd (cc)
string_no_one Unchecked e = absurd (cc)

address_no_one : (mode : Mode) (t r : CType) → ctype.Pointer (address_kind mode) t ≡ r → kind_of r ≡ Some kind.One → ⊥
address_no_one mode t r e one = (address_row mode t r e).several one

-- ---- ranges

known_if : (b : Bool) (q : noted.Range) → b ≡ true → is_missing q ≡ false → is_missing (if b then q else range.Missing) ≡ false
known_if true q p e = e
known_if false q p e = absurd (cc)

by_type : (k : Option Kind) (own : ℕ) → k ≡ Some kind.One → is_missing (range_by_type k own) ≡ false
by_type k own e = ap (λ k. is_missing (range_by_type k own)) e

one_bounds : (k : ℕ) (wide : Bool) (l : Local) → l.bounds ≡ bounds_of_kind (base.Local k) (Some kind.One) → is_missing (range_by (Some l) wide) ≡ false
one_bounds k true l e = ap (λ b. is_missing (range_widened b)) e
one_bounds k false l e = ap (λ b. is_missing (range_of_bounds b)) e

bare_object : (o : Option (Option Bounds)) (t : CType) (own : ℕ) → is_declared_object o ≡ false → range_of_object o t own ≡ range_by_type (kind_of t) own
bare_object (Some (Some b)) t own e = absurd (cc)
bare_object (Some None) t own e = refl
bare_object None t own e = refl

module _ (m : Mode) (globals : Globals) (s : Setting) (agrees : Agrees globals s) (ones : DeclareOnes s) (store : Store) (here : Here) (first fresh : ℕ) (viewed : (e : NotedExpr) → (view s.frame e).ctype ≡ e.note.ctype) where
  abbrev viewed_node : NotedLayer → NodeOfViews
  viewed_node = map-Node Name Note NotedLimits NotedNode NotedExpr LimitsView NodeView View (view_of_limits s.frame) (view_of_node s.frame) (view s.frame)

  member_known : (t : CType) (own : Own) (c : MemberBounds) → kind_of t ≡ Some kind.One → c ≡ mbounds.Nothing → is_missing (if is_checked (kind_of t) then range_in_struct (kind_of t) c own else range.Missing) ≡ false
  member_known t own c one bare = ap (λ k. is_missing (if is_checked k then range_in_struct k c own else range.Missing)) one ∙ ap (λ c. is_missing (range_in_struct (Some kind.One) c own)) bare

  module _ (note : Note) (one : kind_of note.ctype ≡ Some kind.One) where
    abbrev at : State
    at = here.at

    abbrev t : CType
    t = note.ctype

    abbrev RangeOf : NotedLayer → noted.Range
    RangeOf x = pointer_range t (node_view s.frame (viewed_node x)) first fresh at

    abbrev IsKnown : NotedLayer → Type 0
    IsKnown x = (is_null_form x ≡ true) ⊎ (is_missing (RangeOf x) ≡ false)

    static_known : (k : ℕ) → (IsStaticInteger s t k ⊎ (IsStaticArray s t k ⊎ (IsStaticPointer s store t k ⊎ (IsStaticBounded s store t k ⊎ IsStaticStructure s t k)))) → IsKnown (Node-F.Name (name.Static k))
    static_known k (inl c) = absurd (no_integer t (subst (λ t. is_integer t ≡ true) refl c.integer) one)
    static_known k (inr (inl c)) = let is : ◌≡◌ {A = Option Kind} (Some c.kind) (Some kind.One) = sym c.kind_is ∙ one in let same : c.kind ≡ kind.One = cc in absurd (c.several same)
    static_known k (inr (inr (inl c))) = inr (known_if (is_pointer t) _ (one_pointer t one) (ap is_missing (by_object ∙ bare_object (slice_get s.frame.objects k) t own.value c.bare) ∙ by_type (kind_of t) own.value one))
      where
        own : Own
        own = own_numbers (node_view s.frame (viewed_node (Node-F.Name (name.Static k)))) first fresh at

        by_object : range_of_static s.frame k (slice_get s.frame.statics k) t own.value ≡ range_of_object (slice_get s.frame.objects k) t own.value
        by_object = ap (λ o. range_of_static s.frame k o t own.value) c.judged ∙ ap (λ (o : Option Kind). if is_some o then range_of_array k c.object else range_of_object (slice_get s.frame.objects k) t own.value) c.single
    static_known k (inr (inr (inr (inl c)))) = absurd (c.several one)
    static_known k (inr (inr (inr (inr c)))) = absurd (no_structure t (kind_scalar t kind.One one) c.tag c.struct)

    unary_known : (mode : Mode) (o : TreeOp) (e : NotedExpr) → unary_row globals mode o e ≡ Some t → IsKnown (Node-F.Un o e)
    unary_known mode op.Deref e row = inr (known_if (is_pointer t) _ (one_pointer t one) (by_type (kind_of t) _ one))
    unary_known mode op.Address e row = absurd (address_no_one mode e.note.ctype t (type_if (has_address globals e) (ctype.Pointer (address_kind mode) e.note.ctype) t row) one)
    unary_known mode op.Minus e row = absurd (no_integer t (sign_row e.note.ctype t row).1.integer one)
    unary_known mode op.Plus e row = absurd (no_integer t (sign_row e.note.ctype t row).1.integer one)
    unary_known mode op.Flip e row = absurd (no_integer t (sign_row e.note.ctype t row).1.integer one)
    unary_known mode op.Not e row = absurd (no_integer t (int_if (is_scalar e.note.ctype) t row) one)
    unary_known mode o e row = absurd (cc)

    -- what `.` and `->` read
    dot_known : (e : NotedExpr) (n : Name) (spot : Pos) → IsIntegerMember s e.note.ctype t n ⊎ IsPointerMember s store e.note.ctype t n → IsKnown (Node-F.Dot e n spot)
    dot_known e n spot (inl c) = absurd (no_integer t c.integer one)
    dot_known e n spot (inr c) = inr (known_if (is_pointer t) _ (one_pointer t one)
        (ap is_missing ((dot_node s store here e n spot t c (viewed e)).ranged _ first fresh at.widened) ∙ member_known t _ (member_bounds s.frame.structs (record { tag = c.tag; number = c.number })) one (c.judged ∙ c.single one)))

    arrow_known : (e : NotedExpr) (n : Name) (spot : Pos) → IsIntegerMember s (element_of e.note.ctype) t n ⊎ IsPointerMember s store (element_of e.note.ctype) t n → IsKnown (Node-F.Arrow e n spot)
    arrow_known e n spot (inl c) = absurd (no_integer t c.integer one)
    arrow_known e n spot (inr c) = inr (known_if (is_pointer t) _ (one_pointer t one)
        (ap is_missing ((arrow_node s store here e n spot t c (viewed e)).ranged _ first fresh at.widened) ∙ member_known t _ (member_bounds s.frame.structs (record { tag = c.tag; number = c.number })) one (c.judged ∙ c.single one)))

    -- It is null, or its range is known.
    layer_known : (x : NotedLayer) → IsRow globals s x note → IsCoveredNode s store here.seen t x ⊎ ((m ≡ Unchecked) × IsUncheckedNode s store t x) → IsKnown x
    layer_known (Node-F.Number n unsigned) row node = absurd (no_integer t (subst (λ t. is_integer t ≡ true) (sym row.row) (number_wide unsigned).integer) one)
    layer_known (Node-F.Text bytes) row node = absurd (string_no_one row.mode (sym (ap kind_of row.row) ∙ one))
    layer_known Node-F.Null row node = inl refl
    layer_known (Node-F.Name (name.Local k)) row (inl node) =
        inr (known_if (is_pointer t) _ (one_pointer t one) (ap (λ l. is_missing (range_by l (list_any (λ p. p == k) at.widened))) node.there
        ∙ one_bounds k (list_any (λ p. p == k) at.widened) node.local (ones k node.local node.there (ap kind_of (agrees.locals k node.local t node.there row.row) ∙ one))))
    layer_known (Node-F.Name (name.Static k)) row (inl node) = static_known k node
    layer_known (Node-F.Un o e) row node = unary_known row.mode o e row.row
    layer_known (Node-F.Bin o e f) row node = absurd (no_one t (binary_no_one e.note.ctype f.note.ctype t o (is_null e) (is_null f) row.row) one)
    layer_known (Node-F.Pick e f g) row node = absurd (no_one t (choice_no_one e.note.ctype f.note.ctype g.note.ctype t row.row) one)
    layer_known (Node-F.Index e f) row node = inr (known_if (is_pointer t) _ (one_pointer t one) (by_type (kind_of t) _ one))
    layer_known (Node-F.Dot e n spot) row (inl node) = dot_known e n spot node.member
    layer_known (Node-F.Dot e n spot) row (inr node) = dot_known e n spot node.1.1
    layer_known (Node-F.Arrow e n spot) row (inl node) = arrow_known e n spot (⊎_elim (λ (c : IsArrow s e n t). inl c.member) (λ (c : IsPointerArrow s store e n t). inr c.member) node)
    layer_known (Node-F.Arrow e n spot) row (inr node) = arrow_known e n spot node.1
    layer_known (Node-F.Cast w e) row node = absurd (cast_no_one (type_written w) e.note.ctype (is_null e) row.row.0 (sym (ap kind_of row.row.1) ∙ one))
    layer_known (Node-F.Size w) row node = absurd (no_integer t (size_wide (type_written w) t row.row).integer one)
    layer_known (Node-F.Tested w e None) row node = inr (known_if (is_pointer t) _ (one_pointer t one) refl)
    layer_known (Node-F.Tested w e (Some l)) row node = absurd (no_limits (type_written w) t row.row.2 row.row.0 one)
    layer_known (Node-F.Trusted w e None) row node = inr (known_if (is_pointer t) _ (one_pointer t one) refl)
    layer_known (Node-F.Trusted w e (Some l)) row node = absurd (no_limits (type_written w) t row.row.2 row.row.0 one)
    layer_known x row (inl node) = absurd node
    layer_known x row (inr node) = absurd node.1

  -- An expression that is a `_Ptr` is null, or its range is known.
  pub one_known : (e : NotedExpr) → IsTyped globals s e → AreCovered m s store here.seen e → kind_of e.note.ctype ≡ Some kind.One → (is_null e ≡ true) ⊎ (is_missing ((view s.frame e).range first fresh here.at) ≡ false)
  one_known e typed covered one =
      subst (λ q. (is_null e ≡ true) ⊎ (is_missing q ≡ false)) (sym range_is)
      (layer_known e.note one (out-Node Name Note e.node) (every_here-Expr Name Note AnyLimits AnyNode (HasRow globals s) e typed) (every_here-Expr Name Note AnyLimits AnyNode (IsCoveredExpr m s store here.seen) e covered).node)
    where
      range_is : (view s.frame e).range first fresh here.at ≡ pointer_range e.note.ctype (node_view s.frame (viewed_node (out-Node Name Note e.node))) first fresh here.at
      range_is = ap (λ (v : View). v.range first fresh here.at) (view_is s.frame e) ∙ ap (λ n. pointer_range e.note.ctype n first fresh here.at) (node_view_is s.frame e.node)

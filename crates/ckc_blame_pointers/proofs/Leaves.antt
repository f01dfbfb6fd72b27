-- The claims of numbers, of null, of locals, of unary operators, of `?:` and of casts.
use Rattle.std.proofs.Common.{◌≡◌, ◌⊎◌, inl, refl, sym, ap, subst, ◌∙◌, ℕ, Bool, true, false, List, [], arith}
use Rattle.std.specs.Prelude.{◌+◌, ◌%◌, ◌==◌, ◌<◌, ◌^◌, ◌&&◌, ◌||◌, not, if◌then◌else◌, slice_index, pos, Option, None, Some, Ok}
use Rattle.std.specs.Option.{option_or}
use Rattle.std.proofs.lemmas.Bool.{eqb-true}
use Rattle.ckc_base.specs.declared.places.Pos.{Pos}
use Rattle.ckc_base.specs.Words.{flag}
use Rattle.ckc_types.specs.declared.types.CType.{CType}
use Rattle.ckc_linear.specs.declared.forms.Base.TheVariants as base
use Rattle.ckc_linear.specs.declared.forms.Form.{Form}
use Rattle.ckc_syntax.specs.declared.tree.Name.TheVariants as name
use Rattle.ckc_syntax.specs.declared.tree.Node.{Node-F}
use Rattle.ckc_syntax.specs.declared.tree.TreeOp.{TreeOp}
use Rattle.ckc_syntax.specs.declared.tree.TreeOp.TheVariants as op
use Rattle.ckc_typed.specs.declared.environment.Globals.{Globals}
use Rattle.ckc_typed.specs.declared.typed.Range.{Range}
use Rattle.ckc_typed.specs.declared.typed.Range.TheVariants as range
use Rattle.ckc_typed.specs.Operands.{is_raw_kind, same_element, sign_type, truth_type, arithmetic_type, choice_type, is_cast}
use Rattle.ckc_typed.specs.Trees.{NotedExpr, TypeTree}
use Rattle.ckc_typed.specs.Types.{is_integer, is_pointer, is_char, is_scalar, is_object_type, kind_of, element_of}
use Rattle.ckc_blame_sound.specs.ckc_bounds_points.specs.declared.frame.Local as locals
use Rattle.ckc_blame_sound.specs.ckc_bounds_points.specs.Frames.{local_at}
use Rattle.ckc_blame_sound.specs.ckc_bounds_points.specs.Forms.{base_form}
use Rattle.ckc_blame_sound.specs.ckc_bounds_ranges.specs.Rows.{range_of_local}
use Rattle.ckc_blame_sound.specs.ckc_bounds_views.specs.Parts.{NodeView}
use Rattle.ckc_blame_sound.specs.ckc_bounds_views.specs.Places.{with_own, pointer_place}
use Rattle.ckc_blame_sound.specs.ckc_bounds_views.specs.Ranges.{pointer_range}
use Rattle.ckc_blame_sound.specs.ckc_bounds_views.specs.Views.{node_view, view}
use Rattle.ckc_blame_sound.specs.ckc_bounds_statements.specs.Paths.{Here}
use Rattle.ckc_source.specs.declared.expr.Operation.TheVariants as operation
use Rattle.ckc_source.specs.declared.outcome.Range.TheVariants.{Without}
use Rattle.ckc_source.specs.declared.outcome.Value.{Value}
use Rattle.ckc_source.specs.Code.{Expr, Number, Binary, Choice, Narrow, Bare}
use Rattle.ckc_source.specs.Eval.{Store, plain, evaluated}
use Rattle.ckc_source.specs.Runs.{is_true}
use Rattle.ckc_build_values.specs.Kinds.{pointee_of, size_behind}
use Rattle.ckc_blame_pointers.proofs.Ones.{local_one}
use Rattle.ckc_build_values.specs.Operators.{converted, cast}
use Rattle.ckc_build_values.specs.Expressions.{local_in}
use Rattle.ckc_blame_sound.specs.Settings.{Setting}
use Rattle.ckc_blame_sound.specs.Values.{IsWordOf}
use Rattle.ckc_blame_sound.specs.Points.{HoldsAt}
use Rattle.ckc_blame_sound.specs.Typed.{Agrees}
use Rattle.ckc_blame_sound.proofs.Types.{some_is, no_pointer, wide_word, byte_word, sign_row}
use Rattle.ckc_blame_pointers.specs.Valuations.{IsReadIn}
use Rattle.ckc_blame_pointers.specs.Covered.{DeclareLocals, IsInScope}
use Rattle.ckc_blame_pointers.specs.Meant.{IsNotStuck}
use Rattle.ckc_blame_pointers.proofs.Claims.{SideGoes, weaker, goes_on, stays, nothing_read, still_placed, placed_as}
use Rattle.ckc_blame_pointers.proofs.Moving.{at_base}
use Rattle.ckc_blame_pointers.proofs.Nodes.{node_fresh, NodeClaims, narrow, integer_claims, quiet_claims, local_between, local_readable, LocalComes, local_comes}
use Rattle.ckc_blame_pointers.proofs.Rows.{IsSmall, operation_word, Wide, wide_small, int_row, arithmetic_wide}
use Rattle.ckc_blame_pointers.proofs.Binary.{ExprClaims, small_value, flag_small}
use Rattle.ckc_blame_sound.proofs.IntegerNodes.{not_side}

zero_word : (t : CType) → IsWordOf t 0
zero_word t = by (is_char t)
  where
    by : (b : Bool) → 0 < (if b then 256 else 2 ^ 32)
    by true = omega arith
    by false = omega arith

module _ (s : Setting) (store : Store) (entry : List ℕ) (here : Here) (h : HoldsAt s store entry here) where
  -- ---- numbers

  pub number_claims : (n : ℕ) (unsigned : Bool) (t : CType) → is_integer t ≡ true → is_char t ≡ false → n < 2 ^ 32
      → IsNotStuck (NodeClaims s store entry here h t (node_view s.frame (Node-F.Number n unsigned))) (plain n)
  number_claims n unsigned t integer wide small =
      integer_claims s store entry here h t (node_view s.frame (Node-F.Number n unsigned)) (no_pointer t integer) refl (record { number = n; range = Without }) (wide_word t n wide small) (eqb-true n 0) (eqb-true n 0)
      (λ b e. subst (SideGoes s store entry here) (sym (nothing_read s store entry (λ facts. None) b here.at)) (stays s store entry here h))

  pub size_claims : (w : TypeTree) (n : ℕ) (t : CType) → is_integer t ≡ true → is_char t ≡ false → n < 2 ^ 32
      → IsNotStuck (NodeClaims s store entry here h t (node_view s.frame (Node-F.Size w))) (plain n)
  size_claims w n t integer wide small =
      quiet_claims s store entry here h t (node_view s.frame (Node-F.Size w)) (no_pointer t integer) refl refl refl (λ b. nothing_read s store entry (λ facts. None) b here.at) (record { number = n; range = Without }) (wide_word t n wide small)

  -- ---- null

  abbrev null_view : NodeView
  null_view = node_view s.frame Node-F.Null

  pub null_claims : (t : CType) → IsNotStuck (NodeClaims s store entry here h t (node_view s.frame Node-F.Null)) (plain 0)
  null_claims t = record {
    word = zero_word t;
    placed = λ first fresh before low little are fits.
        placed_as s store entry here t (first + with_own t null_view) (first + with_own t null_view) (λ facts. None) (pointer_place t null_view first) (λ at. range.Any) (pointer_range t null_view first fresh) [] (node_fresh t null_view here.at) first fresh before
        (record { number = 0; range = Without }) refl (λ facts. none (is_pointer t)) (λ widened. refl) refl
        (still_placed s store entry here t (first + with_own t null_view) (λ facts. None) (λ at. range.Any) [] first fresh before (record { number = 0; range = Without }) little are fits (λ facts. tt) (λ widened. tt) (λ facts. tt) (λ v fits facts. tt)
        (λ v fits. refl) (λ widened bounded v fits. refl));
    one = λ ones e. inl refl;
    zero = λ e. refl;
    wide = λ e. narrow s store entry here h null_view refl;
    sides = λ b e. subst (SideGoes s store entry here) (sym (nothing_read s store entry (λ facts. None) b here.at)) (stays s store entry here h);
  }
    where
      none : (b : Bool) → ◌≡◌ {A = Option Form} (if b then option_or None None else None) None
      none true = refl
      none false = refl

  -- ---- locals

  module _ (globals : Globals) (agrees : Agrees globals s) (declares : DeclareLocals s) (k : ℕ) (scope : IsInScope s here.seen k) where
    abbrev node : NodeView
    node = node_view s.frame (Node-F.Name (name.Local k))

    abbrev kept : CType
    kept = scope.local.ctype

    word_is : IsWordOf kept (slice_index store.locals k)
    word_is = h.words k scope.local scope.there

    local_same : (l : locals.Local) → local_at s.frame k ≡ Some l → scope.local ≡ l
    local_same l there = some_is scope.local l (sym scope.there ∙ there)

    pointer_local : is_pointer kept ≡ true → (p : Value) → LocalComes s store entry here h globals agrees declares k scope (range_of_local s.frame k here.at.widened) p
        → NodeClaims s store entry here h kept node p
    pointer_local pointer p c = record {
      word = subst (IsWordOf kept) (sym c.0) word_is;
      placed = λ first fresh before low little are fits.
          placed_as s store entry here kept (first + with_own kept node) (first + with_own kept node) (λ facts. Some (base_form (base.Local k))) (pointer_place kept node first) (λ at. range_of_local s.frame k at.widened) (pointer_range kept node first fresh) []
          (node_fresh kept node here.at) first fresh before p refl (λ facts. place) range_there refl
          (still_placed s store entry here kept (first + with_own kept node) (λ facts. Some (base_form (base.Local k))) (λ at. range_of_local s.frame k at.widened) [] first fresh before p little are fits
          (λ facts. tt) (λ widened. local_between s store entry here h globals agrees declares k scope widened first (first + with_own kept node)) (λ facts l there. let same : scope.local ≡ l = local_same l there in ap (λ (l : locals.Local). element_of l.ctype) (sym same))
          (λ v fits facts. ap pos c.0 ∙ sym (at_base s store.locals kept v (fits 0 (inl refl)) (base.Local k))) c.1
          (λ widened bounded v fits. subst (IsReadIn s store v kept (range_of_local s.frame k widened)) (sym c.0) (local_readable s store entry here h globals agrees declares k scope widened bounded v fits)));
      one = λ ones e.
          subst (λ n. (n ≡ 0) ⊎ (is_true store.shapes store.blocks (pointee_of s.text.layout kept) n n (n + size_behind s.text.layout kept) ≡ true)) (sym c.0)
          (local_one globals s agrees declares ones store entry here h k scope.local scope.there scope.seen_there e);
      zero = λ e. absurd (cc);
      wide = λ e. narrow s store entry here h node refl;
      sides = λ b e. subst (SideGoes s store entry here) (sym (nothing_read s store entry (λ facts. None) b here.at)) (stays s store entry here h);
    }
      where
        place : ◌≡◌ {A = Option Form} (if is_pointer kept then Some (base_form (base.Local k)) else None) (Some (base_form (base.Local k)))
        place = ap (λ b. if b then Some (base_form (base.Local k)) else None) pointer

        range_there : (widened : List ℕ) → ◌≡◌ {A = Range} (if is_pointer kept then range_of_local s.frame k widened else range.Missing) (range_of_local s.frame k widened)
        range_there widened = ap (λ b. if b then range_of_local s.frame k widened else range.Missing) pointer

    -- a local that is read with the range that it is judged to have
    pub local_claims : (r : Range) → (is_integer kept ≡ true → r ≡ range.Missing) → (is_pointer kept ≡ true → r ≡ range_of_local s.frame k here.at.widened)
        → IsNotStuck (NodeClaims s store entry here h kept node) (evaluated store (local_in s.text s.variables kept k r))
    local_claims r bare noted = by (is_integer kept) (is_pointer kept) refl refl scope.scalar
      where
        by : (a b : Bool) → is_integer kept ≡ a → is_pointer kept ≡ b → (a || b) ≡ true → IsNotStuck (NodeClaims s store entry here h kept node) (evaluated store (local_in s.text s.variables kept k r))
        by true b i p e =
            subst (λ r. IsNotStuck (NodeClaims s store entry here h kept node) (evaluated store (local_in s.text s.variables kept k r))) (sym (bare i))
            (quiet_claims s store entry here h kept node (no_pointer kept i) refl refl refl (λ b. nothing_read s store entry (λ facts. None) b here.at) (record { number = slice_index store.locals k; range = Without }) word_is)
        by false true i p e =
            subst (λ r. IsNotStuck (NodeClaims s store entry here h kept node) (evaluated store (local_in s.text s.variables kept k r))) (sym (noted p))
            (weaker (evaluated store (local_in s.text s.variables kept k (range_of_local s.frame k here.at.widened)))
            (local_comes s store entry here h globals agrees declares k scope (range_of_local s.frame k here.at.widened) refl) (λ v is c. pointer_local p v c))
        by false false i p e = absurd (cc)

  -- ---- unary operators

  module _ (e : NotedExpr) (r : CType) (place : Pos) (v : Expr) (inside : IsNotStuck (ExprClaims s store entry here e) (evaluated store v)) where
    abbrev unary : TreeOp → NodeView
    unary o = node_view s.frame (Node-F.Un o (view s.frame e))

    small_inside : IsNotStuck IsSmall (evaluated store v)
    small_inside = small_value s store entry here e (evaluated store v) inside

    sign_wide : sign_type e.note.ctype ≡ Some r → Wide r
    sign_wide row = record { unsigned = _; wide = (sign_row e.note.ctype r row).1 }

    pub minus_claims : sign_type e.note.ctype ≡ Some r → IsNotStuck (NodeClaims s store entry here h r (unary op.Minus)) (evaluated store (Binary operation.Sub true place (Number 0) v))
    minus_claims row =
        weaker (evaluated store (Binary operation.Sub true place (Number 0) v)) (operation_word store operation.Sub true place (Number 0) v zero_small small_inside) (λ p is k.
        quiet_claims s store entry here h r (unary op.Minus) (no_pointer r (sign_wide row).wide.integer) refl refl refl (λ b. nothing_read s store entry (λ facts. None) b here.at) p (wide_small r (sign_wide row) p.number k))
      where
        zero_small : IsNotStuck IsSmall (plain 0)
        zero_small = omega arith

    pub plus_claims : sign_type e.note.ctype ≡ Some r → IsNotStuck (NodeClaims s store entry here h r (unary op.Plus)) (evaluated store v)
    plus_claims row =
        weaker (evaluated store v) small_inside (λ p is k.
        quiet_claims s store entry here h r (unary op.Plus) (no_pointer r (sign_wide row).wide.integer) refl refl refl (λ b. nothing_read s store entry (λ facts. None) b here.at) p (wide_small r (sign_wide row) p.number k))

    pub flip_claims : sign_type e.note.ctype ≡ Some r → IsNotStuck (NodeClaims s store entry here h r (unary op.Flip)) (evaluated store (Binary operation.Xor true place v (Number 0xFFFFFFFF)))
    flip_claims row =
        weaker (evaluated store (Binary operation.Xor true place v (Number 0xFFFFFFFF))) (operation_word store operation.Xor true place v (Number 0xFFFFFFFF) small_inside ones_small) (λ p is k.
        quiet_claims s store entry here h r (unary op.Flip) (no_pointer r (sign_wide row).wide.integer) refl refl refl (λ b. nothing_read s store entry (λ facts. None) b here.at) p (wide_small r (sign_wide row) p.number k))
      where
        ones_small : IsNotStuck IsSmall (plain 0xFFFFFFFF)
        ones_small = omega arith

    pub not_claims : truth_type e.note.ctype ≡ Some r → IsNotStuck (NodeClaims s store entry here h r (unary op.Not)) (evaluated store (Binary operation.Eq true place v (Number 0)))
    not_claims row =
        goes_on (ExprClaims s store entry here e) (NodeClaims s store entry here h r (unary op.Not)) (evaluated store v) (λ x. plain (flag (x.number == 0))) inside (λ x is c.
        integer_claims s store entry here h r (unary op.Not) (no_pointer r wide.wide.integer) refl (record { number = flag (x.number == 0); range = Without })
        (wide_small r wide (flag (x.number == 0)) (flag_small (x.number == 0))) (λ e. absurd (cc)) (λ e. absurd (cc)) (λ b side. c.sides (not b) (not_side (x.number == 0) b side)))
      where
        wide : Wide r
        wide = int_row (is_scalar e.note.ctype) r row

    -- ---- casts

    pub cast_claims : (w : TypeTree) (t u : CType) (null : Bool) → r ≡ t → is_raw_kind (kind_of r) ≡ false → is_cast t e.note.ctype null ≡ true
        → IsNotStuck (NodeClaims s store entry here h r (node_view s.frame (Node-F.Cast w (view s.frame e)))) (evaluated store (cast t u v))
    cast_claims w t u null same checked row =
        subst (λ t. IsNotStuck (NodeClaims s store entry here h r made) (evaluated store (cast t u v))) same
        (subst (λ x. IsNotStuck (NodeClaims s store entry here h r made) (evaluated store x)) (sym become) (by (is_char r) refl))
      where
        made : NodeView
        made = node_view s.frame (Node-F.Cast w (view s.frame e))

        integer : is_integer r ≡ true
        integer = by (is_object_type r) (is_integer r) refl (subst (λ t. is_cast t e.note.ctype null ≡ true) (sym same) row)
          where
            by : (a b : Bool) → is_integer r ≡ b → (a && ((b && is_integer e.note.ctype) || (is_raw_kind (kind_of r) && (is_pointer e.note.ctype || null)))) ≡ true → b ≡ true
            by a true i h = refl
            by false false i h = h
            by true false i h = subst (λ k. (k && (is_pointer e.note.ctype || null)) ≡ true) checked h

        become : cast r u v ≡ converted r v
        become = ap (λ (b : Bool). if b && not (same_element r u) then Bare v else converted r v) (no_pointer r integer)

        quiet : (p : Value) → IsWordOf r p.number → NodeClaims s store entry here h r made p
        quiet p word = quiet_claims s store entry here h r made (no_pointer r integer) refl refl refl (λ b. nothing_read s store entry (λ facts. None) b here.at) p word

        by : (b : Bool) → is_char r ≡ b → IsNotStuck (NodeClaims s store entry here h r made) (evaluated store (if b then Narrow v else v))
        by true c =
            goes_on IsSmall (NodeClaims s store entry here h r made) (evaluated store v) (λ x. plain (x.number % 256)) small_inside
            (λ x is k. quiet (record { number = x.number % 256; range = Without }) (byte_word r (x.number % 256) c (omega arith)))
        by false c = weaker (evaluated store v) small_inside (λ x is k. quiet x (wide_word r x.number c k))

  -- ---- `?:`

  pub choice_claims : (e f g : NotedExpr) (r : CType) (u v w : Expr) → IsNotStuck (ExprClaims s store entry here e) (evaluated store u)
      → ((x : Value) → evaluated store u ≡ Ok x → (x.number == 0) ≡ false → IsNotStuck (ExprClaims s store entry here f) (evaluated store v))
      → ((x : Value) → evaluated store u ≡ Ok x → (x.number == 0) ≡ true → IsNotStuck (ExprClaims s store entry here g) (evaluated store w)) → choice_type e.note.ctype f.note.ctype g.note.ctype ≡ Some r
      → IsNotStuck (NodeClaims s store entry here h r (node_view s.frame (Node-F.Pick (view s.frame e) (view s.frame f) (view s.frame g)))) (evaluated store (Choice u v w))
  choice_claims e f g r u v w first second third row =
      goes_on (ExprClaims s store entry here e) (NodeClaims s store entry here h r made) (evaluated store u) (λ x. if x.number == 0 then evaluated store w else evaluated store v) first
      (λ x is c. by x is (x.number == 0) refl)
    where
      made : NodeView
      made = node_view s.frame (Node-F.Pick (view s.frame e) (view s.frame f) (view s.frame g))

      wide : Wide r
      wide = wide_of (is_scalar e.note.ctype) row
        where
          wide_of : (b : Bool) → (if b then arithmetic_type f.note.ctype g.note.ctype else None) ≡ Some r → Wide r
          wide_of true e = arithmetic_wide f.note.ctype g.note.ctype r e
          wide_of false e = absurd (cc)

      quiet : (p : Value) → p.number < 2 ^ 32 → NodeClaims s store entry here h r made p
      quiet p k = quiet_claims s store entry here h r made (no_pointer r wide.wide.integer) refl refl refl (λ b. nothing_read s store entry (λ facts. None) b here.at) p (wide_small r wide p.number k)

      by : (x : Value) → evaluated store u ≡ Ok x → (b : Bool) → (x.number == 0) ≡ b → IsNotStuck (NodeClaims s store entry here h r made) (if b then evaluated store w else evaluated store v)
      by x is true z = weaker (evaluated store w) (small_value s store entry here g (evaluated store w) (third x is z)) (λ x is k. quiet x k)
      by x is false z = weaker (evaluated store v) (small_value s store entry here f (evaluated store v) (second x is z)) (λ x is k. quiet x k)

-- The types of expressions without calls are those of objects, but for that of `NULL`.
use Rattle.std.proofs.Common.{◌≡◌, ◌∙◌, ⊎_elim, sym, ap, subst, refl, inl, inr, Bool, true, false, rules}
use Rattle.std.specs.Prelude.{◌⊎◌, ◌&&◌, ◌||◌, not, if◌then◌else◌, Option, Some, None}
use Rattle.std.proofs.lemmas.Bool.{and_parts}
use Rattle.ckc_base.specs.declared.arithmetic.Mode.{Mode}
use Rattle.ckc_base.specs.declared.arithmetic.Mode.TheVariants.{Checked, Unchecked}
use Rattle.ckc_types.specs.declared.types.CType.{CType, CType-F, out-CType, the_lemmas}
use Rattle.ckc_types.specs.declared.types.CType.TheVariants as ctype
use Rattle.ckc_types.specs.declared.types.Kind.TheVariants as kind
use Rattle.ckc_syntax.specs.declared.tree.Name.{Name}
use Rattle.ckc_syntax.specs.declared.tree.TreeOp.{TreeOp}
use Rattle.ckc_syntax.specs.declared.tree.TreeOp.TheVariants as op
use Rattle.ckc_syntax.specs.declared.tree.Node.{Node-F, map-Node, out-Node, roll-Node}
use Rattle.ckc_syntax.specs.declared.tree.Expr.{Expr-F, map-Expr, ind-Expr, roll-Expr, every_here-Expr}
use Rattle.ckc_typed.specs.declared.environment.Globals.{Globals}
use Rattle.ckc_typed.specs.declared.typed.Note.{Note}
use Rattle.ckc_typed.specs.Conversions.{is_null}
use Rattle.ckc_typed.specs.Expressions.{address_kind, has_address, is_object_form, is_placed_form, string_type}
use Rattle.ckc_typed.specs.Operands.{arithmetic_type, binary_type, difference_type, distance_type, is_moved, is_moved_kind, member_in, same_element, sum_type}
use Rattle.ckc_typed.specs.Trees.{NotedLimits, NotedNode, NotedExpr, NotedLayer}
use Rattle.ckc_typed.specs.Types.{type_written, is_integer, is_object_type, is_pointer, is_scalar, is_scalar_type, is_void, element_in, element_of, kind_in}
use Rattle.ckc_typed_welltyped.specs.Expressions.{AnyLimits, AnyNode, HasType, unary_row}
use Rattle.ckc_typed_welltyped.proofs.Nodes.{node_out}
use Rattle.ckc_blame_sound.specs.Settings.{Setting}
use Rattle.ckc_blame_sound.specs.Typed.{HasRow}
use Rattle.ckc_blame_sound.proofs.Types.{arithmetic_row, none_is_some, number_wide, sign_row, size_wide, some_is}
use Rattle.ckc_blame_given.specs.ckc_blame_pointers.proofs.Rows.{int_row, other_row}
use Rattle.ckc_blame_given.specs.ckc_blame_pointers.proofs.Scalars.{moved_pointer, true_if}
use Rattle.ckc_blame_sound.proofs.Every.{ExprLayer, EachNode, EachExpr, NodeParts, node_hold, inside}
use Rattle.ckc_blame_steps.proofs.Callless.{IsCallless, HasNoCall}
use Rattle.ckc_blame_steps.proofs.DeclaredTypes.{AreObjects, scalar_parts}
use Rattle.ckc_blame_steps.proofs.ObjectTypes.{element_is_object, integer_is_object, pointer_is_object}
use Rattle.ckc_blame_steps.proofs.Pointees.{pointer_out}

-- ---- types

-- the type of an object, or that of `NULL`
abbrev pub HasValueType : CType → Type 0
HasValueType t = (is_object_type t ≡ true) ⊎ (t ≡ ctype.Pointer kind.One ctype.Void)

-- what is pointed to is void, and the pointer is moved by no arithmetic
null_void : is_void (element_of (ctype.Pointer kind.One ctype.Void)) ≡ true
null_void = ap (λ x. is_void (element_in x)) (pointer_out kind.One ctype.Void) ∙ void
  where
    void : is_void ctype.Void ≡ true
    void = search (rules, the_lemmas)

null_stays : is_moved (ctype.Pointer kind.One ctype.Void) ≡ false
null_stays = ap (λ x. is_moved_kind (kind_in x)) (pointer_out kind.One ctype.Void)

pub true_false : (b : Bool) → b ≡ true → b ≡ false → ⊥
true_false b t f = absurd cc

-- a pointer that is read through
pub read_object : (t : CType) → HasValueType t → (is_void (element_of t) ≡ false) ⊎ (is_moved t ≡ true) → is_object_type t ≡ true
read_object t (inl o) h = o
read_object t (inr n) h =
    ⊎_elim
    (λ v. absurd (true_false (is_void (element_of t)) (ap (λ u. is_void (element_of u)) n ∙ null_void) v))
    (λ m. absurd (true_false (is_moved t) m (ap is_moved n ∙ null_stays))) h

not_true : (b : Bool) → not b ≡ true → b ≡ false
not_true true e = absurd cc
not_true false e = refl

-- what `*` reads through
pub target_object : (t r : CType) → HasValueType t → ◌≡◌ {A = Option CType} (if is_pointer t && not (is_void (element_of t)) then Some (element_of t) else None) (Some r)
    → (is_object_type t ≡ true) × (is_pointer t ≡ true)
target_object t r h e =
    let both = and_parts (is_pointer t) (not (is_void (element_of t))) (true_if (is_pointer t && not (is_void (element_of t))) (element_of t) r e) in
    (read_object t h (inl (not_true (is_void (element_of t)) both.1)), both.0)

-- and what `[` does
pub index_object : (t u r : CType) → HasValueType t → ◌≡◌ {A = Option CType} (if is_moved t && is_integer u then Some (element_of t) else None) (Some r)
    → (is_object_type t ≡ true) × (is_pointer t ≡ true)
index_object t u r h e =
    let both = and_parts (is_moved t) (is_integer u) (true_if (is_moved t && is_integer u) (element_of t) r e) in
    (read_object t h (inr both.0), moved_pointer t both.0)

pub if_is : (b : Bool) (t r : CType) → ◌≡◌ {A = Option CType} (if b then Some t else None) (Some r) → t ≡ r
if_is true t r e = some_is t r e
if_is false t r e = none_is_some r e

-- ---- operators

-- the result is an integer, or the operand that is moved
abbrev pub IsMoved : CType → CType → CType → Type 0
IsMoved t u r = (is_integer r ≡ true) ⊎ (((t ≡ r) × (is_moved t ≡ true)) ⊎ ((u ≡ r) × (is_moved u ≡ true)))

arithmetic_is : (t u r : CType) → arithmetic_type t u ≡ Some r → is_integer r ≡ true
arithmetic_is t u r e = (arithmetic_row t u r e).2.integer

sum_moved : (t u r : CType) → sum_type t u ≡ Some r → IsMoved t u r
sum_moved t u r e = by (is_moved t && is_integer u) refl (is_integer t && is_moved u) refl e
  where
    by : (a : Bool) → (is_moved t && is_integer u) ≡ a → (b : Bool) → (is_integer t && is_moved u) ≡ b
        → (if a then Some t else (if b then Some u else arithmetic_type t u)) ≡ Some r → IsMoved t u r
    by true i b k e = inr (inl (some_is t r e, (and_parts (is_moved t) (is_integer u) i).0))
    by false i true k e = inr (inr (some_is u r e, (and_parts (is_integer t) (is_moved u) k).1))
    by false i false k e = inl (arithmetic_is t u r e)

difference_moved : (t u r : CType) → difference_type t u ≡ Some r → IsMoved t u r
difference_moved t u r e = by (is_moved t && is_integer u) refl (is_pointer t) e
  where
    by : (a : Bool) → (is_moved t && is_integer u) ≡ a → (b : Bool) → (if a then Some t else (if b then distance_type t u else arithmetic_type t u)) ≡ Some r → IsMoved t u r
    by true i b e = inr (inl (some_is t r e, (and_parts (is_moved t) (is_integer u) i).0))
    by false i true e = inl (int_row (same_element t u && not (is_void (element_of t))) r e).wide.integer
    by false i false e = inl (arithmetic_is t u r e)

pub binary_moved : (o : TreeOp) (t u r : CType) (m n : Bool) → binary_type o t m u n ≡ Some r → IsMoved t u r
binary_moved op.Add t u r m n e = sum_moved t u r e
binary_moved op.Sub t u r m n e = difference_moved t u r e
binary_moved op.OrElse t u r m n e = inl (other_row op.OrElse t u r m n refl e).wide.integer
binary_moved op.AndThen t u r m n e = inl (other_row op.AndThen t u r m n refl e).wide.integer
binary_moved op.Or t u r m n e = inl (other_row op.Or t u r m n refl e).wide.integer
binary_moved op.Xor t u r m n e = inl (other_row op.Xor t u r m n refl e).wide.integer
binary_moved op.And t u r m n e = inl (other_row op.And t u r m n refl e).wide.integer
binary_moved op.Eq t u r m n e = inl (other_row op.Eq t u r m n refl e).wide.integer
binary_moved op.Ne t u r m n e = inl (other_row op.Ne t u r m n refl e).wide.integer
binary_moved op.Lt t u r m n e = inl (other_row op.Lt t u r m n refl e).wide.integer
binary_moved op.Le t u r m n e = inl (other_row op.Le t u r m n refl e).wide.integer
binary_moved op.Gt t u r m n e = inl (other_row op.Gt t u r m n refl e).wide.integer
binary_moved op.Ge t u r m n e = inl (other_row op.Ge t u r m n refl e).wide.integer
binary_moved op.Shl t u r m n e = inl (other_row op.Shl t u r m n refl e).wide.integer
binary_moved op.Shr t u r m n e = inl (other_row op.Shr t u r m n refl e).wide.integer
binary_moved op.Mul t u r m n e = inl (other_row op.Mul t u r m n refl e).wide.integer
binary_moved op.Div t u r m n e = inl (other_row op.Div t u r m n refl e).wide.integer
binary_moved op.Rem t u r m n e = inl (other_row op.Rem t u r m n refl e).wide.integer
binary_moved o t u r m n e = none_is_some r e

pub choice_integer : (b : Bool) (t u r : CType) → (if b then arithmetic_type t u else None) ≡ Some r → is_integer r ≡ true
choice_integer true t u r e = arithmetic_is t u r e
choice_integer false t u r e = none_is_some r e

moved_value : (t u r : CType) → HasValueType t → HasValueType u → IsMoved t u r → HasValueType r
moved_value t u r h g m =
    ⊎_elim (λ i. inl (integer_is_object r i)) (λ m. ⊎_elim (λ w. subst HasValueType w.0 h) (λ w. subst HasValueType w.0 g) m) m

string_object : (mode : Mode) → is_object_type (string_type mode) ≡ true
string_object mode = by mode
  where
    char : is_integer ctype.Char ≡ true
    char = search (rules, the_lemmas)

    by : (mode : Mode) → is_object_type (string_type mode) ≡ true
    by Checked = pointer_is_object kind.Nt ctype.Char (integer_is_object ctype.Char char) (λ h. char)
    by Unchecked = pointer_is_object kind.Raw ctype.Char (integer_is_object ctype.Char char) (λ h. char)

address_object : (mode : Mode) (t : CType) → is_object_type t ≡ true → is_object_type (ctype.Pointer (address_kind mode) t) ≡ true
address_object Checked t o = pointer_is_object kind.Arr t o (λ h. absurd cc)
address_object Unchecked t o = pointer_is_object kind.Raw t o (λ h. absurd cc)

-- ---- rows

module _ (globals : Globals) (s : Setting) (a : AreObjects globals s.variables) where
  -- the type of an expression, and that of one that has an address
  abbrev pub IsValue : NotedExpr → Type 0
  IsValue e = HasValueType e.note.ctype × (has_address globals e ≡ true → is_object_type e.note.ctype ≡ true)

  abbrev Parts : NotedLayer → Type 0
  Parts (Node-F.Un o e) = IsValue e
  Parts (Node-F.Bin o e f) = IsValue e × IsValue f
  Parts (Node-F.Index e f) = IsValue e
  Parts x = Unit {0}

  -- the same of a layer and its type
  abbrev Row : NotedLayer → CType → Type 0
  Row x t = HasValueType t × ((is_object_form globals x || is_placed_form x) ≡ true → is_object_type t ≡ true)

  object_row : (t : CType) (b : Bool) → is_object_type t ≡ true → HasValueType t × (b ≡ true → is_object_type t ≡ true)
  object_row t b o = (inl o, λ h. o)

  same_object : (t u : CType) → u ≡ t → is_object_type u ≡ true → is_object_type t ≡ true
  same_object t u e o = subst (λ t. is_object_type t ≡ true) e o

  unary_value : (mode : Mode) (o : TreeOp) (e : NotedExpr) (t : CType) → IsValue e → unary_row globals mode o e ≡ Some t → is_object_type t ≡ true
  unary_value mode op.Deref e t p h =
      let o = target_object e.note.ctype t p.0 h in
      same_object t (element_of e.note.ctype) (if_is (is_pointer e.note.ctype && not (is_void (element_of e.note.ctype))) (element_of e.note.ctype) t h) (element_is_object e.note.ctype o.0 o.1)
  unary_value mode op.Address e t p h =
      same_object t (ctype.Pointer (address_kind mode) e.note.ctype) (if_is (has_address globals e) (ctype.Pointer (address_kind mode) e.note.ctype) t h)
      (address_object mode e.note.ctype (p.1 (true_if (has_address globals e) (ctype.Pointer (address_kind mode) e.note.ctype) t h)))
  unary_value mode op.Minus e t p h = integer_is_object t (sign_row e.note.ctype t h).1.integer
  unary_value mode op.Plus e t p h = integer_is_object t (sign_row e.note.ctype t h).1.integer
  unary_value mode op.Flip e t p h = integer_is_object t (sign_row e.note.ctype t h).1.integer
  unary_value mode op.Not e t p h = integer_is_object t (int_row (is_scalar e.note.ctype) t h).wide.integer
  unary_value mode o e t p h = none_is_some t h

  member_value : (n : Name) (x : CType-F CType) (t : CType) → member_in globals.structs n x ≡ Some t → is_scalar_type t ≡ true
  member_value n (CType-F.Struct tag) t h = a.members tag n t h
  member_value n x t h = none_is_some t h

  row_value : (mode : Mode) (x : NotedLayer) (t : CType) → IsCallless x → Parts x → HasType globals s.variables mode x t → Row x t
  row_value mode (Node-F.Number n u) t c p h = object_row t _ (integer_is_object t (subst (λ t. is_integer t ≡ true) (sym h) (number_wide u).integer))
  row_value mode (Node-F.Text bytes) t c p h = object_row t _ (same_object t (string_type mode) (sym h) (string_object mode))
  row_value mode Node-F.Null t c p h = (inr h, λ g. absurd cc)
  row_value mode (Node-F.Name n) t c p h = object_row t _ (a.names n t h)
  row_value mode (Node-F.Un o e) t c p h = object_row t _ (unary_value mode o e t p h)
  row_value mode (Node-F.Bin o e f) t c p h = (moved_value e.note.ctype f.note.ctype t p.0.0 p.1.0 (binary_moved o e.note.ctype f.note.ctype t (is_null e) (is_null f) h), λ g. absurd cc)
  row_value mode (Node-F.Pick e f g) t c p h = object_row t _ (integer_is_object t (choice_integer (is_scalar e.note.ctype) f.note.ctype g.note.ctype t h))
  row_value mode (Node-F.Index e f) t c p h =
      let o = index_object e.note.ctype f.note.ctype t p.0 h in
      object_row t _ (same_object t (element_of e.note.ctype) (if_is (is_moved e.note.ctype && is_integer f.note.ctype) (element_of e.note.ctype) t h) (element_is_object e.note.ctype o.0 o.1))
  row_value mode (Node-F.Dot e n at) t c p h = object_row t _ (scalar_parts t (member_value n (out-CType e.note.ctype) t h)).1
  row_value mode (Node-F.Arrow e n at) t c p h = object_row t _ (scalar_parts t (member_value n (out-CType (element_of e.note.ctype)) t h)).1
  row_value mode (Node-F.Cast w e) t c p h = object_row t _ (same_object t (type_written w) (sym h.1) (and_parts (is_object_type (type_written w)) _ h.0).0)
  row_value mode (Node-F.Size w) t c p h = object_row t _ (integer_is_object t (size_wide (type_written w) t h).integer)
  row_value mode (Node-F.Trusted w e l) t c p h = object_row t _ (same_object t (type_written w) (sym h.2) (and_parts (is_object_type (type_written w)) _ h.0).0)
  row_value mode (Node-F.Tested w e l) t c p h = object_row t _ (same_object t (type_written w) (sym h.2) (and_parts (is_object_type (type_written w)) _ h.0).0)
  row_value mode (Node-F.Call n es) t c p h = absurd c
  row_value mode (Node-F.Calloc w e u) t c p h = absurd c

  -- ---- expressions

  module _ (P : ExprLayer → Type 0) (row : (x : ExprLayer) → P x → HasRow globals s x) (callless : (x : ExprLayer) → P x → HasNoCall x) where
    record NodeIs (n : NotedNode) : Type 0 where
      pub parts : EachNode P n → Parts (out-Node Name Note n)

    record ExprIs (e : NotedExpr) : Type 0 where
      pub value : EachExpr P e → IsValue e

    abbrev AnyLimit : NotedLimits → Type 0
    AnyLimit l = Unit {0}

    abbrev KeptLimits : Type 0
    KeptLimits = (l : NotedLimits) × AnyLimit l

    abbrev KeptNode : Type 0
    KeptNode = (n : NotedNode) × NodeIs n

    abbrev KeptExpr : Type 0
    KeptExpr = (e : NotedExpr) × ExprIs e

    abbrev inner_node : Node-F Name Note KeptLimits KeptNode KeptExpr → NotedLayer
    inner_node = map-Node Name Note KeptLimits KeptNode KeptExpr NotedLimits NotedNode NotedExpr (λ e. e.0) (λ e. e.0) (λ e. e.0)

    abbrev inner_expr : Expr-F Name Note KeptLimits KeptNode KeptExpr → ExprLayer
    inner_expr = map-Expr Name Note KeptLimits KeptNode KeptExpr NotedLimits NotedNode NotedExpr (λ e. e.0) (λ e. e.0) (λ e. e.0)

    node_step : (y : Node-F Name Note KeptLimits KeptNode KeptExpr) → NodeParts P (inner_node y) → Parts (inner_node y)
    node_step (Node-F.Un o k) w = k.1.value w
    node_step (Node-F.Bin o k j) w = (k.1.value w.0, j.1.value w.1)
    node_step (Node-F.Index k j) w = k.1.value w.0
    node_step y w = tt

    node_by : (x : NotedLayer) (y : Node-F Name Note KeptLimits KeptNode KeptExpr) → inner_node y ≡ x → NodeIs (roll-Node Name Note x)
    node_by x y is = record {
      parts = λ w. subst Parts (sym (node_out x)) (subst (λ z. NodeParts P z → Parts z) is (node_step y) (node_hold P x w));
    }

    expr_is : (e : NotedExpr) → NodeIs e.node → ExprIs e
    expr_is e h = record {
      value = λ w. (let own = every_here-Expr Name Note AnyLimits AnyNode P e w in
          row_value (row (record { node = e.node; pos = e.pos; note = e.note }) own).mode (out-Node Name Note e.node) e.note.ctype (callless (record { node = e.node; pos = e.pos; note = e.note }) own) (h.parts (inside P e w))
          (row (record { node = e.node; pos = e.pos; note = e.note }) own).row);
    }

    expr_by : (x : ExprLayer) (y : Expr-F Name Note KeptLimits KeptNode KeptExpr) → inner_expr y ≡ x → ExprIs (roll-Expr Name Note x)
    expr_by x y is = subst (λ z. ExprIs (roll-Expr Name Note z)) is (expr_is (roll-Expr Name Note (inner_expr y)) y.node.1)

    pub value_type : (e : NotedExpr) → EachExpr P e → IsValue e
    value_type e = (ind-Expr Name Note AnyLimit NodeIs ExprIs (λ x y is. tt) node_by expr_by e).value

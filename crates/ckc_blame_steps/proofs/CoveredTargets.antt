-- The targets of assignments, if no unchecked pointer leads to them, are those of which it is said where they lie.
use Rattle.std.proofs.Common.{◌≡◌, ◌∙◌, ⊎_elim, sym, ap, subst, refl, inl, inr, ℕ, Bool, true, false, List, rules}
use Rattle.std.specs.Prelude.{◌⊎◌, not, ◌&&◌, ◌||◌, if◌then◌else◌, Option, Some, None, is_some}
use Rattle.std.proofs.lemmas.Bool.{and_parts}
use Rattle.ckc_base.specs.declared.arithmetic.Mode.{Mode}
use Rattle.ckc_base.specs.declared.arithmetic.Mode.TheVariants.{Unchecked}
use Rattle.ckc_types.specs.declared.types.Kind.{Kind}
use Rattle.ckc_types.specs.declared.types.Kind.TheVariants as kind
use Rattle.ckc_types.specs.declared.types.CType.{CType, CType-F, out-CType, the_lemmas}
use Rattle.ckc_types.specs.declared.types.CType.TheVariants as ctype
use Rattle.ckc_syntax.specs.declared.tree.Name.{Name}
use Rattle.ckc_syntax.specs.declared.tree.Name.TheVariants as name
use Rattle.ckc_syntax.specs.declared.tree.TreeOp.TheVariants as op
use Rattle.ckc_syntax.specs.declared.tree.Node.{Node-F, out-Node}
use Rattle.ckc_syntax.specs.declared.tree.Expr.{every_here-Expr}
use Rattle.ckc_typed.specs.declared.environment.Globals.{Globals}
use Rattle.ckc_typed.specs.declared.environment.Variable.{Variable}
use Rattle.ckc_typed.specs.declared.typed.Note.{Note}
use Rattle.ckc_typed.specs.declared.typed.Typed.{Typed}
use Rattle.ckc_typed.specs.Environment.{object_named, type_of_name, used, variable_named}
use Rattle.ckc_typed.specs.Expressions.{is_no_array, is_object_form, is_placed_form}
use Rattle.ckc_typed.specs.Operands.{is_raw_kind, dot_type, index_type, is_moved, target_type}
use Rattle.ckc_typed.specs.Statements.{is_variable_form}
use Rattle.ckc_typed.specs.Trees.{NotedExpr, NotedLayer}
use Rattle.ckc_typed.specs.Types.{is_integer, is_pointer, is_pointer_form, is_scalar, is_void, element_of, kind_in, kind_of}
use Rattle.ckc_typed_welltyped.specs.Expressions.{AnyLimits, AnyNode, HasType}
use Rattle.ckc_blame_sound.specs.ckc_bounds_views.specs.Judged.{is_counted_kind}
use Rattle.ckc_source.specs.Code.{Function}
use Rattle.ckc_source.specs.Eval.{Store}
use Rattle.ckc_build_values.specs.Kinds.{through_kind}
use Rattle.ckc_blame_sound.specs.Settings.{Setting, IsFunction}
use Rattle.ckc_blame_sound.specs.Typed.{IsRow, HasRow, IsTyped}
use Rattle.ckc_blame_given.specs.ckc_blame_pointers.specs.Covered.{IsIntegerMember, IsPointerMember, IsStructureNode, IsDot, IsRawPlace, IsCoveredNode, IsUncheckedNode, IsCoveredExpr, AreCovered}
use Rattle.ckc_blame_sound.specs.JudgedTexts.{IsJudged, globals_in}
use Rattle.ckc_blame_sound.proofs.Every.{EachLimits}
use Rattle.ckc_blame_steps.specs.Statics.{IsStatic}
use Rattle.ckc_blame_steps.specs.Told.{IsTold}
use Rattle.ckc_blame_steps.specs.Unchecked.{is_raw_through}
use Rattle.ckc_blame_steps.proofs.Cover.{IsCheckedKind, kind_is, moved_counted, pointer_form}
use Rattle.ckc_blame_steps.proofs.Down.{Down, each_parts}
use Rattle.ckc_blame_steps.proofs.Members.{struct_form}
use Rattle.ckc_blame_steps.proofs.SafeTargets.{leads_raw, is_raw_place, is_raw_target}
use Rattle.ckc_blame_steps.proofs.StaticTargets.{statics_counts}
use Rattle.ckc_blame_steps.proofs.Told.{none_named, statics_told}
use Rattle.ckc_blame_given.specs.Targets.{IsStaticObject, IsStaticTarget, IsThrough, IsMemberNamed, IsCoveredPlace, IsCoveredTarget}
use Rattle.ckc_blame_steps.proofs.Objects.{single, as_object}
use Rattle.ckc_blame_steps.proofs.ScalarValues.{integer_scalar, pointer_scalar}
use Rattle.ckc_blame_steps.proofs.Stores.{text_is}

-- ---- types

counted_form : (x : CType-F CType) → is_counted_kind (kind_in x) ≡ true → is_pointer_form x ≡ true
counted_form (CType-F.Pointer k t) h = refl
counted_form x h = absurd cc

one_form : (x : CType-F CType) → kind_in x ≡ Some kind.One → is_pointer_form x ≡ true
one_form (CType-F.Pointer k t) h = refl
one_form x h = absurd cc

pointer_out : (k : Kind) (t : CType) → out-CType (ctype.Pointer k t) ≡ CType-F.Pointer k t
pointer_out k t = search (rules, the_lemmas)

-- if something is there, the condition held
held : {A : Type 0} (b : Bool) (a r : A) → ◌≡◌ {A = Option A} (if b then Some a else None) (Some r) → b ≡ true
held true a r h = refl
held false a r h = absurd cc

-- a named target is a variable, or an object of file scope that is no array
abbrev pub IsNamedForm : {A L M E : Type 0} → Globals → List Variable → Node-F Name A L M E → Type 0
IsNamedForm globals variables n =
    ((is_variable_form variables n || is_object_form globals n) ≡ true) ⊎ (is_placed_form n ≡ true)

-- a pointer that leads through no unchecked one is checked
leads_checked : (k : Option Kind) → is_raw_through (through_kind k) ≡ false → is_raw_kind k ≡ false
leads_checked (Some kind.Raw) h = absurd cc
leads_checked (Some kind.One) h = refl
leads_checked (Some kind.Arr) h = refl
leads_checked (Some kind.Nt) h = refl
leads_checked None h = refl

-- what an unchecked pointer leads to has a place
raw_structure : (x : NotedLayer) → IsRawPlace x → IsStructureNode x
raw_structure (Node-F.Un op.Deref e) h = tt
raw_structure (Node-F.Index e f) h = tt
raw_structure x h = absurd h

module _ (m : Mode) (p : Typed) (j : IsJudged p) (s : Setting) (f : Function) (function : IsFunction p s f) (store : Store) (seen : List ℕ) (told : IsTold (globals_in p) s store seen) where
  abbrev globals : Globals
  globals = globals_in p

  abbrev IsNamed : NotedLayer → Type 0
  IsNamed n = IsNamedForm globals s.variables n

  -- ---- checked pointers

  not_raw : (e : NotedExpr) → AreCovered m s store seen e → (m ≡ Unchecked → leads_raw e ≡ false) → is_raw_kind (kind_of e.note.ctype) ≡ false
  not_raw e covered safe = by (is_raw_kind (kind_of e.note.ctype)) refl
    where
      by : (b : Bool) → is_raw_kind (kind_of e.note.ctype) ≡ b → is_raw_kind (kind_of e.note.ctype) ≡ false
      by true raw = leads_checked (kind_of e.note.ctype) (safe ((every_here-Expr Name Note AnyLimits AnyNode (IsCoveredExpr m s store seen) e covered).checked raw))
      by false raw = raw

  through : (e : NotedExpr) → is_pointer e.note.ctype ≡ true → is_raw_kind (kind_of e.note.ctype) ≡ false → IsThrough s e
  through e pointer raw = by (kind_is e.note.ctype pointer raw)
    where
      by : IsCheckedKind (kind_of e.note.ctype) → IsThrough s e
      by (inl one) = record { through = inr (one, told.ones) }
      by (inr many) = record { through = inl many }

  deref_through : (e : NotedExpr) (t : CType) → target_type e.note.ctype ≡ Some t → is_raw_kind (kind_of e.note.ctype) ≡ false → IsThrough s e
  deref_through e t row raw =
      through e (and_parts (is_pointer e.note.ctype) (not (is_void (element_of e.note.ctype)))
      (held (is_pointer e.note.ctype && not (is_void (element_of e.note.ctype))) (element_of e.note.ctype) t row)).0 raw

  arrow_through : (e : NotedExpr) (n : Name) (t : CType) → dot_type globals.structs (element_of e.note.ctype) n ≡ Some t → is_raw_kind (kind_of e.note.ctype) ≡ false → IsThrough s e
  arrow_through e n t row raw =
      let form = struct_form globals.structs n t (out-CType (element_of e.note.ctype)) row in
      through e (pointer_form (out-CType e.note.ctype) form.0 form.1) raw

  index_counted : (e f : NotedExpr) (t : CType) → index_type e.note.ctype f.note.ctype ≡ Some t → is_raw_kind (kind_of e.note.ctype) ≡ false → is_counted_kind (kind_of e.note.ctype) ≡ true
  index_counted e f t row raw =
      moved_counted (kind_of e.note.ctype)
      (and_parts (is_moved e.note.ctype) (is_integer f.note.ctype) (held (is_moved e.note.ctype && is_integer f.note.ctype) (element_of e.note.ctype) t row)).0 raw

  through_scalar : (e : NotedExpr) → IsThrough s e → is_scalar e.note.ctype ≡ true
  through_scalar e h = pointer_scalar e.note.ctype (⊎_elim (λ c. counted_form (out-CType e.note.ctype) c) (λ o. one_form (out-CType e.note.ctype) o.0) h.through)

  counted_scalar : (e : NotedExpr) → is_counted_kind (kind_of e.note.ctype) ≡ true → is_scalar e.note.ctype ≡ true
  counted_scalar e c = pointer_scalar e.note.ctype (counted_form (out-CType e.note.ctype) c)

  index_scalar : (e f : NotedExpr) (t : CType) → index_type e.note.ctype f.note.ctype ≡ Some t → is_scalar f.note.ctype ≡ true
  index_scalar e f t row =
      integer_scalar f.note.ctype (and_parts (is_moved e.note.ctype) (is_integer f.note.ctype) (held (is_moved e.note.ctype && is_integer f.note.ctype) (element_of e.note.ctype) t row)).1

  member_named : (u t : CType) (n : Name) → dot_type globals.structs u n ≡ Some t → IsMemberNamed s u t n
  member_named u t n row =
      let here : dot_type s.text.layout u n ≡ Some t = subst (λ x. dot_type x u n ≡ Some t) told.structs row in
      ⊎_elim
      (λ m. record { number = m.number; named = m.named; there = here })
      (λ m. record { number = m.number; named = m.named; there = here })
      (told.members u t n here)

  -- ---- static objects

  static_of : (t : CType) (k : ℕ) → type_of_name globals s.variables (name.Static k) ≡ Some t → IsStatic s t k
  static_of t k row = statics_told p s f t k j function row

  object_of : (t : CType) (k : ℕ) (w : IsStatic s t k) → w.object.array ≡ None → IsStaticObject s t k
  object_of t k w none = as_object p j s (text_is p s f function) t k w none

  named_single : (t : CType) (k : ℕ) (w : IsStatic s t k) → IsNamed (Node-F.Name (name.Static k)) → w.object.array ≡ None
  named_single t k w (inl h) =
      let none : variable_named s.variables (name.Static k) ≡ None = none_named p j s f k function in
      single p j s (text_is p s f function) t k w
      (subst (λ (o : Option Variable). (is_some o || is_no_array (object_named globals (name.Static k))) ≡ true) none h)
  named_single t k w (inr h) = absurd cc

  struct_single : (t : CType) (k tag : ℕ) (w : IsStatic s t k) → out-CType t ≡ CType-F.Struct tag → w.object.array ≡ None
  struct_single t k tag w struct = by w.object.array refl
    where
      no_pointer : (a : Kind) (u : CType) → ◌≡◌ {A = CType-F CType} (CType-F.Pointer a u) (CType-F.Struct tag) → ⊥
      no_pointer a u e = cc

      by : (o : Option Kind) → w.object.array ≡ o → w.object.array ≡ None
      by None e = e
      by (Some a) e =
          absurd (no_pointer a w.object.element (sym (ap out-CType (w.type ∙ ap (used w.object.element) e) ∙ pointer_out a w.object.element) ∙ struct))

  static_target : (e : NotedExpr) (k : ℕ) → out-Node Name Note e.node ≡ Node-F.Name (name.Static k) → type_of_name globals s.variables (name.Static k) ≡ Some e.note.ctype
      → IsNamed (Node-F.Name (name.Static k)) → IsStaticTarget s e k
  static_target e k is row named =
      let w = static_of e.note.ctype k row in
      let alone = named_single e.note.ctype k w named in
      record {
        object = object_of e.note.ctype k w alone;
        counts = λ n c. statics_counts s e.note.ctype k n e w alone is refl c;
      }

  -- ---- structures of which a target is a member

  row_of : (e : NotedExpr) → IsTyped globals s e → IsRow globals s (out-Node Name Note e.node) e.note
  row_of e typed = every_here-Expr Name Note AnyLimits AnyNode (HasRow globals s) e typed

  abbrev Node : CType → NotedLayer → Type 0
  Node t d = IsCoveredNode s store seen t d ⊎ ((m ≡ Unchecked) × IsUncheckedNode s store t d)

  node_of : (e : NotedExpr) → AreCovered m s store seen e → Node e.note.ctype (out-Node Name Note e.node)
  node_of e covered = (every_here-Expr Name Note AnyLimits AnyNode (IsCoveredExpr m s store seen) e covered).node

  -- what is said of one node in checked code alone
  alone : {A X : Type 0} → A ⊎ (X × ⊥) → A
  alone (inl a) = a
  alone (inr x) = absurd x.1

  abbrev Parts : NotedLayer → Type 0
  Parts = Down (AreCovered m s store seen) (EachLimits (IsCoveredExpr m s store seen))

  parts_of : (e : NotedExpr) → AreCovered m s store seen e → Parts (out-Node Name Note e.node)
  parts_of e covered = each_parts (IsCoveredExpr m s store seen) e covered

  place_form : (t : CType) (tag : ℕ) (mode : Mode) (d : NotedLayer) → out-CType t ≡ CType-F.Struct tag → HasType globals s.variables mode d t → Parts d → IsStructureNode d
      → (m ≡ Unchecked → is_raw_place d ≡ false) → IsCoveredPlace m s store seen t d
  place_form t tag mode (Node-F.Name (name.Static k)) struct row parts operand safe = let w = static_of t k row in object_of t k w (struct_single t k tag w struct)
  place_form t tag mode (Node-F.Un op.Deref e) struct row parts operand safe =
      let h = deref_through e t row (not_raw e parts safe) in ((parts, through_scalar e h), h)
  place_form t tag mode (Node-F.Index e g) struct row parts operand safe =
      let c = index_counted e g t row (not_raw e parts.0 safe) in ((parts.0, counted_scalar e c), (parts.1, index_scalar e g t row), c)
  place_form t tag mode d struct row parts operand safe = absurd operand

  -- the structure of which `.` gives a member
  place_covered : (e : NotedExpr) (n : Name) (t : CType) → dot_type globals.structs e.note.ctype n ≡ Some t → IsTyped globals s e → AreCovered m s store seen e → IsStructureNode (out-Node Name Note e.node)
      → (m ≡ Unchecked → is_raw_place (out-Node Name Note e.node) ≡ false) → IsCoveredPlace m s store seen e.note.ctype (out-Node Name Note e.node)
  place_covered e n t row typed covered operand safe =
      let form = struct_form globals.structs n t (out-CType e.note.ctype) row in
      place_form e.note.ctype form.0 (row_of e typed).mode (out-Node Name Note e.node) form.1 (row_of e typed).row (parts_of e covered) operand safe

  dot_operand : (e : NotedExpr) (n : Name) (t : CType)
      → IsDot s store e n t ⊎ ((m ≡ Unchecked) × (IsRawPlace (out-Node Name Note e.node) × (IsIntegerMember s e.note.ctype t n ⊎ IsPointerMember s store e.note.ctype t n)))
      → IsStructureNode (out-Node Name Note e.node)
  dot_operand e n t (inl dot) = dot.operand
  dot_operand e n t (inr raw) = raw_structure (out-Node Name Note e.node) raw.1.0

  -- ---- targets

  abbrev TypedParts : NotedLayer → Type 0
  TypedParts = Down (IsTyped globals s) (EachLimits (HasRow globals s))

  target_form : (e : NotedExpr) (mode : Mode) (d : NotedLayer) → out-Node Name Note e.node ≡ d → HasType globals s.variables mode d e.note.ctype → Node e.note.ctype d → Parts d → TypedParts d
      → IsNamed d → (m ≡ Unchecked → is_raw_target d ≡ false) → IsCoveredTarget m s store seen e d
  target_form e mode (Node-F.Name (name.Local k)) is row node parts typed named safe = alone node
  target_form e mode (Node-F.Name (name.Static k)) is row node parts typed named safe = static_target e k is row named
  target_form e mode (Node-F.Un op.Deref a) is row node parts typed named safe =
      let h = deref_through a e.note.ctype row (not_raw a parts safe) in ((parts, through_scalar a h), h)
  target_form e mode (Node-F.Index a b) is row node parts typed named safe =
      let c = index_counted a b e.note.ctype row (not_raw a parts.0 safe) in ((parts.0, counted_scalar a c), (parts.1, index_scalar a b e.note.ctype row), c)
  target_form e mode (Node-F.Arrow a n at) is row node parts typed named safe =
      let h = arrow_through a n e.note.ctype row (not_raw a parts safe) in ((parts, through_scalar a h), h, member_named (element_of a.note.ctype) e.note.ctype n row)
  target_form e mode (Node-F.Dot a n at) is row node parts typed named safe =
      (place_covered a n e.note.ctype row typed parts (dot_operand a n e.note.ctype node) safe, member_named a.note.ctype e.note.ctype n row)
  target_form e mode (Node-F.Name n) is row node parts typed named safe = alone node
  target_form e mode d is row node parts typed (inl named) safe = absurd cc
  target_form e mode d is row node parts typed (inr named) safe = absurd cc

  -- a typed expression that is covered and may be a target
  pub target_covered : (e : NotedExpr) → IsTyped globals s e → AreCovered m s store seen e → IsNamed (out-Node Name Note e.node) → (m ≡ Unchecked → is_raw_target (out-Node Name Note e.node) ≡ false)
      → IsCoveredTarget m s store seen e (out-Node Name Note e.node)
  target_covered e typed covered named safe =
      target_form e (row_of e typed).mode (out-Node Name Note e.node) refl (row_of e typed).row (node_of e covered) (parts_of e covered) (each_parts (HasRow globals s) e typed) named safe

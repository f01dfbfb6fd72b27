-- Of each expression without calls, as it is judged, it is said what it comes to.
use Rattle.std.proofs.Common.{◌≡◌, ◌∙◌, ⊎_elim, sym, ap, subst, refl, inl, inr, ℕ, Bool, true, false}
use Rattle.std.specs.Prelude.{◌⊎◌, ◌&&◌, ◌||◌, Option, Some, None, is_some, Ok}
use Rattle.std.proofs.lemmas.Bool.{and_parts}
use Rattle.ckc_base.specs.declared.arithmetic.Mode.{Mode}
use Rattle.ckc_base.specs.declared.arithmetic.Mode.TheVariants.{Checked, Unchecked}
use Rattle.ckc_types.specs.declared.types.CType.{CType, CType-F, out-CType}
use Rattle.ckc_types.specs.declared.types.CType.TheVariants as ctype
use Rattle.ckc_types.specs.declared.types.Kind.{Kind}
use Rattle.ckc_types.specs.declared.types.Kind.TheVariants as kind
use Rattle.ckc_types.specs.declared.types.Structs.{Structs}
use Rattle.ckc_syntax.specs.declared.tree.Name.{Name}
use Rattle.ckc_syntax.specs.declared.tree.Name.TheVariants as name
use Rattle.ckc_syntax.specs.declared.tree.TreeOp.{TreeOp}
use Rattle.ckc_syntax.specs.declared.tree.TreeOp.TheVariants as op
use Rattle.ckc_syntax.specs.declared.tree.Node.{Node-F, out-Node}
use Rattle.ckc_syntax.specs.declared.tree.Expr.{every_here-Expr}
use Rattle.ckc_typed.specs.declared.environment.Globals.{Globals}
use Rattle.ckc_typed.specs.declared.environment.Object.{Object}
use Rattle.ckc_typed.specs.declared.environment.Variable.{Variable}
use Rattle.ckc_typed.specs.declared.typed.Note.{Note}
use Rattle.ckc_typed.specs.declared.typed.Typed.{Typed}
use Rattle.ckc_typed.specs.Conversions.{is_null, is_terminated_kind, limits_fit_kind}
use Rattle.ckc_typed.specs.Environment.{object_named, type_of_name, variable_named}
use Rattle.ckc_typed.specs.Expressions.{address_kind, has_address, is_no_array, is_object_form, is_placed_form, string_type}
use Rattle.ckc_typed.specs.Operands.{is_raw_kind, dot_type}
use Rattle.ckc_typed.specs.Trees.{NotedExpr, NotedLayer}
use Rattle.ckc_typed.specs.Types.{type_written, is_integer, is_integer_form, is_object_type, is_pointer, is_pointer_form, is_scalar, is_void, is_void_form, element_of, kind_in, kind_of}
use Rattle.ckc_typed_welltyped.specs.Expressions.{AnyLimits, AnyNode, HasType, unary_row}
use Rattle.ckc_typed_welltyped.specs.Productions.{callless_expr}
use Rattle.ckc_blame_sound.specs.ckc_bounds_points.specs.Flow.{State}
use Rattle.ckc_blame_sound.specs.ckc_bounds_views.specs.Judged.{has_none_of_node}
use Rattle.ckc_blame_sound.specs.ckc_bounds_views.specs.Parts.{View}
use Rattle.ckc_blame_sound.specs.ckc_bounds_views.specs.Views.{view}
use Rattle.ckc_source.specs.Code.{Function}
use Rattle.ckc_blame_sound.specs.Settings.{Setting, IsFunction}
use Rattle.ckc_blame_sound.specs.Typed.{HasRow, IsTyped}
use Rattle.ckc_blame_sound.proofs.Judging.{judged_typed}
use Rattle.ckc_blame_sound.proofs.Types.{none_is_some, number_wide, sign_row, size_wide}
use Rattle.ckc_blame_given.specs.ckc_blame_pointers.specs.Covered.{DeclareOnes, IsThrough, IsStructureNode, IsScalarMember, IsAddressed, IsRaw, IsAddressedRaw}
use Rattle.ckc_blame_given.specs.ckc_blame_pointers.proofs.Rows.{int_row}
use Rattle.ckc_blame_given.specs.ckc_blame_pointers.proofs.Scalars.{integer_scalar, kind_scalar, moved_scalar, no_structure, pointer_scalar, true_if}
use Rattle.ckc_blame_given.proofs.Layers.{view_is, viewed}
use Rattle.ckc_blame_sound.specs.JudgedTexts.{IsJudged, globals_in}
use Rattle.ckc_blame_sound.proofs.Every.{ExprLayer, EachExpr, EachLimits, each_follows}
use Rattle.ckc_blame_sound.proofs.SameViews.{same_view}
use Rattle.ckc_blame_steps.specs.Checked.{IsPartOfMode, IsOfMode}
use Rattle.ckc_blame_steps.specs.Told.{IsReadElement, IsSpokenNode, IsSpokenPart, IsSpoken}
use Rattle.ckc_blame_steps.proofs.Addresses.{HasAddress, TakesAddress, addresses_taken}
use Rattle.ckc_blame_steps.proofs.Blind.{callless_blind, mode_blind}
use Rattle.ckc_blame_steps.proofs.Callless.{IsCallless, HasNoCall, no_calls}
use Rattle.ckc_blame_steps.proofs.Cover.{array_is, kind_is, raw_mode, pointer_form}
use Rattle.ckc_blame_steps.proofs.DeclaredTypes.{AreObjects, names_objects, scalar_parts}
use Rattle.ckc_blame_steps.proofs.Down.{layer, Down, each_parts, each_whole}
use Rattle.ckc_blame_steps.proofs.Layouts.{structs_told}
use Rattle.ckc_blame_steps.proofs.Members.{member_found, struct_form}
use Rattle.ckc_blame_steps.proofs.NamedObjects.{IsStaticName, free_object, object_static, text_is, typed_name, variable_local}
use Rattle.ckc_blame_steps.proofs.ObjectTypes.{element_is_object, object_solid}
use Rattle.ckc_blame_steps.proofs.Pointees.{fine_integer, object_fine, pointer_out}
use Rattle.ckc_blame_steps.proofs.Ranges.{judging_keeps}
use Rattle.ckc_blame_steps.proofs.Told.{statics_told}
use Rattle.ckc_blame_steps.proofs.ValueTypes.{HasValueType, binary_moved, choice_integer, if_is, index_object, target_object, true_false, value_type}

-- ---- types

null_kind : kind_of (ctype.Pointer kind.One ctype.Void) ≡ Some kind.One
null_kind = ap kind_in (pointer_out kind.One ctype.Void)

-- an `_Nt_array_ptr` points to an integer
other_kind : (t : CType) → HasValueType t → is_integer (element_of t) ≡ false → is_terminated_kind (kind_of t) ≡ false
other_kind t h e = by (kind_of t) refl h
  where
    by : (k : Option Kind) → kind_of t ≡ k → HasValueType t → is_terminated_kind k ≡ false
    by None i h = refl
    by (Some kind.Raw) i h = refl
    by (Some kind.One) i h = refl
    by (Some kind.Arr) i h = refl
    by (Some kind.Nt) i (inl o) = absurd (true_false (is_integer (element_of t)) (fine_integer t (object_fine t o) i) e)
    by (Some kind.Nt) i (inr n) = let same : ◌≡◌ {A = Option Kind} (Some kind.Nt) (Some kind.One) = sym i ∙ ap kind_of n ∙ null_kind in absurd cc

-- what `*` and `[` read
read_element : (e : NotedExpr) → (is_object_type e.note.ctype ≡ true) × (is_pointer e.note.ctype ≡ true) → IsReadElement e
read_element e o = by (out-CType (element_of e.note.ctype)) refl
  where
    by : (x : CType-F CType) → out-CType (element_of e.note.ctype) ≡ x → IsReadElement e
    by CType-F.Int h = inl (ap is_integer_form h)
    by CType-F.Unsigned h = inl (ap is_integer_form h)
    by CType-F.Char h = inl (ap is_integer_form h)
    by CType-F.Void h = absurd (true_false (is_void (element_of e.note.ctype)) (ap is_void_form h) (object_solid (element_of e.note.ctype) (element_is_object e.note.ctype o.0 o.1)))
    by (CType-F.Struct tag) h = inr (record { other = other_kind e.note.ctype (inl o.0) (ap is_integer_form h); form = inl (tag, h) })
    by (CType-F.Pointer k u) h = inr (record { other = other_kind e.note.ctype (inl o.0) (ap is_integer_form h); form = inr (ap is_pointer_form h) })

-- a type that something is cast to
cast_scalar : (t : CType) (b c d : Bool) → (b && ((is_integer t && c) || (is_raw_kind (kind_of t) && d))) ≡ true → is_scalar t ≡ true
cast_scalar t b c d e = by (is_integer t) refl (kind_of t) refl (and_parts b ((is_integer t && c) || (is_raw_kind (kind_of t) && d)) e).1
  where
    by : (i : Bool) → is_integer t ≡ i → (k : Option Kind) → kind_of t ≡ k → ((i && c) || (is_raw_kind k && d)) ≡ true → is_scalar t ≡ true
    by true i k h e = integer_scalar t i
    by false i (Some k) h e = kind_scalar t k h
    by false i None h e = absurd cc

fit_scalar : (t : CType) (b c : Bool) → (b && limits_fit_kind (kind_of t) c) ≡ true → is_scalar t ≡ true
fit_scalar t b c e = by (kind_of t) refl (and_parts b (limits_fit_kind (kind_of t) c) e).1
  where
    by : (k : Option Kind) → kind_of t ≡ k → limits_fit_kind k c ≡ true → is_scalar t ≡ true
    by (Some k) h e = kind_scalar t k h
    by None h e = absurd cc

or_none : (b : Bool) → (b || false) ≡ true → b ≡ true
or_none true e = refl
or_none false e = absurd cc

module _ (m : Mode) (p : Typed) (s : Setting) (f : Function) (j : IsJudged p) (is : IsFunction p s f) (ones : DeclareOnes s) where
  abbrev globals : Globals
  globals = globals_in p

  objects : AreObjects globals s.variables
  objects = names_objects p s f j is

  structs : globals.structs ≡ s.text.layout
  structs = structs_told p j ∙ ap (λ (q : Typed). q.layout) (text_is p s f j is)

  -- what is known of an expression
  record IsKnownPart (x : ExprLayer) : Type 0 where
    pub row : HasRow globals s x
    pub of_mode : IsPartOfMode m x
    pub callless : HasNoCall x
    pub address : TakesAddress s.frame x

  abbrev IsKnown : NotedExpr → Type 0
  IsKnown = EachExpr IsKnownPart

  abbrev PartsKnown : NotedLayer → Type 0
  PartsKnown = Down IsKnown (EachLimits IsKnownPart)

  value : (e : NotedExpr) → IsKnown e → HasValueType e.note.ctype
  value e known = (value_type globals s objects IsKnownPart (λ x k. k.row) (λ x k. k.callless) e known).0

  own : (e : NotedExpr) → IsKnown e → IsKnownPart (layer e)
  own e known = every_here-Expr Name Note AnyLimits AnyNode IsKnownPart e known

  -- ---- members

  scalar_member : (u t : CType) (n : Name) → dot_type globals.structs u n ≡ Some t → IsScalarMember s u t n
  scalar_member u t n row =
      let here : dot_type s.text.layout u n ≡ Some t = subst (λ (x : Structs). dot_type x u n ≡ Some t) structs row in
      let form = struct_form s.text.layout n t (out-CType u) here in
      let m = member_found s.text.layout form.0 n t form.2 in
      let form_there = struct_form globals.structs n t (out-CType u) row in
      record {
        tag = form.0;
        struct = form.1;
        number = m.member.name;
        named = m.named;
        member = m.member;
        found = m.found;
        type = m.type;
        scalar = (scalar_parts t (objects.members form_there.0 n t form_there.2)).0;
      }

  -- what `->` reads through
  no_end : (e : NotedExpr) (t : CType) (n : Name) → IsKnown e → dot_type globals.structs (element_of e.note.ctype) n ≡ Some t → is_terminated_kind (kind_of e.note.ctype) ≡ false
  no_end e t n known row =
      let form = struct_form globals.structs n t (out-CType (element_of e.note.ctype)) row in
      other_kind e.note.ctype (value e known) (ap is_integer_form form.1)

  through : (e : NotedExpr) (t : CType) (n : Name) → IsKnown e → dot_type globals.structs (element_of e.note.ctype) n ≡ Some t
      → ((m ≡ Unchecked) × IsRaw e) ⊎ IsThrough s e.note.ctype
  through e t n known row = by (is_raw_kind (kind_of e.note.ctype)) refl
    where
      by : (raw : Bool) → is_raw_kind (kind_of e.note.ctype) ≡ raw → ((m ≡ Unchecked) × IsRaw e) ⊎ IsThrough s e.note.ctype
      by true is = inl (raw_mode m (layer e) (own e known).of_mode is, is)
      by false is =
          let form = struct_form globals.structs n t (out-CType (element_of e.note.ctype)) row in
          inr (⊎_elim (λ one. inr (one, ones)) (λ many. inl (array_is (kind_of e.note.ctype) many (no_end e t n known row)))
          (kind_is e.note.ctype (pointer_form (out-CType e.note.ctype) form.0 form.1) is))

  -- ---- addresses

  static_there : (n : Name) → is_no_array (object_named globals n) ≡ true → IsStaticName n
  static_there n h = by (object_named globals n) refl h
    where
      by : (o : Option Object) → object_named globals n ≡ o → is_no_array o ≡ true → IsStaticName n
      by (Some o) g h = object_static p s f j is n o g
      by None g h = absurd cc

  name_addressed : (n : Name) (t : CType) → IsStaticName n → type_of_name globals s.variables n ≡ Some t → is_no_array (object_named globals n) ≡ true
      → has_none_of_node s.frame (viewed s.frame (Node-F.Name n)) ≡ false → IsAddressed s t (Node-F.Name n)
  name_addressed n t i =
      subst (λ (m : Name). type_of_name globals s.variables m ≡ Some t → is_no_array (object_named globals m) ≡ true → has_none_of_node s.frame (viewed s.frame (Node-F.Name m)) ≡ false → IsAddressed s t (Node-F.Name m))
      (sym i.1) (λ row there bare. free_object p s f j is t i.0 (statics_told p s f t i.0 j is row) there bare)

  abbrev Addressed : CType → NotedLayer → Type 0
  Addressed t x = IsAddressed s t x ⊎ ((m ≡ Unchecked) × IsAddressedRaw s t x)

  addressed_node : (mode : Mode) (x : NotedLayer) (t : CType) → HasType globals s.variables mode x t → PartsKnown x → (is_object_form globals x || is_placed_form x) ≡ true
      → has_none_of_node s.frame (viewed s.frame x) ≡ false → Addressed t x
  addressed_node mode (Node-F.Name n) t row parts there bare = let h = or_none (is_no_array (object_named globals n)) there in inl (name_addressed n t (static_there n h) row h bare)
  addressed_node mode (Node-F.Un op.Deref e) t row parts there bare = inl tt
  addressed_node mode (Node-F.Index e g) t row parts there bare = inl tt
  addressed_node mode (Node-F.Dot e n at) t row parts there bare = inl (scalar_member e.note.ctype t n row)
  addressed_node mode (Node-F.Arrow e n at) t row parts there bare =
      let member = scalar_member (element_of e.note.ctype) t n row in
      ⊎_elim (λ raw. inr (raw.0, (raw.1, member))) (λ checked. inl (member, checked)) (through e t n parts row)
  addressed_node mode x t row parts there bare = absurd cc

  addressed : (e : NotedExpr) → IsKnown e → has_address globals e ≡ true → (view s.frame e).no_address ≡ false → Addressed e.note.ctype (out-Node Name Note e.node)
  addressed e known there free =
      let k = (own e known).row in
      addressed_node k.mode (out-Node Name Note e.node) e.note.ctype k.row (each_parts IsKnownPart e known) there (sym (ap (λ (v : View). v.no_address) (view_is s.frame e)) ∙ free)

  -- ---- structures

  name_structure : (n : Name) (t : CType) (tag : ℕ) → out-CType t ≡ CType-F.Struct tag → IsStaticName n ⊎ ((v : Variable) × (variable_named s.variables n ≡ Some v) × (v.ctype ≡ t)) → IsStructureNode (Node-F.Name n)
  name_structure n t tag form (inl i) = subst (λ (m : Name). IsStructureNode (Node-F.Name m)) (sym i.1) tt
  name_structure n t tag form (inr v) =
      absurd (no_structure t (subst (λ u. is_scalar u ≡ true) v.2 (scalar_parts v.0.ctype (objects.locals n v.0 v.1)).0) tag form)

  unary_structure : (mode : Mode) (o : TreeOp) (e : NotedExpr) (t : CType) (tag : ℕ) → out-CType t ≡ CType-F.Struct tag → unary_row globals mode o e ≡ Some t → IsStructureNode (Node-F.Un o e)
  unary_structure mode op.Deref e t tag form row = tt
  unary_structure mode op.Address e t tag form row =
      absurd (no_structure t (subst (λ u. is_scalar u ≡ true) (if_is (has_address globals e) (ctype.Pointer (address_kind mode) e.note.ctype) t row)
      (pointer_scalar (ctype.Pointer (address_kind mode) e.note.ctype) (ap is_pointer_form (pointer_out (address_kind mode) e.note.ctype)))) tag form)
  unary_structure mode op.Minus e t tag form row = absurd (no_structure t (integer_scalar t (sign_row e.note.ctype t row).1.integer) tag form)
  unary_structure mode op.Plus e t tag form row = absurd (no_structure t (integer_scalar t (sign_row e.note.ctype t row).1.integer) tag form)
  unary_structure mode op.Flip e t tag form row = absurd (no_structure t (integer_scalar t (sign_row e.note.ctype t row).1.integer) tag form)
  unary_structure mode op.Not e t tag form row = absurd (no_structure t (integer_scalar t (int_row (is_scalar e.note.ctype) t row).wide.integer) tag form)
  unary_structure mode o e t tag form row = none_is_some t row

  abbrev StructureIf : CType → NotedLayer → Type 0
  StructureIf t x = (tag : ℕ) → out-CType t ≡ CType-F.Struct tag → IsStructureNode x

  written_scalar : (t u : CType) → t ≡ u → is_scalar u ≡ true → is_scalar t ≡ true
  written_scalar t u e i = subst (λ t. is_scalar t ≡ true) (sym e) i

  structure_node : (mode : Mode) (x : NotedLayer) (t : CType) → HasType globals s.variables mode x t → IsCallless x → StructureIf t x
  structure_node mode (Node-F.Number n u) t row c tag form = absurd (no_structure t (written_scalar t _ row (integer_scalar _ (number_wide u).integer)) tag form)
  structure_node mode (Node-F.Text bytes) t row c tag form = absurd (no_structure t (written_scalar t _ row (string_scalar mode)) tag form)
    where
      string_scalar : (mode : Mode) → is_scalar (string_type mode) ≡ true
      string_scalar Checked = pointer_scalar (string_type Checked) (ap is_pointer_form (pointer_out kind.Nt ctype.Char))
      string_scalar Unchecked = pointer_scalar (string_type Unchecked) (ap is_pointer_form (pointer_out kind.Raw ctype.Char))
  structure_node mode Node-F.Null t row c tag form =
      absurd (no_structure t (written_scalar t (ctype.Pointer kind.One ctype.Void) row (pointer_scalar (ctype.Pointer kind.One ctype.Void) (ap is_pointer_form (pointer_out kind.One ctype.Void)))) tag form)
  structure_node mode (Node-F.Name n) t row c tag form = name_structure n t tag form (typed_name p s f j is n t row)
  structure_node mode (Node-F.Un o e) t row c tag form = unary_structure mode o e t tag form row
  structure_node mode (Node-F.Bin o e g) t row c tag form =
      absurd (no_structure t
      (⊎_elim (λ i. integer_scalar t i)
      (λ m. ⊎_elim (λ w. subst (λ u. is_scalar u ≡ true) w.0 (moved_scalar e.note.ctype w.1)) (λ w. subst (λ u. is_scalar u ≡ true) w.0 (moved_scalar g.note.ctype w.1)) m)
      (binary_moved o e.note.ctype g.note.ctype t (is_null e) (is_null g) row)) tag form)
  structure_node mode (Node-F.Pick e g h) t row c tag form = absurd (no_structure t (integer_scalar t (choice_integer (is_scalar e.note.ctype) g.note.ctype h.note.ctype t row)) tag form)
  structure_node mode (Node-F.Index e g) t row c tag form = tt
  structure_node mode (Node-F.Dot e n at) t row c tag form = absurd (no_structure t (scalar_member e.note.ctype t n row).scalar tag form)
  structure_node mode (Node-F.Arrow e n at) t row c tag form = absurd (no_structure t (scalar_member (element_of e.note.ctype) t n row).scalar tag form)
  structure_node mode (Node-F.Cast w e) t row c tag form =
      absurd (no_structure t (written_scalar t (type_written w) row.1 (cast_scalar (type_written w) (is_object_type (type_written w)) (is_integer e.note.ctype) (is_pointer e.note.ctype || is_null e) row.0)) tag form)
  structure_node mode (Node-F.Size w) t row c tag form = absurd (no_structure t (integer_scalar t (size_wide (type_written w) t row).integer) tag form)
  structure_node mode (Node-F.Trusted w e l) t row c tag form =
      absurd (no_structure t (written_scalar t (type_written w) row.2 (fit_scalar (type_written w) (is_object_type (type_written w)) (is_some l) row.0)) tag form)
  structure_node mode (Node-F.Tested w e l) t row c tag form =
      absurd (no_structure t (written_scalar t (type_written w) row.2 (fit_scalar (type_written w) (is_object_type (type_written w)) (is_some l) row.0)) tag form)
  structure_node mode (Node-F.Call n es) t row c tag form = absurd c
  structure_node mode (Node-F.Calloc w e u) t row c tag form = absurd c

  -- what has members is a structure with a place
  structure : (e : NotedExpr) (t : CType) (n : Name) → IsKnown e → dot_type globals.structs e.note.ctype n ≡ Some t → IsStructureNode (out-Node Name Note e.node)
  structure e t n known row =
      let form = struct_form globals.structs n t (out-CType e.note.ctype) row in
      let k = own e known in
      structure_node k.row.mode (out-Node Name Note e.node) e.note.ctype k.row.row k.callless form.0 form.1

  -- ---- nodes

  name_spoken : (n : Name) → IsStaticName n ⊎ ((k : ℕ) × (n ≡ name.Local k)) → IsSpokenNode m s (Node-F.Name n)
  name_spoken n (inl i) = subst (λ (x : Name). IsSpokenNode m s (Node-F.Name x)) (sym i.1) tt
  name_spoken n (inr i) = subst (λ (x : Name). IsSpokenNode m s (Node-F.Name x)) (sym i.1) tt

  unary_spoken : (mode : Mode) (o : TreeOp) (e : NotedExpr) (t : CType) → IsKnown e → unary_row globals mode o e ≡ Some t → HasAddress s.frame (Node-F.Un o e) → IsSpokenNode m s (Node-F.Un o e)
  unary_spoken mode op.Deref e t known row free = read_element e (target_object e.note.ctype t (value e known) row)
  unary_spoken mode op.Address e t known row free = addressed e known (true_if (has_address globals e) (ctype.Pointer (address_kind mode) e.note.ctype) t row) free
  unary_spoken mode o e t known row free = tt

  node_spoken : (mode : Mode) (x : NotedLayer) (t : CType) → HasType globals s.variables mode x t → IsCallless x → HasAddress s.frame x → PartsKnown x → IsSpokenNode m s x
  node_spoken mode (Node-F.Name n) t row c free parts = name_spoken n (⊎_elim (λ i. inl i) (λ v. inr (variable_local p s f j is n v.0 v.1)) (typed_name p s f j is n t row))
  node_spoken mode (Node-F.Un o e) t row c free parts = unary_spoken mode o e t parts row free
  node_spoken mode (Node-F.Index e g) t row c free parts = read_element e (index_object e.note.ctype g.note.ctype t (value e parts.0) row)
  node_spoken mode (Node-F.Dot e n at) t row c free parts = structure e t n parts row
  node_spoken mode (Node-F.Arrow e n at) t row c free parts = no_end e t n parts row
  node_spoken mode (Node-F.Call n es) t row c free parts = absurd c
  node_spoken mode (Node-F.Calloc w e u) t row c free parts = absurd c
  node_spoken mode x t row c free parts = tt

  -- ---- expressions

  expr_spoken : (e : NotedExpr) → IsKnown e → IsSpokenPart m s (layer e)
  expr_spoken e known =
      let k = own e known in
      node_spoken k.row.mode (out-Node Name Note e.node) e.note.ctype k.row.row k.callless k.address (each_parts IsKnownPart e known)

  record IsTypedPart (x : ExprLayer) : Type 0 where
    pub row : HasRow globals s x
    pub of_mode : IsPartOfMode m x

  record IsCalllessPart (x : ExprLayer) : Type 0 where
    pub callless : HasNoCall x
    pub address : TakesAddress s.frame x

  pub judged_spoken : (before after : NotedExpr) (fresh : ℕ) (at : State) → IsTyped globals s before → IsOfMode m before → callless_expr before ≡ true
      → (view s.frame before).judged fresh at ≡ Ok after → IsSpoken m s after
  judged_spoken before after fresh at typed of_mode callless judged =
      let rows : IsTyped globals s after = (judged_typed globals s before after fresh at typed judged).0 in
      let modes : IsOfMode m after = judging_keeps (IsPartOfMode m) (mode_blind m) s.frame before after fresh at judged of_mode in
      let calls : EachExpr HasNoCall after = judging_keeps HasNoCall callless_blind s.frame before after fresh at judged (no_calls before callless) in
      let again : (view s.frame after).judged fresh at ≡ Ok after =
      ap (λ (v : View). v.judged fresh at) (same_view s.frame before after fresh at judged s.frame) ∙ judged in
      let one = each_follows (HasRow globals s) (IsPartOfMode m) IsTypedPart (λ x r k. record { row = r; of_mode = k }) after rows modes in
      let two = each_follows HasNoCall (TakesAddress s.frame) IsCalllessPart (λ x c a. record { callless = c; address = a }) after calls (addresses_taken s.frame after fresh at again calls) in
      let known = each_follows IsTypedPart IsCalllessPart IsKnownPart (λ x a b. record { row = a.row; of_mode = a.of_mode; callless = b.callless; address = b.address }) after one two in
      each_whole IsKnownPart (IsSpokenPart m s) expr_spoken after known

pub expressions_are_spoken : (m : Mode) (p : Typed) (s : Setting) (f : Function) (before after : NotedExpr) (fresh : ℕ) (at : State) → IsJudged p → IsFunction p s f → DeclareOnes s → IsTyped (globals_in p) s before
    → IsOfMode m before → callless_expr before ≡ true → (view s.frame before).judged fresh at ≡ Ok after → IsSpoken m s after
expressions_are_spoken m p s f before after fresh at j is ones = judged_spoken m p s f j is ones before after fresh at

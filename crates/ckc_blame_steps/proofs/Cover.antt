-- The expressions of code of a mode are those of which it is said what they come to.
use Rattle.std.proofs.Common.{◌≡◌, ◌∙◌, ⊎_elim, sym, subst, refl, inl, inr, ℕ, Bool, true, false, List, rules}
use Rattle.std.specs.Prelude.{◌⊎◌, ◌&&◌, not, if◌then◌else◌, Option, Some, None}
use Rattle.ckc_base.specs.declared.arithmetic.Mode.{Mode}
use Rattle.ckc_base.specs.declared.arithmetic.Mode.TheVariants.{Checked, Unchecked}
use Rattle.ckc_types.specs.declared.types.Kind.{Kind}
use Rattle.ckc_types.specs.declared.types.Kind.TheVariants as kind
use Rattle.ckc_types.specs.declared.types.CType.{CType, CType-F, out-CType, map-CType, fold_out-CType, the_lemmas}
use Rattle.ckc_types.specs.declared.types.CType.TheVariants as ctype
use Rattle.ckc_types.specs.declared.types.Structs.{Structs}
use Rattle.ckc_syntax.specs.declared.tree.Name.{Name}
use Rattle.ckc_syntax.specs.declared.tree.Name.TheVariants as name
use Rattle.ckc_syntax.specs.declared.tree.TreeOp.{TreeOp}
use Rattle.ckc_syntax.specs.declared.tree.TreeOp.TheVariants as op
use Rattle.ckc_syntax.specs.declared.tree.Node.{Node-F, out-Node}
use Rattle.ckc_syntax.specs.declared.tree.Expr.{every_here-Expr}
use Rattle.ckc_typed.specs.declared.environment.Globals.{Globals}
use Rattle.ckc_typed.specs.declared.typed.Note.{Note}
use Rattle.ckc_typed.specs.Conversions.{is_terminated_kind}
use Rattle.ckc_typed.specs.Operands.{is_raw_kind, is_moved, is_moved_kind, target_type, index_type, dot_type, arrow_type, member_in}
use Rattle.ckc_typed.specs.Raw.{has_raw, raw_in_form}
use Rattle.ckc_typed.specs.Trees.{NotedExpr, NotedLayer}
use Rattle.ckc_typed.specs.Types.{is_integer, is_pointer, is_pointer_form, is_void, kind_of, kind_in, element_of, element_in}
use Rattle.ckc_typed_welltyped.specs.Expressions.{AnyLimits, AnyNode, HasType, unary_row}
use Rattle.ckc_blame_sound.specs.ckc_bounds_views.specs.Judged.{is_counted_kind}
use Rattle.ckc_blame_sound.specs.ckc_bounds_views.specs.Views.{view}
use Rattle.ckc_source.specs.Eval.{Store}
use Rattle.ckc_blame_sound.specs.Settings.{Setting}
use Rattle.ckc_blame_sound.specs.Safe.{is_assumed}
use Rattle.ckc_blame_sound.specs.Scopes.{NamesAmong, HasAmong, NamesSeen}
use Rattle.ckc_blame_sound.specs.Typed.{HasRow, IsTyped}
use Rattle.ckc_blame_given.specs.ckc_blame_pointers.specs.Covered.{IsElement, IsSingle, IsThrough, IsStructureTarget, IsStructureElement, IsPointerTarget, IsArrow, IsPointerArrow, IsStructureNode, IsDot, IsCoveredNode, IsRaw, IsUncheckedNode, IsCoveredExpr, AreCovered}
use Rattle.ckc_blame_sound.proofs.Every.{ExprLayer, EachExpr, EachLimits, each_follows}
use Rattle.ckc_blame_sound.proofs.Sizes.{sizes_are_words}
use Rattle.ckc_blame_steps.specs.Checked.{IsPartOfMode, IsOfMode}
use Rattle.ckc_blame_steps.specs.Told.{IsTold, IsReadElement, IsSpokenNode, IsSpokenPart, IsSpoken}
use Rattle.ckc_blame_steps.proofs.Down.{layer, Down, each_parts, each_whole}
use Rattle.ckc_blame_steps.proofs.FewValues.{IsFew, FewHere, parts_few}

-- ---- types

void_form : out-CType ctype.Void ≡ CType-F.Void
void_form = search (rules, the_lemmas)

no_raw_form : (f : CType-F CType) → raw_in_form (map-CType CType Bool has_raw f) ≡ false → is_raw_kind (kind_in f) ≡ false
no_raw_form (CType-F.Pointer kind.Raw t) h = absurd (cc)
no_raw_form (CType-F.Pointer kind.One t) h = refl
no_raw_form (CType-F.Pointer kind.Arr t) h = refl
no_raw_form (CType-F.Pointer kind.Nt t) h = refl
no_raw_form CType-F.Int h = refl
no_raw_form CType-F.Unsigned h = refl
no_raw_form CType-F.Char h = refl
no_raw_form CType-F.Void h = refl
no_raw_form (CType-F.Struct tag) h = refl

pub no_raw : (t : CType) → has_raw t ≡ false → is_raw_kind (kind_of t) ≡ false
no_raw t h = no_raw_form (out-CType t) (sym (fold_out-CType Bool raw_in_form t) ∙ h)

-- an unchecked pointer is one of unchecked code
pub raw_mode : (m : Mode) (x : ExprLayer) → IsPartOfMode m x → is_raw_kind (kind_of x.note.ctype) ≡ true → m ≡ Unchecked
raw_mode Checked x h raw = let no : true ≡ false = sym raw ∙ no_raw x.note.ctype (h.type refl) in absurd (cc)
raw_mode Unchecked x h raw = refl

assumed_mode : (m : Mode) (x : ExprLayer) → IsPartOfMode m x → is_assumed (out-Node Name Note x.node) ≡ true → m ≡ Unchecked
assumed_mode Checked x h assumed = let no : true ≡ false = sym assumed ∙ h.node refl in absurd (cc)
assumed_mode Unchecked x h assumed = refl

-- a checked pointer is a `_Ptr` or has bounds that count elements
abbrev pub IsCheckedKind : Option Kind → Type 0
IsCheckedKind k = (k ≡ Some kind.One) ⊎ (is_counted_kind k ≡ true)

kind_form : (f : CType-F CType) → is_pointer_form f ≡ true → is_raw_kind (kind_in f) ≡ false → IsCheckedKind (kind_in f)
kind_form (CType-F.Pointer kind.Raw t) p h = absurd (cc)
kind_form (CType-F.Pointer kind.One t) p h = inl refl
kind_form (CType-F.Pointer kind.Arr t) p h = inr refl
kind_form (CType-F.Pointer kind.Nt t) p h = inr refl
kind_form CType-F.Int p h = absurd (cc)
kind_form CType-F.Unsigned p h = absurd (cc)
kind_form CType-F.Char p h = absurd (cc)
kind_form CType-F.Void p h = absurd (cc)
kind_form (CType-F.Struct tag) p h = absurd (cc)

pub kind_is : (t : CType) → is_pointer t ≡ true → is_raw_kind (kind_of t) ≡ false → IsCheckedKind (kind_of t)
kind_is t p h = kind_form (out-CType t) p h

pub moved_counted : (k : Option Kind) → is_moved_kind k ≡ true → is_raw_kind k ≡ false → is_counted_kind k ≡ true
moved_counted (Some kind.Raw) m h = absurd (cc)
moved_counted (Some kind.One) m h = absurd (cc)
moved_counted (Some kind.Arr) m h = refl
moved_counted (Some kind.Nt) m h = refl
moved_counted None m h = absurd (cc)

pub array_is : (k : Option Kind) → is_counted_kind k ≡ true → is_terminated_kind k ≡ false → k ≡ Some kind.Arr
array_is (Some kind.Raw) c h = absurd (cc)
array_is (Some kind.One) c h = absurd (cc)
array_is (Some kind.Arr) c h = refl
array_is (Some kind.Nt) c h = absurd (cc)
array_is None c h = absurd (cc)

-- if something is there, the condition held
held : {A : Type 0} (b : Bool) (a r : A) → ◌≡◌ {A = Option A} (if b then Some a else None) (Some r) → b ≡ true
held true a r h = refl
held false a r h = absurd (cc)

first_of : (a b : Bool) → (a && b) ≡ true → a ≡ true
first_of true b h = refl
first_of false b h = absurd (cc)

-- what has members is a structure
struct_form : (structs : Structs) (n : Name) (t : CType) (f : CType-F CType) → member_in structs n f ≡ Some t → (tag : ℕ) × (f ≡ CType-F.Struct tag)
struct_form structs n t (CType-F.Struct tag) h = (tag, refl)
struct_form structs n t CType-F.Int h = absurd (cc)
struct_form structs n t CType-F.Unsigned h = absurd (cc)
struct_form structs n t CType-F.Char h = absurd (cc)
struct_form structs n t CType-F.Void h = absurd (cc)
struct_form structs n t (CType-F.Pointer k u) h = absurd (cc)

no_struct : (tag : ℕ) → ◌≡◌ {A = CType-F CType} CType-F.Void (CType-F.Struct tag) → ⊥
no_struct tag h = cc

-- what points to something that has members is a pointer
pub pointer_form : (f : CType-F CType) (tag : ℕ) → out-CType (element_in f) ≡ CType-F.Struct tag → is_pointer_form f ≡ true
pointer_form (CType-F.Pointer k t) tag h = refl
pointer_form CType-F.Int tag h = absurd (no_struct tag (sym void_form ∙ h))
pointer_form CType-F.Unsigned tag h = absurd (no_struct tag (sym void_form ∙ h))
pointer_form CType-F.Char tag h = absurd (no_struct tag (sym void_form ∙ h))
pointer_form CType-F.Void tag h = absurd (no_struct tag (sym void_form ∙ h))
pointer_form (CType-F.Struct k) tag h = absurd (no_struct tag (sym void_form ∙ h))

-- ---- a node

module _ (m : Mode) (globals : Globals) (s : Setting) (store : Store) (seen : List ℕ) (told : IsTold globals s store seen) where
  -- what is known of an expression
  record IsKnownPart (e : ExprLayer) : Type 0 where
    pub row : HasRow globals s e
    pub of_mode : IsPartOfMode m e
    pub scope : HasAmong seen e
    pub spoken : IsSpokenPart m s e
    pub few : FewHere s.frame e

  abbrev IsKnown : NotedExpr → Type 0
  IsKnown = EachExpr IsKnownPart

  own : (e : NotedExpr) → IsKnown e → IsKnownPart (layer e)
  own e h = every_here-Expr Name Note AnyLimits AnyNode IsKnownPart e h

  abbrev Covered : CType → NotedLayer → Type 0
  Covered t x = IsCoveredNode s store seen t x ⊎ ((m ≡ Unchecked) × IsUncheckedNode s store t x)

  -- what is said of a node with an operand is said of it with an unchecked pointer or with another operand
  by_raw : (e : NotedExpr) (t : CType) (x : NotedLayer) → IsKnown e → (IsRaw e → IsUncheckedNode s store t x) → (is_raw_kind (kind_of e.note.ctype) ≡ false → IsCoveredNode s store seen t x) → Covered t x
  by_raw e t x known raw other = by (is_raw_kind (kind_of e.note.ctype)) refl
    where
      by : (b : Bool) → is_raw_kind (kind_of e.note.ctype) ≡ b → Covered t x
      by true is = inr (raw_mode m (layer e) (own e known).of_mode is, raw is)
      by false is = inl (other is)

  through : (e : NotedExpr) → IsCheckedKind (kind_of e.note.ctype) → is_terminated_kind (kind_of e.note.ctype) ≡ false → IsThrough s e.note.ctype
  through e (inl one) other = inr (one, told.ones)
  through e (inr many) other = inl (array_is (kind_of e.note.ctype) many other)

  abbrev IsTarget : NotedExpr → Type 0
  IsTarget e = IsElement e ⊎ (IsSingle s e ⊎ (IsStructureTarget s e ⊎ IsPointerTarget s store e))

  deref : (e : NotedExpr) (t : CType) → target_type e.note.ctype ≡ Some t → IsReadElement e → is_raw_kind (kind_of e.note.ctype) ≡ false → IsTarget e
  deref e t row spoken raw = by spoken (kind_is e.note.ctype (first_of (is_pointer e.note.ctype) (not (is_void (element_of e.note.ctype))) (held _ (element_of e.note.ctype) t row)) raw)
    where
      by : IsReadElement e → IsCheckedKind (kind_of e.note.ctype) → IsTarget e
      by (inl integer) (inl one) = inr (inl (record { single = one; integer = integer; declared = told.ones }))
      by (inl integer) (inr many) = inl (record { counted = many; integer = integer })
      by (inr w) k =
          ⊎_elim
          (λ f. inr (inr (inl (record { tag = f.0; struct = f.1; through = through e k w.other }))))
          (λ f. inr (inr (inr (record { pointer = f; through = through e k w.other; free = told.free; filled = told.filled }))))
          w.form

  abbrev IsIndexed : NotedExpr → Type 0
  IsIndexed e = IsElement e ⊎ (IsStructureElement e ⊎ (IsPointerTarget s store e × (kind_of e.note.ctype ≡ Some kind.Arr)))

  indexed : (e f : NotedExpr) (t : CType) → index_type e.note.ctype f.note.ctype ≡ Some t → IsReadElement e → is_raw_kind (kind_of e.note.ctype) ≡ false → IsIndexed e
  indexed e f t row spoken raw =
      by spoken (moved_counted (kind_of e.note.ctype) (first_of (is_moved e.note.ctype) (is_integer f.note.ctype) (held _ (element_of e.note.ctype) t row)) raw)
    where
      by : IsReadElement e → is_counted_kind (kind_of e.note.ctype) ≡ true → IsIndexed e
      by (inl integer) many = inl (record { counted = many; integer = integer })
      by (inr w) many =
          let array = array_is (kind_of e.note.ctype) many w.other in
          ⊎_elim
          (λ f. inr (inl (record { tag = f.0; struct = f.1; array = array })))
          (λ f. inr (inr (record { pointer = f; through = inl array; free = told.free; filled = told.filled }, array)))
          w.form

  -- what `->` names is a member of a structure of the text
  arrow_there : (e : NotedExpr) (n : Name) (t : CType) → arrow_type globals.structs e.note.ctype n ≡ Some t → dot_type s.text.layout (element_of e.note.ctype) n ≡ Some t
  arrow_there e n t row = subst (λ x. arrow_type x e.note.ctype n ≡ Some t) told.structs row

  arrowed : (e : NotedExpr) (n : Name) (t : CType) → arrow_type globals.structs e.note.ctype n ≡ Some t → is_terminated_kind (kind_of e.note.ctype) ≡ false → is_raw_kind (kind_of e.note.ctype) ≡ false
      → IsArrow s e n t ⊎ IsPointerArrow s store e n t
  arrowed e n t row other raw =
      let here = arrow_there e n t row in
      let form = struct_form s.text.layout n t (out-CType (element_of e.note.ctype)) here in
      let k : IsCheckedKind (kind_of e.note.ctype) = kind_is e.note.ctype (pointer_form (out-CType e.note.ctype) form.0 form.1) raw in
      ⊎_elim
      (λ x. inl (record { member = x; through = ⊎_elim (λ one. inr (one, told.ones)) (λ many. inl many) k }))
      (λ x. inr (record { member = x; through = through e k other }))
      (told.members (element_of e.note.ctype) t n here)

  dotted : (e : NotedExpr) (n : Name) (t : CType) → dot_type globals.structs e.note.ctype n ≡ Some t → IsStructureNode (out-Node Name Note e.node) → IsDot s store e n t
  dotted e n t row operand =
      let here : dot_type s.text.layout e.note.ctype n ≡ Some t = subst (λ x. dot_type x e.note.ctype n ≡ Some t) told.structs row in
      let form = struct_form s.text.layout n t (out-CType e.note.ctype) here in
      record { operand = operand; tag = form.0; struct = form.1; member = told.members e.note.ctype t n here }

  unary : (mode : Mode) (t : CType) (o : TreeOp) (e : NotedExpr) → IsKnown e → unary_row globals mode o e ≡ Some t → IsSpokenNode m s (Node-F.Un o e) → Covered t (Node-F.Un o e)
  unary mode t op.Deref e known row spoken = by_raw e t (Node-F.Un op.Deref e) known (λ raw. raw) (deref e t row spoken)
  unary mode t op.Address e known row spoken = spoken
  unary mode t op.Minus e known row spoken = inl tt
  unary mode t op.Plus e known row spoken = inl tt
  unary mode t op.Flip e known row spoken = inl tt
  unary mode t op.Not e known row spoken = inl tt
  unary mode t op.OrElse e known row spoken = absurd (cc)
  unary mode t op.AndThen e known row spoken = absurd (cc)
  unary mode t op.Or e known row spoken = absurd (cc)
  unary mode t op.Xor e known row spoken = absurd (cc)
  unary mode t op.And e known row spoken = absurd (cc)
  unary mode t op.Eq e known row spoken = absurd (cc)
  unary mode t op.Ne e known row spoken = absurd (cc)
  unary mode t op.Lt e known row spoken = absurd (cc)
  unary mode t op.Le e known row spoken = absurd (cc)
  unary mode t op.Gt e known row spoken = absurd (cc)
  unary mode t op.Ge e known row spoken = absurd (cc)
  unary mode t op.Shl e known row spoken = absurd (cc)
  unary mode t op.Shr e known row spoken = absurd (cc)
  unary mode t op.Add e known row spoken = absurd (cc)
  unary mode t op.Sub e known row spoken = absurd (cc)
  unary mode t op.Mul e known row spoken = absurd (cc)
  unary mode t op.Div e known row spoken = absurd (cc)
  unary mode t op.Rem e known row spoken = absurd (cc)
  unary mode t op.Set e known row spoken = absurd (cc)
  unary mode t op.PostInc e known row spoken = absurd (cc)
  unary mode t op.PostDec e known row spoken = absurd (cc)

  node_covered : (mode : Mode) (t : CType) (x : NotedLayer) → HasType globals s.variables mode x t → (is_assumed x ≡ true → m ≡ Unchecked) → NamesAmong seen x → IsSpokenNode m s x
      → Down IsKnown (EachLimits IsKnownPart) x → Covered t x
  node_covered mode t (Node-F.Number n u) row assumed scope spoken parts = inl tt
  node_covered mode t (Node-F.Text bytes) row assumed scope spoken parts = inl tt
  node_covered mode t Node-F.Null row assumed scope spoken parts = inl tt
  node_covered mode t (Node-F.Name (name.Local k)) row assumed scope spoken parts = inl (told.locals k scope)
  node_covered mode t (Node-F.Name (name.Static k)) row assumed scope spoken parts = inl (told.statics k t row)
  node_covered mode t (Node-F.Name (name.Function k)) row assumed scope spoken parts = absurd spoken
  node_covered mode t (Node-F.Name (name.Tag k)) row assumed scope spoken parts = absurd spoken
  node_covered mode t (Node-F.Name (name.Member k)) row assumed scope spoken parts = absurd spoken
  node_covered mode t (Node-F.Name name.Getchar) row assumed scope spoken parts = absurd spoken
  node_covered mode t (Node-F.Name name.Putchar) row assumed scope spoken parts = absurd spoken
  node_covered mode t (Node-F.Un o e) row assumed scope spoken parts = unary mode t o e parts row spoken
  node_covered mode t (Node-F.Bin o e f) row assumed scope spoken parts = inl tt
  node_covered mode t (Node-F.Pick e f g) row assumed scope spoken parts = inl tt
  node_covered mode t (Node-F.Index e f) row assumed scope spoken parts = by_raw e t (Node-F.Index e f) parts.0 (λ raw. raw) (indexed e f t row spoken)
  node_covered mode t (Node-F.Dot e n at) row assumed scope spoken parts = inl (dotted e n t row spoken)
  node_covered mode t (Node-F.Arrow e n at) row assumed scope spoken parts =
      by_raw e t (Node-F.Arrow e n at) parts (λ raw. told.members (element_of e.note.ctype) t n (arrow_there e n t row)) (arrowed e n t row spoken)
  node_covered mode t (Node-F.Cast w e) row assumed scope spoken parts = inl tt
  node_covered mode t (Node-F.Size w) row assumed scope spoken parts = inl tt
  node_covered mode t (Node-F.Trusted w e l) row assumed scope spoken parts = inr (assumed refl, tt)
  node_covered mode t (Node-F.Tested w e l) row assumed scope spoken parts = inl (λ one. told.ones)
  node_covered mode t (Node-F.Call n es) row assumed scope spoken parts = absurd spoken
  node_covered mode t (Node-F.Calloc w e u) row assumed scope spoken parts = absurd spoken

  -- ---- an expression

  expr_covered : (e : NotedExpr) → IsKnown e → IsCoveredExpr m s store seen (layer e)
  expr_covered e h =
      let here = own e h in
      record {
        node = node_covered here.row.mode e.note.ctype (out-Node Name Note e.node) here.row.row (assumed_mode m (layer e) here.of_mode) here.scope here.spoken (each_parts IsKnownPart e h);
        checked = raw_mode m (layer e) here.of_mode;
        address = here.of_mode.address;
        few = here.few;
        sized = sizes_are_words s.text.layout (element_of e.note.ctype);
      }

  -- the two halves of what is known
  record IsTypedPart (e : ExprLayer) : Type 0 where
    pub row : HasRow globals s e
    pub of_mode : IsPartOfMode m e

  record IsScopedSpoken (e : ExprLayer) : Type 0 where
    pub scope : HasAmong seen e
    pub spoken : IsSpokenPart m s e

  record IsTypedScoped (e : ExprLayer) : Type 0 where
    pub typed : IsTypedPart e
    pub scoped : IsScopedSpoken e

  pub expressions_are_covered : (e : NotedExpr) → IsTyped globals s e → IsOfMode m e → NamesSeen seen e → IsSpoken m s e → IsFew (view s.frame e).values → AreCovered m s store seen e
  expressions_are_covered e typed of_mode scope spoken few =
      let one = each_follows (HasRow globals s) (IsPartOfMode m) IsTypedPart (λ x r c. record { row = r; of_mode = c }) e typed of_mode in
      let two = each_follows (HasAmong seen) (IsSpokenPart m s) IsScopedSpoken (λ x a b. record { scope = a; spoken = b }) e scope spoken in
      let both = each_follows IsTypedPart IsScopedSpoken IsTypedScoped (λ x a b. record { typed = a; scoped = b }) e one two in
      let known = each_follows IsTypedScoped (FewHere s.frame) IsKnownPart
      (λ x a b. record { row = a.typed.row; of_mode = a.typed.of_mode; scope = a.scoped.scope; spoken = a.scoped.spoken; few = b }) e both (parts_few s.frame e few) in
      each_whole IsKnownPart (IsCoveredExpr m s store seen) expr_covered e known

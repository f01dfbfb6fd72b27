-- What a name of file scope is: an integer, an array, a pointer or a structure.
use Rattle.std.proofs.Common.{◌≡◌, ◌∙◌, sym, ap, subst, refl, inl, inr, ℕ, ℤ, List, [], ◌∷◌, map}
use Rattle.std.specs.Prelude.{All, ◌⊎◌, Bool, true, false, Option, Some, None, is_none, is_some, slice_get}
use Rattle.std.proofs.lemmas.Bool.{and_parts}
use Rattle.std.proofs.lemmas.List.Elements.{All-nil, All-cons, All-head, All-tail, All-contains}
use Rattle.ckc_base.specs.declared.arithmetic.Mode.{Mode}
use Rattle.ckc_base.specs.declared.arithmetic.Mode.TheVariants.{Unchecked}
use Rattle.ckc_types.specs.declared.types.Kind.{Kind}
use Rattle.ckc_types.specs.declared.types.Kind.TheVariants as kind
use Rattle.ckc_types.specs.declared.types.CType.{CType, CType-F, out-CType}
use Rattle.ckc_types.specs.declared.types.Structs.{Structs}
use Rattle.ckc_syntax.specs.declared.tree.Name.{Name}
use Rattle.ckc_syntax.specs.declared.tree.Name.TheVariants as name
use Rattle.ckc_syntax.specs.declared.tree.Item.TheVariants as item
use Rattle.ckc_syntax.specs.declared.tree.Length.{Length}
use Rattle.ckc_syntax.specs.declared.tree.Length.TheVariants as lengths
use Rattle.ckc_typed.specs.declared.environment.Globals.{Globals}
use Rattle.ckc_typed.specs.declared.typed.Typed.{Typed}
use Rattle.ckc_typed.specs.Declarations.{is_element_for}
use Rattle.ckc_typed.specs.Environment.{kind_of_array, used, type_of_name}
use Rattle.ckc_typed.specs.Statics.{is_terminated}
use Rattle.ckc_typed.specs.Texts.{globals_of}
use Rattle.ckc_typed.specs.Trees.{Item, Tree, NotedItem, NotedLimits}
use Rattle.ckc_typed.specs.Types.{type_written, is_integer_form, is_pointer, is_pointer_form, is_void, is_void_form, kind_of, kind_in}
use Rattle.ckc_typed.specs.Walk.{pragma_after}
use Rattle.ckc_typed_welltyped.specs.Noteless.{bare_item, without_notes}
use Rattle.ckc_typed_welltyped.specs.Texts.{WellTypedItem, WellTypedItems}
use Rattle.ckc_typed.specs.declared.environment.Amount.{Amount}
use Rattle.ckc_typed.specs.Amounts.{amount_of_limits}
use Rattle.ckc_blame_sound.specs.ckc_bounds_declared.specs.Written.{takes_bounds_kind}
use Rattle.ckc_blame_sound.specs.ckc_bounds_views.specs.Ranges.{range_of_object}
use Rattle.ckc_source.specs.declared.expr.Count.{Count}
use Rattle.ckc_source.specs.declared.expr.Count.TheVariants as count
use Rattle.ckc_source.specs.Code.{Function}
use Rattle.ckc_source.specs.Eval.{Store}
use Rattle.ckc_build_values.specs.Kinds.{count_of_kind, size_behind}
use Rattle.ckc_build_values.specs.Names.{fixed_by, fixed_count, count_declared, count_of_static, limits_declared}
use Rattle.ckc_build_elaborate.specs.Objects.{object_elaborated}
use Rattle.ckc_blame_sound.specs.Settings.{Setting, IsFunction, setting_of}
use Rattle.ckc_blame_sound.specs.Slots.{AreFilled}
use Rattle.ckc_blame_given.specs.ckc_blame_pointers.specs.Covered.{IsCountedAs}
use Rattle.ckc_blame_sound.specs.JudgedTexts.{IsJudged, globals_in}
use Rattle.ckc_blame_sound.proofs.Bares.{same_tree}
use Rattle.ckc_blame_steps.specs.Statics.{IsStatic, range_counted}
use Rattle.ckc_blame_steps.proofs.ObjectTypes.{integer_is_object, object_solid}
use Rattle.ckc_blame_steps.proofs.StaticKinds.{statics_integers, statics_arrays, statics_pointers}
use Rattle.ckc_blame_steps.proofs.Told.{statics_told}
use Rattle.ckc_blame_steps.specs.Told.{IsStaticOf}

-- ---- no object is void

element_solid : (n : Length) (t : CType) → is_element_for n t ≡ true → is_void t ≡ false
element_solid (lengths.Nt n) t h = object_solid t (integer_is_object t h)
element_solid lengths.Plain t h = object_solid t h
element_solid (lengths.Raw n at) t h = object_solid t h
element_solid (lengths.Checked n) t h = object_solid t h

abbrev IsSolid : Item → Type 0
IsSolid (item.Static d) = is_void (type_written d.ctype) ≡ false
IsSolid i = Unit {0}

item_solid : (globals : Globals) (pragma : Mode) (i : NotedItem) → WellTypedItem globals pragma i → IsSolid (bare_item i)
item_solid globals pragma (item.Static d) w = element_solid d.length (type_written d.ctype) w.element
item_solid globals pragma (item.Struct n ms at) w = tt
item_solid globals pragma (item.Directive d) w = tt
item_solid globals pragma (item.Tag n at) w = tt
item_solid globals pragma (item.Proto h) w = tt
item_solid globals pragma (item.Function h body) w = tt

items_solid : (globals : Globals) (pragma : Mode) (items : List NotedItem) → WellTypedItems globals pragma items → All IsSolid (map bare_item items)
items_solid globals pragma [] w = All-nil IsSolid
items_solid globals pragma (i ∷ items) w =
    All-cons IsSolid (bare_item i) (map bare_item items) (item_solid globals pragma i w.0) (items_solid globals (pragma_after pragma (bare_item i)) items w.1)

abbrev IsSolidHere : NotedItem → Type 0
IsSolidHere i = IsSolid (bare_item i)

noted_solid : (items : List NotedItem) → All IsSolid (map bare_item items) → All IsSolidHere items
noted_solid [] h = All-nil IsSolidHere
noted_solid (i ∷ items) h =
    All-cons IsSolidHere i items (All-head IsSolid (bare_item i) (map bare_item items) h) (noted_solid items (All-tail IsSolid (bare_item i) (map bare_item items) h))

all_solid : (p : Typed) → IsJudged p → All IsSolidHere p.tree.items
all_solid p j =
    noted_solid p.tree.items
    (subst (λ (t : Tree). All IsSolid t.items) (sym (same_tree j.typed p j.has_bounds))
    (items_solid (globals_of (without_notes j.typed.tree).items) Unchecked j.typed.tree.items j.has_types.typed.items))

-- ---- how many elements

abbrev IsConstant : Option Count → Type 0
IsConstant o = ((z : ℤ) × (o ≡ Some (count.Fixed z))) ⊎ (o ≡ None)

kind_constant : (k : Option Kind) → IsConstant (count_of_kind k)
kind_constant (Some kind.Raw) = inr refl
kind_constant (Some kind.One) = inl (_, refl)
kind_constant (Some kind.Arr) = inr refl
kind_constant (Some kind.Nt) = inl (_, refl)
kind_constant None = inr refl

amount_constant : (o : Option Amount) → IsConstant (fixed_count o)
amount_constant None = inr refl
amount_constant (Some a) = by a.variable
  where
    by : (v : Option Name) → IsConstant (fixed_by v a.number)
    by None = inl (a.number, refl)
    by (Some n) = inr refl

declared_constant : (structs : Structs) (t : CType) (l : Option NotedLimits) → IsConstant (count_declared structs t l)
declared_constant structs t None = kind_constant (kind_of t)
declared_constant structs t (Some l) = amount_constant (amount_of_limits structs (size_behind structs t) l)

-- ---- a static object

plain_ends : (n : Length) → kind_of_array n ≡ None → is_terminated n ≡ false
plain_ends lengths.Plain e = refl
plain_ends (lengths.Raw n at) e = absurd cc
plain_ends (lengths.Checked n) e = absurd cc
plain_ends (lengths.Nt n) e = absurd cc

true_false : (b : Bool) → b ≡ true → b ≡ false → ⊥
true_false b t f = absurd cc

module _ (s : Setting) (store : Store) (t : CType) (k : ℕ) (w : IsStatic s t k) (filled : AreFilled s.text store)
    (solid : is_void w.object.element ≡ false) where
  single : w.object.array ≡ None → w.object.element ≡ t
  single e = sym (w.type ∙ ap (used w.object.element) e)

  bare : takes_bounds_kind (kind_of w.object.element) ≡ false → w.decl.bounds ≡ None
  bare none = by w.decl.bounds refl
    where
      by : (o : Option NotedLimits) → w.decl.bounds ≡ o → w.decl.bounds ≡ None
      by None f = f
      by (Some l) f =
          absurd (true_false _ (and_parts (takes_bounds_kind (kind_of w.object.element)) (is_none (kind_of_array w.decl.length)) (w.takes (ap (λ (o : Option NotedLimits). is_some o) f))).0 none)

  counts : w.object.array ≡ None → IsCountedAs s t k
  counts e = by (declared_constant s.text.layout t (limits_declared s.text (name.Static k)))
    where
      range : (own : ℕ) → range_of_object (slice_get s.frame.objects k) t own ≡ range_counted own (count_of_static s.text t (name.Static k))
      range own =
          subst (λ (u : CType). range_of_object (slice_get s.frame.objects k) u own ≡ range_counted own (count_of_static s.text u (name.Static k))) (single e) (w.range own)

      by : IsConstant (count_of_static s.text t (name.Static k)) → IsCountedAs s t k
      by (inl f) = inl (f.0, f.1, λ own. range own ∙ ap (range_counted own) f.1)
      by (inr f) = inr (f, λ own. range own ∙ ap (range_counted own) f)

  pointer_of : w.object.array ≡ None → is_pointer t ≡ true → IsStaticOf s store t k
  pointer_of e q = by w.decl.bounds refl
    where
      several : (l : NotedLimits) → w.decl.bounds ≡ Some l → kind_of t ≡ Some kind.One → ⊥
      several l f one =
          none (sym (bare (ap takes_bounds_kind (ap kind_of (single e) ∙ one))) ∙ f)
        where
          none : None ≡ Some l → ⊥
          none h = cc

      by : (o : Option NotedLimits) → w.decl.bounds ≡ o → IsStaticOf s store t k
      by None f = inr (inr (inl (statics_pointers s store t k w e q f filled)))
      by (Some l) f = inr (inr (inr (inl (record {
        object = w.object;
        there = w.there;
        judged = w.judged;
        is_run = Some (is_none w.decl.bounds);
        placed = w.placed;
        single = e;
        plain = w.ends ∙ plain_ends w.decl.length (sym w.array ∙ e);
        some = w.some;
        element = single e;
        pointer = q;
        several = several l f;
        counts = counts e;
        filled = filled;
      }))))

  structure_of : (tag : ℕ) → w.object.array ≡ None → out-CType t ≡ CType-F.Struct tag → IsStaticOf s store t k
  structure_of tag e form =
      let none : w.decl.bounds ≡ None = bare (ap takes_bounds_kind (ap kind_of (single e) ∙ ap kind_in form)) in
      inr (inr (inr (inr (record {
        object = w.object;
        there = w.there;
        free = w.placed ∙ ap (λ (o : Option NotedLimits). Some (object_elaborated s.text.layout (Some (is_none o)) w.object)) none;
        some = w.some;
        element = single e;
        tag = tag;
        struct = form;
      }))))

  static_of : IsStaticOf s store t k
  static_of = by w.object.array refl
    where
      form : w.object.array ≡ None → (f : CType-F CType) → out-CType t ≡ f → IsStaticOf s store t k
      form e CType-F.Int is = inl (statics_integers s t k w (ap is_integer_form is))
      form e CType-F.Unsigned is = inl (statics_integers s t k w (ap is_integer_form is))
      form e CType-F.Char is = inl (statics_integers s t k w (ap is_integer_form is))
      form e CType-F.Void is = absurd (true_false (is_void w.object.element) (ap is_void (single e) ∙ ap is_void_form is) solid)
      form e (CType-F.Struct tag) is = structure_of tag e is
      form e (CType-F.Pointer kd u) is = pointer_of e (ap is_pointer_form is)

      by : (o : Option Kind) → w.object.array ≡ o → IsStaticOf s store t k
      by (Some a) e = inr (inl (statics_arrays s t k a w e))
      by None e = form e (out-CType t) refl

pub statics_of : (p : Typed) (s : Setting) (f : Function) (store : Store) → IsJudged p → IsFunction p s f → AreFilled s.text store
    → (k : ℕ) (t : CType) → type_of_name (globals_in p) s.variables (name.Static k) ≡ Some t → IsStaticOf s store t k
unfolding setting_of
statics_of p s f store j is filled k t row =
    let text : p ≡ s.text = sym (ap (λ (x : Setting). x.text) is.judged) in
    let w = statics_told p s f t k j is row in
    let solid : is_void (type_written w.decl.ctype) ≡ false =
    All-contains IsSolidHere s.text.tree.items (item.Static w.decl) (subst (λ (x : Typed). All IsSolidHere x.tree.items) text (all_solid p j)) w.declared in
    static_of s store t k w filled (ap is_void w.written ∙ solid)

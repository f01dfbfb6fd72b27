-- What is known of the names of a function of a judged text.
use Rattle.std.proofs.Common.{◌≡◌, ◌⊎◌, ◌∙◌, ⊎_elim, inl, inr, refl, sym, ap, subst, arith, rules, ℕ, ◌+◌, ◌*◌, ◌<◌, ◌≤◌, Bool, true, false, List, [], ◌∷◌, map, length}
use Rattle.std.specs.Prelude.{All, pos, ◌-◌, ◌||◌, ◌==◌, if◌then◌else◌, Option, Some, None, is_none, is_some, slice_get}
use Rattle.std.specs.List.{Contains, flat_map, list_any}
use Rattle.std.proofs.lemmas.Bool.{and_parts}
use Rattle.std.proofs.lemmas.List.{length-map}
use Rattle.std.proofs.lemmas.List.Sorted.{length_permutation}
use Rattle.std.proofs.lemmas.Option.{slice_get_within}
use Rattle.std.proofs.lemmas.List.Elements.{All-nil, All-cons, All-head, All-tail}
use Rattle.ckc_base.specs.declared.arithmetic.Mode.{Mode}
use Rattle.ckc_base.specs.declared.arithmetic.Mode.TheVariants.{Unchecked}
use Rattle.ckc_linear.specs.declared.forms.Base.TheVariants as base
use Rattle.ckc_types.specs.declared.types.Kind.{Kind}
use Rattle.ckc_types.specs.declared.types.Kind.TheVariants as kind
use Rattle.ckc_types.specs.declared.types.CType.{CType, CType-F, out-CType, the_lemmas}
use Rattle.ckc_types.specs.declared.types.CType.TheVariants as ctype
use Rattle.ckc_types.specs.declared.types.MemberBounds.{MemberBounds}
use Rattle.ckc_types.specs.declared.types.MemberBounds.TheVariants as mbounds
use Rattle.ckc_types.specs.declared.types.MemberShape.{MemberShape}
use Rattle.ckc_types.specs.declared.types.Structs.{Structs}
use Rattle.ckc_syntax.specs.declared.tree.Item.TheVariants as item
use Rattle.ckc_syntax.specs.declared.tree.Length.{Length}
use Rattle.ckc_syntax.specs.declared.tree.Length.TheVariants as lengths
use Rattle.ckc_syntax.specs.declared.tree.Name.{Name}
use Rattle.ckc_syntax.specs.declared.tree.Name.TheVariants as name
use Rattle.ckc_syntax.specs.declared.tree.Node.{Node-F}
use Rattle.ckc_syntax_limits.specs.Small.{Small}
use Rattle.ckc_typed.specs.declared.environment.Globals.{Globals}
use Rattle.ckc_typed.specs.declared.environment.Object.{Object}
use Rattle.ckc_typed.specs.declared.environment.Signature.{Signature}
use Rattle.ckc_typed.specs.declared.environment.Variable.{Variable}
use Rattle.ckc_typed.specs.declared.typed.Note.{Note}
use Rattle.ckc_typed.specs.declared.typed.Range.{Range}
use Rattle.ckc_typed.specs.declared.typed.Range.TheVariants as range
use Rattle.ckc_typed.specs.declared.typed.Typed.{Typed}
use Rattle.ckc_typed.specs.declared.typed.StaticObject.{StaticObject}
use Rattle.ckc_typed.specs.Constants.{size_of}
use Rattle.ckc_typed.specs.Conversions.{is_terminated_kind}
use Rattle.ckc_typed.specs.Declarations.{is_checked_kind}
use Rattle.ckc_typed.specs.Environment.{member_type, getchar, putchar, kind_of_array, variable_declared, variables_of, object_named, same_name, signatures_of, signatures_of_item, signature_named, type_of_name, used, variable_named}
use Rattle.ckc_typed.specs.Expressions.{is_no_array}
use Rattle.ckc_typed.specs.Layouts.{member_number}
use Rattle.ckc_typed.specs.Operands.{member_in as member_typed, dot_type}
use Rattle.std.specs.Option.{option_map}
use Rattle.ckc_typed.specs.Statics.{is_terminated, strings_of_item}
use Rattle.ckc_typed.specs.Texts.{globals_of, is_result_type}
use Rattle.ckc_typed.specs.Trees.{Item, NotedDecl, NotedItem, NotedExpr, NotedLimits, NotedNode, Tree}
use Rattle.ckc_typed.specs.Types.{is_integer, is_pointer, type_written, is_integer_form, is_pointer_form, is_scalar, is_scalar_type, is_object_type, is_void, kind_of, element_in, element_of}
use Rattle.ckc_typed_welltyped.specs.Noteless.{bare_item, without_notes}
use Rattle.ckc_typed_welltyped.specs.Productions.{given_tree}
use Rattle.ckc_typed_welltyped.specs.Texts.{WellTypedItems}
use Rattle.ckc_source.specs.declared.expr.Count.{Count}
use Rattle.ckc_source.specs.declared.expr.Count.TheVariants as count
use Rattle.ckc_source.specs.Blocks.{block_of}
use Rattle.ckc_source.specs.Words as words
use Rattle.ckc_source.specs.Code.{Function}
use Rattle.ckc_source.specs.Eval.{Store}
use Rattle.ckc_build_values.specs.Kinds.{tag_of, tag_in, width_of}
use Rattle.ckc_build_values.specs.Members.{member_named, count_by, count_in, count_of_member, integer_in_member, offset_of}
use Rattle.ckc_build_values.specs.Names.{address_in, address_of, array_in, array_of, bytes_in, bytes_of, count_declared, count_of_static, fixed_by, fixed_count}
use Rattle.ckc_build_elaborate.specs.Elaborated.{elaborated}
use Rattle.ckc_build_elaborate.specs.Objects.{object_elaborated, objects_elaborated}
use Rattle.ckc_build_forms.specs.ckc_blame_steps.specs.ckc_bounds.specs.Frames.{all_of}
use Rattle.ckc_build_forms.specs.ckc_blame_steps.specs.ckc_blame_sound.specs.ckc_bounds_declared.specs.Written.{bounds_of_kind, takes_bounds_kind}
use Rattle.ckc_build_forms.specs.ckc_blame_steps.specs.ckc_bounds_points.specs.declared.frame.Local.{Local}
use Rattle.ckc_build_forms.specs.ckc_blame_steps.specs.ckc_bounds_points.specs.Frames.{local_at}
use Rattle.ckc_build_forms.specs.ckc_blame_steps.specs.ckc_bounds_ranges.specs.Rows.{range_by, range_of_local, range_of_array}
use Rattle.ckc_build_forms.specs.ckc_blame_steps.specs.ckc_bounds_views.specs.declared.variables.Member.{Member}
use Rattle.ckc_build_forms.specs.ckc_blame_steps.specs.ckc_bounds_views.specs.declared.variables.Own.{Own}
use Rattle.ckc_build_forms.specs.ckc_blame_steps.specs.ckc_bounds_views.specs.Fresh.{is_checked, member_bounds, member_in}
use Rattle.ckc_build_forms.specs.ckc_blame_steps.specs.ckc_bounds_views.specs.Judged.{is_missing}
use Rattle.ckc_build_forms.specs.ckc_blame_steps.specs.ckc_bounds_views.specs.Ranges.{range_in_struct, range_of_member, range_of_name, range_of_object, range_of_static}
use Rattle.ckc_build_forms.specs.ckc_blame_steps.specs.Statics.{IsStatic, range_counted}
use Rattle.ckc_build_forms.specs.ckc_blame_steps.specs.Told.{IsTold}
use Rattle.ckc_build_forms.specs.ckc_blame_steps.specs.ckc_blame_sound.specs.JudgedTexts.{IsJudged, globals_in}
use Rattle.ckc_build_forms.specs.ckc_blame_steps.specs.ckc_blame_sound.specs.Settings.{Setting, AreStrings, IsFunction, IsString, setting_of}
use Rattle.ckc_build_forms.specs.ckc_blame_steps.specs.ckc_blame_sound.proofs.Frames.{frames_agree, locals_are_there, named_type, statics_named, types_numbered, types_length, variables_moved}
use Rattle.ckc_build_forms.specs.ckc_blame_steps.specs.ckc_blame_sound.proofs.Functions.{numbered, tree_named}
use Rattle.ckc_build_forms.specs.ckc_blame_steps.specs.ckc_blame_sound.proofs.Lists.{found}
use Rattle.ckc_build_forms.specs.ckc_blame_steps.specs.ckc_blame_sound.proofs.Ranges.{contains_at}
use Rattle.ckc_build_forms.specs.ckc_blame_steps.specs.ckc_blame_declared.proofs.Integers.{members_count_integers}
use Rattle.ckc_build_forms.specs.ckc_blame_steps.proofs.DeclaredTypes.{names_objects, scalar_parts}
use Rattle.ckc_build_forms.specs.ckc_blame_steps.proofs.NamedObjects.{object_static, typed_name, variable_local}
use Rattle.ckc_build_forms.specs.ckc_blame_steps.proofs.Ones.{ones_declared}
use Rattle.ckc_build_forms.specs.ckc_blame_steps.proofs.Runs.{runs_free}
use Rattle.ckc_build_forms.specs.ckc_blame_steps.proofs.Small.{few_locals, variables_are}
use Rattle.ckc_build_forms.specs.ckc_blame_steps.proofs.Texts.{texts_are_told}
use Rattle.ckc_build_forms.specs.ckc_blame_steps.specs.ckc_blame_sound.specs.Cells.{AreSound, IsPartIn, IsPart}
use Rattle.ckc_build_forms.specs.ckc_blame_steps.specs.ckc_blame_sound.specs.Limited.{IsCountPart}
use Rattle.ckc_build_forms.specs.ckc_blame_steps.specs.ckc_blame_sound.proofs.Accesses.{member_part, scalar_part}
use Rattle.ckc_build_forms.specs.ckc_blame_steps.specs.ckc_blame_sound.proofs.Apart.{cell_there}
use Rattle.ckc_build_forms.specs.ckc_blame_steps.specs.ckc_blame_sound.proofs.Objects.{object_cell}
use Rattle.ckc_build_forms.specs.ckc_blame_steps.specs.ckc_blame_sound.proofs.Parts.{sized_form}
use Rattle.ckc_build_forms.specs.ckc_blame_steps.specs.ckc_blame_sound.proofs.Shapes.{integer_width}
use Rattle.ckc_build_forms.specs.ckc_blame_steps.proofs.Objects.{single}
use Rattle.ckc_build_forms.specs.ckc_blame_steps.proofs.StaticKinds.{plain_ends}
use Rattle.ckc_build_forms.specs.ckc_blame_steps.proofs.Told.{none_named, statics_told}
use Rattle.ckc_blame_pointers.specs.Covered.{NamesInteger}
use Rattle.ckc_blame_pointers.proofs.Scalars.{integer_scalar, pointer_scalar}
use Rattle.ckc_typed.specs.declared.environment.Amount.{Amount}
use Rattle.ckc_source_causes.specs.Layouts.{HasElementsAt, NamesElements}
use Rattle.ckc_source_causes.specs.WellFormed.{LiesInObject}
use Rattle.ckc_build_wellformed.proofs.Layouts.{layout_of}
use Rattle.ckc_build_wellformed.proofs.Nodes.{is_there_form}
use Rattle.ckc_build_wellformed.proofs.Parts.{IsFixed, kind_fixed, different, unlike, int_out, integer_kind, kind_pointer, pointer_kind, pointer_out}
use Rattle.ckc_build_wellformed.proofs.Sizes.{dot_sized}
use Rattle.ckc_build_wellformed.proofs.Structures.{is_struct, scalar_plain, void_plain, dot_struct, structure_there}
use Rattle.ckc_build_wellformed.proofs.Known.{Knows, KnowsMember, KnowsStatic, behind, count_missing, one_counts, range_past}

some_none : {A X : Type 0} {a : A} → ◌≡◌ {A = Option A} (Some a) None → X
some_none e = absurd cc

none_some : {A X : Type 0} {a : A} → ◌≡◌ {A = Option A} None (Some a) → X
none_some e = absurd cc

-- ---- results are no structures

abbrev HasResult : Item → Type 0
HasResult (item.Function h body) = is_result_type (type_written h.result) ≡ true
HasResult i = Unit {0}

items_results : (globals : Globals) (mode : Mode) (items : List NotedItem) → WellTypedItems globals mode items → All HasResult (map bare_item items)
items_results globals mode [] w = All-nil HasResult
items_results globals mode (item.Directive d ∷ items) w = All-cons HasResult (bare_item {N = Name} {A = Note} (item.Directive d)) (map bare_item items) tt (items_results globals _ items w.1)
items_results globals mode (item.Tag n at ∷ items) w = All-cons HasResult (bare_item {N = Name} {A = Note} (item.Tag n at)) (map bare_item items) tt (items_results globals _ items w.1)
items_results globals mode (item.Struct n ms at ∷ items) w = All-cons HasResult (bare_item {N = Name} {A = Note} (item.Struct n ms at)) (map bare_item items) tt (items_results globals _ items w.1)
items_results globals mode (item.Static d ∷ items) w = All-cons HasResult (bare_item {N = Name} {A = Note} (item.Static d)) (map bare_item items) tt (items_results globals _ items w.1)
items_results globals mode (item.Proto h ∷ items) w = All-cons HasResult (bare_item {N = Name} {A = Note} (item.Proto h)) (map bare_item items) tt (items_results globals _ items w.1)
items_results globals mode (item.Function h body ∷ items) w =
    All-cons HasResult (bare_item {N = Name} {A = Note} (item.Function h body)) (map bare_item items) w.0.0.result (items_results globals _ items w.1)

abbrev IsPlain : Signature → Type 0
IsPlain s = is_struct s.result ≡ false

result_plain : (t : CType) → is_result_type t ≡ true → is_struct t ≡ false
result_plain t h = by (is_void t) refl h
  where
    by : (b : Bool) → is_void t ≡ b → (b || is_scalar_type t) ≡ true → is_struct t ≡ false
    by true v e = void_plain t v
    by false v e = scalar_plain t (and_parts (is_scalar t) (is_object_type t) e).0

int_plain : is_struct ctype.Int ≡ false
int_plain = scalar_plain ctype.Int int_scalar
  where
    int_scalar : is_scalar ctype.Int ≡ true
    int_scalar = ap (λ (x : CType-F CType). is_integer_form x || is_pointer_form x) int_out

functions_results : (is : List Item) → All HasResult is → All IsPlain (flat_map (λ (i : Item). signatures_of_item i) is)
functions_results [] h = All-nil IsPlain
functions_results (item.Function g body ∷ is) h =
    All-cons IsPlain _ (flat_map (λ (i : Item). signatures_of_item i) is) (result_plain (type_written g.result) (All-head HasResult (item.Function g body) is h)) (functions_results is (All-tail HasResult (item.Function g body) is h))
functions_results (item.Static d ∷ is) h = functions_results is (All-tail HasResult (item.Static d) is h)
functions_results (item.Directive d ∷ is) h = functions_results is (All-tail HasResult (item.Directive d) is h)
functions_results (item.Tag n at ∷ is) h = functions_results is (All-tail HasResult (item.Tag n at) is h)
functions_results (item.Struct n ms at ∷ is) h = functions_results is (All-tail HasResult (item.Struct n ms at) is h)
functions_results (item.Proto g ∷ is) h = functions_results is (All-tail HasResult (item.Proto g) is h)

signatures_results : (is : List Item) → All HasResult is → All IsPlain (signatures_of is)
signatures_results is h =
    All-cons IsPlain getchar (putchar ∷ flat_map (λ (i : Item). signatures_of_item i) is) int_plain
    (All-cons IsPlain putchar (flat_map (λ (i : Item). signatures_of_item i) is) int_plain (functions_results is h))

-- ---- ranges that are missing

checked_same : (k : Option Kind) → is_checked k ≡ is_checked_kind k
checked_same (Some kind.Raw) = refl
checked_same (Some kind.One) = refl
checked_same (Some kind.Arr) = refl
checked_same (Some kind.Nt) = refl
checked_same None = refl

counted_missing : (own : ℕ) (c : Option Count) → c ≡ None → is_missing (range_counted own c) ≡ true
counted_missing own None e = refl
counted_missing own (Some c) e = some_none e

no_single_array : (l : Length) → kind_of_array l ≡ Some kind.One → ⊥
no_single_array lengths.Plain e = cc
no_single_array (lengths.Raw n at) e = cc
no_single_array (lengths.Checked n) e = cc
no_single_array (lengths.Nt n) e = cc

-- ---- numbers of elements

some_same : {A : Type 0} {x y : A} → ◌≡◌ {A = Option A} (Some x) (Some y) → x ≡ y
some_same e = cc

amount_fixed : (a : Option Amount) (n : Count) → fixed_count a ≡ Some n → IsFixed n
amount_fixed None n e = absurd cc
amount_fixed (Some a) n e = by a.variable e
  where
    by : (v : Option Name) → fixed_by v a.number ≡ Some n → IsFixed n
    by None f = subst IsFixed (some_same f) tt
    by (Some v) f = absurd cc

takes_pointer : (t : CType) → takes_bounds_kind (kind_of t) ≡ true → is_pointer t ≡ true
takes_pointer t h = by (kind_of t) refl h
  where
    by : (k : Option Kind) → kind_of t ≡ k → takes_bounds_kind k ≡ true → is_pointer t ≡ true
    by (Some j) is e = kind_pointer t j is
    by None is e = different e

-- ---- objects of file scope

array_ends : (l : Length) (j : Kind) → kind_of_array l ≡ Some j → is_terminated l ≡ is_terminated_kind (Some j)
array_ends lengths.Plain j e = none_some e
array_ends (lengths.Raw n at) j e = ap is_terminated_kind e
array_ends (lengths.Checked n) j e = ap is_terminated_kind e
array_ends (lengths.Nt n) j e = ap is_terminated_kind e

-- a terminator comes after the elements that may be used
room_for : (ends : Bool) (n : ℕ) → 0 < n → (if ends then (n - (if ends then 1 else 0)) + 1 else n - (if ends then 1 else 0)) ≤ n
room_for true n h = omega (arith, h)
room_for false n h = omega arith

char_out : out-CType ctype.Char ≡ CType-F.Char
char_out = search (rules, the_lemmas)

module _ (p : Typed) (s : Setting) (text : s.text ≡ p) (place : ℕ) (sound : AreSound p (map block_of (elaborated p).objects) place) where
  module _ (t : CType) (k : ℕ) (h : IsStatic s t k) where
    elements_at : (ends : Bool) (n : ℕ) → (if ends then n + 1 else n) ≤ h.object.count → HasElementsAt (elaborated p) h.object.element ends (address_of s.text k) n
    elements_at ends n room = record {
      object = object_elaborated s.text.layout (Some (is_none h.decl.bounds)) h.object;
      there = subst (λ (q : Typed). Contains (objects_elaborated q) (object_elaborated s.text.layout (Some (is_none h.decl.bounds)) h.object)) text
          (contains_at (objects_elaborated s.text) k (object_elaborated s.text.layout (Some (is_none h.decl.bounds)) h.object) h.placed);
      at = sym (ap address_in h.there);
      element = refl;
      room = room;
    }

    array_is : array_of s.text k ≡ h.object.array
    array_is = ap array_in h.there

    kind_is : (j : Kind) → array_of s.text k ≡ Some j → (kind_of t ≡ Some j) × (j ≡ kind.One → ⊥)
    kind_is j e =
        let array : h.object.array ≡ Some j = sym array_is ∙ e in (
          ap kind_of (h.type ∙ ap (used h.object.element) array) ∙ pointer_kind j h.object.element,
          λ one. no_single_array h.decl.length (sym h.array ∙ array ∙ ap Some one),
        )

    element_is : array_of s.text k ≡ None → t ≡ h.object.element
    element_is none = h.type ∙ ap (used h.object.element) (sym array_is ∙ none)

    lies : array_of s.text k ≡ None → HasElementsAt (elaborated p) t false (address_of s.text k) 1
    lies none = let some = h.some in subst (λ u. HasElementsAt (elaborated p) u false (address_of s.text k) 1) (sym (element_is none)) (elements_at false 1 (omega (arith, some)))

    elements : (j : Kind) → array_of s.text k ≡ Some j → NamesElements (elaborated p) (layout_of s.text.layout) (element_of t) (is_terminated_kind (Some j)) (address_of s.text k) (bytes_of s.text k)
    elements j e =
        let array : h.object.array ≡ Some j = sym array_is ∙ e in
        let ends : h.object.terminated ≡ is_terminated_kind (Some j) = h.ends ∙ array_ends h.decl.length j (sym h.array ∙ array) in
        let type : element_of t ≡ h.object.element = ap element_of (h.type ∙ ap (used h.object.element) array) ∙ ap element_in (pointer_out j h.object.element) in
        subst (λ u. NamesElements (elaborated p) (layout_of s.text.layout) u (is_terminated_kind (Some j)) (address_of s.text k) (bytes_of s.text k)) (sym type)
        (subst (λ b. NamesElements (elaborated p) (layout_of s.text.layout) h.object.element b (address_of s.text k) (bytes_of s.text k)) ends
        (h.object.count - (if h.object.terminated then 1 else 0), ap (bytes_in s.text.layout) h.there, elements_at h.object.terminated _ (room_for h.object.terminated h.object.count h.some)))

    room : array_of s.text k ≡ None → is_scalar t ≡ true → LiesInObject (elaborated p) (width_of t) (address_of s.text k)
    room none scalar =
        let array : h.object.array ≡ None = sym array_is ∙ none in
        let here : AreSound s.text (map block_of (elaborated s.text).objects) place = subst (λ (q : Typed). AreSound q (map block_of (elaborated q).objects) place) (sym text) sound in
        let bs = map block_of (elaborated s.text).objects in
        let part = subst (λ u. IsPart s.text.layout u 0 (width_of t)) (element_is none) (scalar_part s.text.layout t scalar) in
        let cell = object_cell s.text bs here.memory.objects k h.object h.there (h.ends ∙ plain_ends h.decl.length (sym h.array ∙ array)) h.some 0 (width_of t) part in
        let lies = cell_there s.text bs here.memory.placed (address_of s.text k + 0) (width_of t) false cell in
        let at : address_of s.text k + 0 ≡ address_of s.text k = omega arith in
        subst (LiesInObject (elaborated p) (width_of t)) at (subst (λ (q : Typed). LiesInObject (elaborated q) (width_of t) (address_of s.text k + 0)) text lies)

    fixed : array_of s.text k ≡ None → (n : Count) → count_of_static s.text t (name.Static k) ≡ Some n → (is_pointer t ≡ true) × IsFixed n
    fixed none n e = by h.decl.bounds refl
      where
        counted : (o : Option NotedLimits) → h.decl.bounds ≡ o → count_declared s.text.layout t o ≡ Some n
        counted o is = sym (ap (count_declared s.text.layout t) (h.limits ∙ is)) ∙ e

        by : (o : Option NotedLimits) → h.decl.bounds ≡ o → (is_pointer t ≡ true) × IsFixed n
        by None is = kind_fixed t n (counted None is)
        by (Some l) is = (
          subst (λ u. is_pointer u ≡ true) (sym (element_is none)) (takes_pointer h.object.element (and_parts (takes_bounds_kind (kind_of h.object.element)) (is_none (kind_of_array h.decl.length)) (h.takes (ap is_some is))).0),
          amount_fixed _ n (counted (Some l) is),
        )

    single_counts : array_of s.text k ≡ None → kind_of t ≡ Some kind.One → count_of_static s.text t (name.Static k) ≡ Some (count.Fixed (pos 1))
    single_counts array one = by h.decl.bounds refl
      where
        by : (o : Option NotedLimits) → h.decl.bounds ≡ o → count_of_static s.text t (name.Static k) ≡ Some (count.Fixed (pos 1))
        by None e = ap (count_declared s.text.layout t) (h.limits ∙ e) ∙ one_counts t one
        by (Some l) e = different (sym (ap takes_bounds_kind (ap kind_of (sym (element_is array)) ∙ one)) ∙ (and_parts (takes_bounds_kind (kind_of h.object.element)) (is_none (kind_of_array h.decl.length)) (h.takes (ap is_some e))).0)

    range_missing : array_of s.text k ≡ None → count_of_static s.text t (name.Static k) ≡ None → (own : ℕ) (widened : List ℕ) → is_missing (range_of_name s.frame (name.Static k) t own widened) ≡ true
    range_missing array none own widened =
        let same = element_is array in
        let object : range_of_static s.frame k (slice_get s.frame.statics k) t own ≡ range_of_static s.frame k (Some h.object) t own = ap (λ o. range_of_static s.frame k o t own) h.judged in
        let plain : range_of_static s.frame k (Some h.object) t own ≡ range_of_object (slice_get s.frame.objects k) t own =
        ap (λ a. if is_some a then range_of_array k h.object else range_of_object (slice_get s.frame.objects k) t own) (sym array_is ∙ array) in
        ap is_missing (object ∙ plain ∙ ap (λ u. range_of_object (slice_get s.frame.objects k) u own) same ∙ h.range own)
        ∙ counted_missing own (count_of_static s.text h.object.element (name.Static k)) (ap (λ u. count_of_static s.text u (name.Static k)) (sym same) ∙ none)

    pub static_known : KnowsStatic s (elaborated p) t k
    static_known = record { there = lies; room = room; fixed = fixed; array = kind_is; elements = elements; single = single_counts; ranged = range_missing }

  pub string_known : (bytes : List ℕ) (k : ℕ) → IsString s bytes k
      → NamesElements (elaborated p) (layout_of s.text.layout) ctype.Char true (address_of s.text k) (length bytes)
  string_known bytes k h =
      let one : size_of s.text.layout ctype.Char ≡ 1 = ap (sized_form s.text.layout) char_out in
      let many : h.object.count ≡ length bytes + 1 = ap (λ (o : StaticObject). o.count) h.made in
      let same : length bytes ≡ 1 * length bytes = omega arith in (
        length bytes,
        same ∙ ap (λ n. n * length bytes) (sym one),
        record {
          object = object_elaborated s.text.layout (Some true) h.object;
          there = subst (λ (q : Typed). Contains (objects_elaborated q) (object_elaborated s.text.layout (Some true) h.object)) text
              (contains_at (objects_elaborated s.text) k (object_elaborated s.text.layout (Some true) h.object) h.free);
          at = sym (ap address_in h.there);
          element = ap (λ (o : StaticObject). o.element) h.made;
          room = omega (arith, many);
        },
      )

-- ---- members

integer_missing : (s : Setting) (t : CType) → kind_of t ≡ None → (m : Option Member) (own : Own) → is_missing (range_of_member s.frame.structs t m own) ≡ true
integer_missing s t none None own = refl
integer_missing s t none (Some m) own =
    ap (λ k. is_missing (if is_checked k then range_in_struct (kind_of t) (member_bounds s.frame.structs m) own else range.Missing)) none

-- a pointer that is a member, as it is judged and as the program counts its elements
record IsHeld (s : Setting) (u t : CType) (n : Name) : Type 0 where
  pub tag : ℕ
  pub struct : out-CType u ≡ CType-F.Struct tag
  pub number : ℕ
  pub named : n ≡ name.Member number
  pub member : MemberShape
  pub found : member_named s.text.layout tag n ≡ Some member
  pub type : member.ctype ≡ t
  pub judged : member_bounds s.frame.structs (record { tag = tag; number = number }) ≡ member.bounds
  pub single : kind_of t ≡ Some kind.One → member.bounds ≡ mbounds.Nothing
  pub pointer : is_pointer t ≡ true
  pub counts : NamesInteger s tag member.bounds

struct_out : (tag : ℕ) → out-CType (ctype.Struct tag) ≡ CType-F.Struct tag
struct_out tag = search (rules, the_lemmas)

module _ (s : Setting) (u t : CType) (n : Name) where
  -- a member is a part of its structure
  part_of_struct : (v : CType) (tag k : ℕ) → out-CType v ≡ CType-F.Struct tag → (w : CType) → member_type s.text.layout tag (name.Member k) ≡ Some w → IsPart s.text.layout v (offset_of s.text.layout tag k) (width_of w)
  part_of_struct v tag k is w e =
      let part = subst (λ f. IsPartIn s.text.layout (ctype.Struct tag) f (offset_of s.text.layout tag k) (width_of w)) (struct_out tag) (member_part s.text.layout tag k w e) in
      subst (λ f. IsPartIn s.text.layout v f (offset_of s.text.layout tag k) (width_of w)) (sym is) part

  part_is : (k : ℕ) → n ≡ name.Member k → dot_type s.text.layout u n ≡ Some t → IsPart s.text.layout u (offset_of s.text.layout (tag_of u) (member_number n)) (width_of t)
  part_is k named e = by (out-CType u) refl (sym (ap (λ m. dot_type s.text.layout u m) named) ∙ e)
    where
      by : (f : CType-F CType) → out-CType u ≡ f → member_typed s.text.layout (name.Member k) f ≡ Some t → IsPart s.text.layout u (offset_of s.text.layout (tag_in (out-CType u)) (member_number n)) (width_of t)
      by (CType-F.Struct tag) is g =
          subst (λ f. IsPart s.text.layout u (offset_of s.text.layout (tag_in f) (member_number n)) (width_of t)) (sym is)
          (subst (λ m. IsPart s.text.layout u (offset_of s.text.layout tag (member_number m)) (width_of t)) (sym named) (part_of_struct u tag k is t g))
      by CType-F.Int is g = absurd cc
      by CType-F.Unsigned is g = absurd cc
      by CType-F.Char is g = absurd cc
      by CType-F.Void is g = absurd cc
      by (CType-F.Pointer j v) is g = absurd cc

  integer_known : (k : ℕ) → n ≡ name.Member k → dot_type s.text.layout u n ≡ Some t → count_of_member s.text.layout (tag_of u) n ≡ None → is_integer t ≡ true → 0 < size_of s.text.layout u → KnowsMember s u t n
  integer_known k named there bare i sized =
      let none = integer_kind t i in
      record {
        scalar = integer_scalar t i;
        sized = sized;
        part = part_is k named there;
        counted = λ c e. none_some (sym bare ∙ e);
        single = λ one. some_none (sym one ∙ none);
        ranged = λ c own. integer_missing s t none (member_in n (out-CType u)) own;
      }

  module _ (m : IsHeld s u t n) where
    count_is : count_of_member s.text.layout (tag_of u) n ≡ count_by s.text.layout m.tag t m.member.bounds
    count_is =
        ap (λ x. count_of_member s.text.layout (tag_in x) n) m.struct ∙ ap (count_in s.text.layout m.tag) m.found
        ∙ ap (λ z. count_by s.text.layout m.tag z m.member.bounds) m.type

    member_is : member_in n (out-CType u) ≡ Some (record { tag = m.tag; number = m.number })
    member_is = ap (λ x. member_in x (out-CType u)) m.named ∙ ap (member_in (name.Member m.number)) m.struct

    fixed_part : (c : Count) → IsFixed c → IsCountPart s.text.layout u c
    fixed_part (count.Fixed n) h = tt
    fixed_part (count.Member offset form add) h = absurd h

    held : (b : MemberBounds) → count_by s.text.layout m.tag t b ≡ None → (own : Own) → is_missing (range_in_struct (kind_of t) b own) ≡ true
    held mbounds.Nothing h own = count_missing (kind_of t) own.value h
    held mbounds.Unknown h own = refl
    held mbounds.NoForm h own = refl
    held (mbounds.Fixed c) h own = some_none h
    held (mbounds.Named k c) h own = some_none h

    counted_by : (b : MemberBounds) → NamesInteger s m.tag b → (c : Count) → count_by s.text.layout m.tag t b ≡ Some c → IsCountPart s.text.layout u c
    counted_by mbounds.Nothing h c e = fixed_part c (kind_fixed t c e).1
    counted_by mbounds.Unknown h c e = none_some e
    counted_by mbounds.NoForm h c e = none_some e
    counted_by (mbounds.Fixed a) h c e = subst (IsCountPart s.text.layout u) (some_same e) tt
    counted_by (mbounds.Named k a) h c e =
        let form = ap (λ (o : Option MemberShape). words.width_of (integer_in_member o)) h.1 ∙ integer_width h.0.ctype in
        subst (IsCountPart s.text.layout u) (some_same e)
        (subst (λ w. IsPart s.text.layout u (offset_of s.text.layout m.tag k) w) (sym form)
        (part_of_struct u m.tag k m.struct h.0.ctype (ap (λ (o : Option MemberShape). option_map (λ (x : MemberShape). x.ctype) o) h.1)))

    pointer_known : dot_type s.text.layout u n ≡ Some t → 0 < size_of s.text.layout u → KnowsMember s u t n
    pointer_known there sized = record {
      scalar = pointer_scalar t m.pointer;
      sized = sized;
      part = part_is m.number m.named there;
      counted = λ c e. (m.pointer, counted_by m.member.bounds m.counts c (sym count_is ∙ e));
      single = λ one. count_is ∙ ap (count_by s.text.layout m.tag t) (m.single one) ∙ one_counts t one;
      ranged = λ none own.
          ap (λ o. is_missing (range_of_member s.frame.structs t o own)) member_is
          ∙ ap (λ b. is_missing (if is_checked (kind_of t) then range_in_struct (kind_of t) b own else range.Missing)) m.judged
          ∙ behind (is_checked (kind_of t)) (range_in_struct (kind_of t) m.member.bounds own) (held m.member.bounds (sym count_is ∙ none) own);
    }

-- ---- a function of a judged text

module _ (p : Typed) (j : IsJudged p) (given : given_tree j.named.tree ≡ true) (small : Small j.named.tree) (place : ℕ) (sound : AreSound p (map block_of (elaborated p).objects) place) (s : Setting) (f : Function) (is : IsFunction p s f) where
  text_is : s.text ≡ p
  unfolding setting_of
  text_is = ap (λ (x : Setting). x.text) is.judged

  abbrev empty : Store
  empty = record { shapes = []; blocks = []; locals = [] }

  none_there : {X A : Type 0} (k : ℕ) (x : A) → slice_get [] k ≡ Some x → X
  none_there k x e = absurd cc

  abbrev here : Setting
  here = setting_of p is.head is.body

  is_here : IsFunction p here f
  is_here = record {
    head = is.head;
    body = is.body;
    literals = is.literals;
    there = is.there;
    judged = refl;
    runs = is.runs;
    strings = subst (λ z. AreStrings z is.literals (strings_of_item (item.Function is.head is.body))) is.judged is.strings;
  }

  told_here : IsTold (globals_in p) here empty []
  unfolding setting_of
  told_here =
      texts_are_told p here f empty [] j is_here (members_count_integers p j) (ones_declared p here f j is_here) (runs_free p j) (λ number i b slot at less there. none_there number b at)
      (λ k c. absurd (omega (arith, c.1)))

  told : IsTold (globals_in p) s empty []
  told = subst (λ z. IsTold (globals_in p) z empty []) (sym is.judged) told_here

  abbrev HasRange : ℕ → Range → Type 0
  HasRange k r = (more : ℕ) × (r ≡ range_past k more)

  one_range : (k : ℕ) (widened : List ℕ) (l : Local) → local_at s.frame k ≡ Some l → kind_of l.ctype ≡ Some kind.One → HasRange k (range_of_local s.frame k widened)
  one_range k widened l at one =
      let wide = list_any (λ q. q == k) widened in
      subst (HasRange k) (sym (ap (λ o. range_by o wide) at ∙ ap (λ b. range_by (Some (record l { bounds = b })) wide) (told.ones k l at one))) (by wide)
    where
      by : (wide : Bool) → HasRange k (range_by (Some (record l { bounds = bounds_of_kind (base.Local k) (Some kind.One) })) wide)
      by true = (1, refl)
      by false = (0, refl)

  variables : s.variables ≡ variables_of is.body.note.mode is.head is.body
  variables = ap (λ (r : Setting). r.variables) is.judged ∙ variables_are p is.head is.body

  as_many : length (types_numbered (all_of is.head is.body)) ≡ length (variables_of is.body.note.mode is.head is.body)
  as_many =
      let h = is.head in
      let body = is.body in
      types_length (all_of h body) ∙ sym (length-map (all_of h body) (λ (d : NotedDecl). variable_declared d))
      ∙ sym (length_permutation (map (λ (d : NotedDecl). variable_declared d) (all_of h body)) (variables_of body.note.mode h body) (variables_moved h body))

  local_below : (k : ℕ) (t : CType) → type_of_name (globals_in p) s.variables (name.Local k) ≡ Some t → k < length s.variables
  local_below k t e =
      let there = named_type (globals_in p) is.head is.body k t (numbered p is.head is.body j is.there) (statics_named p j) (subst (λ vs. type_of_name (globals_in p) vs (name.Local k) ≡ Some t) variables e) in
      subst (λ vs. k < length vs) (sym variables) (subst (λ n. k < n) as_many (slice_get_within (types_numbered (all_of is.head is.body)) k t there))

  one_there : (k : ℕ) (t : CType) → type_of_name (globals_in p) s.variables (name.Local k) ≡ Some t → kind_of t ≡ Some kind.One → (widened : List ℕ) → HasRange k (range_of_local s.frame k widened)
  one_there k t e one widened =
      let l = locals_are_there p s f k is (local_below k t e) (few_locals p s f j small is) in
      one_range k widened l.0 l.1 (ap kind_of ((frames_agree p s f j is).locals k l.0 t l.1 e) ∙ one)

  -- ---- names by what they mean

  abbrev there_named : Name → Bool
  there_named n = is_there_form {A = Note} {L = NotedLimits} {M = NotedNode} {E = NotedExpr} (Node-F.Name n)

  names_there : (n : Name) (t : CType) → type_of_name (globals_in p) s.variables n ≡ Some t → is_struct t ≡ true → there_named n ≡ true
  names_there n t e struct =
      ⊎_elim (λ i. ap there_named i.1)
      (λ v. unlike (sym struct ∙ ap is_struct (sym v.2) ∙ scalar_plain v.0.ctype (scalar_parts v.0.ctype ((names_objects p s f j is).locals n v.0 v.1)).0))
      (typed_name p s f j is n t e)

  results_there : (n : Name) (sig : Signature) → signature_named (globals_in p) n ≡ Some sig → is_struct sig.result ≡ false
  results_there n sig e =
      let named : map bare_item j.typed.tree.items ≡ j.named.tree.items = ap (λ (t : Tree). t.items) j.has_types.tree in
      let before : All HasResult j.named.tree.items =
      subst (λ (is : List Item). All HasResult is) named (items_results (globals_of (without_notes j.typed.tree).items) Unchecked j.typed.tree.items j.has_types.typed.items) in
      let results : All HasResult (without_notes p.tree).items = subst (λ (t : Tree). All HasResult t.items) (sym (tree_named p j)) before in
      (found IsPlain (λ (x : Signature). same_name x.name n) (signatures_of (without_notes p.tree).items) sig (signatures_results (without_notes p.tree).items results) e).0

  objects_there : (n : Name) → is_no_array (object_named (globals_in p) n) ≡ true → (k : ℕ) × (n ≡ name.Static k)
  objects_there n h = by (object_named (globals_in p) n) refl h
    where
      by : (o : Option Object) → object_named (globals_in p) n ≡ o → is_no_array o ≡ true → (k : ℕ) × (n ≡ name.Static k)
      by None e g = different g
      by (Some o) e g = object_static p s f j is n o e

  targets_there : (n : Name) → (is_some (variable_named s.variables n) || is_no_array (object_named (globals_in p) n)) ≡ true → ((k : ℕ) × (n ≡ name.Local k)) ⊎ ((k : ℕ) × (n ≡ name.Static k))
  targets_there n h = by (variable_named s.variables n) refl h
    where
      by : (o : Option Variable) → variable_named s.variables n ≡ o → (is_some o || is_no_array (object_named (globals_in p) n)) ≡ true → ((k : ℕ) × (n ≡ name.Local k)) ⊎ ((k : ℕ) × (n ≡ name.Static k))
      by (Some v) e g = inl (variable_local p s f j is n v e)
      by None e g = inr (objects_there n g)

  singles_there : (k : ℕ) (t : CType) → type_of_name (globals_in p) s.variables (name.Static k) ≡ Some t
      → (is_some (variable_named s.variables (name.Static k)) || is_no_array (object_named (globals_in p) (name.Static k))) ≡ true → array_of s.text k ≡ None
  singles_there k t e h =
      let w = statics_told p s f t k j is e in
      let none : variable_named s.variables (name.Static k) ≡ None = none_named p j s f k is in
      ap array_in w.there
      ∙ single p j s text_is t k w (subst (λ (o : Option Variable). (is_some o || is_no_array (object_named (globals_in p) (name.Static k))) ≡ true) none h)

  sized : (u t : CType) (n : Name) → dot_type (globals_in p).structs u n ≡ Some t → 0 < size_of s.text.layout u
  sized u t n e = subst (λ (q : Typed). 0 < size_of q.layout u) (sym text_is) (dot_sized p j given small u t n (subst (λ (q : Typed). dot_type q.layout u n ≡ Some t) text_is (subst (λ (x : Structs). dot_type x u n ≡ Some t) told.structs e)))

  pub names_known : Knows (globals_in p) s (elaborated p)
  names_known = record {
    statics = λ k t e. static_known p s text_is place sound t k (statics_told p s f t k j is e);
    singles = singles_there;
    members = λ u t n e.
        ⊎_elim (λ m. integer_known s u t n m.number m.named m.there m.bare m.integer (sized u t n e))
        (λ m. pointer_known s u t n (record {
          tag = m.tag;
          struct = m.struct;
          number = m.number;
          named = m.named;
          member = m.member;
          found = m.found;
          type = m.type;
          judged = m.judged;
          single = m.single;
          pointer = m.pointer;
          counts = m.counts;
        }) (subst (λ (x : Structs). dot_type x u n ≡ Some t) told.structs e) (sized u t n e)) (told.members u t n (subst (λ (x : Structs). dot_type x u n ≡ Some t) told.structs e));
    structures = λ u t n e x mode row. structure_there (globals_in p) s.variables names_there results_there mode x u row (dot_struct (globals_in p).structs u t n e);
    objects = objects_there;
    targets = targets_there;
    ones = one_there;
    strings = string_known p s text_is place sound;
  }

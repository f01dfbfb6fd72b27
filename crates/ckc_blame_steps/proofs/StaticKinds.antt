-- What static objects are by the types of their names.
use Rattle.std.proofs.Common.{◌≡◌, ◌∙◌, sym, ap, refl, rules, ℕ, Bool, true, false}
use Rattle.std.specs.Prelude.{◌&&◌, Option, Some, None, is_none, is_some}
use Rattle.ckc_types.specs.declared.types.CType.{CType, CType-F, out-CType, the_lemmas}
use Rattle.ckc_types.specs.declared.types.CType.TheVariants as ctype
use Rattle.ckc_types.specs.declared.types.Kind.{Kind}
use Rattle.ckc_types.specs.declared.types.Kind.TheVariants as kind
use Rattle.ckc_syntax.specs.declared.tree.Length.{Length}
use Rattle.ckc_syntax.specs.declared.tree.Length.TheVariants as lengths
use Rattle.ckc_syntax.specs.declared.tree.Name.TheVariants as name
use Rattle.ckc_typed.specs.Conversions.{is_terminated_kind}
use Rattle.ckc_typed.specs.Environment.{kind_of_array, used}
use Rattle.ckc_typed.specs.Statics.{is_terminated}
use Rattle.ckc_typed.specs.Trees.{NotedLimits}
use Rattle.ckc_typed.specs.Types.{is_integer, is_pointer, is_integer_form, is_pointer_form, kind_in, kind_of, element_in, element_of}
use Rattle.ckc_blame_sound.specs.ckc_bounds_declared.specs.Written.{takes_bounds_kind, takes_bounds}
use Rattle.ckc_build_values.specs.Kinds.{count_of_kind}
use Rattle.ckc_build_values.specs.Names.{count_declared, count_of_static}
use Rattle.ckc_build_elaborate.specs.Objects.{object_elaborated}
use Rattle.ckc_source.specs.Eval.{Store}
use Rattle.ckc_blame_sound.specs.Settings.{Setting}
use Rattle.ckc_blame_sound.specs.Slots.{AreFilled}
use Rattle.ckc_blame_given.specs.ckc_blame_pointers.specs.Covered.{IsStaticInteger, IsStaticArray, IsStaticPointer}
use Rattle.ckc_blame_steps.specs.Statics.{IsStatic}

both : (a b : Bool) → (a && b) ≡ true → (a ≡ true) × (b ≡ true)
both true b e = (refl, e)
both false b e = absurd cc

true_false : (b : Bool) → b ≡ true → b ≡ false → ⊥
true_false b t f = absurd cc

-- ---- types

pointer_out : (k : Kind) (t : CType) → out-CType (ctype.Pointer k t) ≡ CType-F.Pointer k t
pointer_out k t = search (rules, the_lemmas)

pointer_is : (k : Kind) (t : CType) → is_pointer (ctype.Pointer k t) ≡ true
pointer_is k t = ap is_pointer_form (pointer_out k t)

no_integer : (k : Kind) (t : CType) → is_integer (ctype.Pointer k t) ≡ false
no_integer k t = ap is_integer_form (pointer_out k t)

-- no integer may have bounds
integer_kind : (x : CType-F CType) → is_integer_form x ≡ true → kind_in x ≡ None
integer_kind CType-F.Int e = refl
integer_kind CType-F.Unsigned e = refl
integer_kind CType-F.Char e = refl
integer_kind CType-F.Void e = absurd cc
integer_kind (CType-F.Struct tag) e = absurd cc
integer_kind (CType-F.Pointer k t) e = absurd cc

-- ---- lengths

pub plain_ends : (n : Length) → kind_of_array n ≡ None → is_terminated n ≡ false
plain_ends lengths.Plain e = refl
plain_ends (lengths.Raw n at) e = absurd cc
plain_ends (lengths.Checked n) e = absurd cc
plain_ends (lengths.Nt n) e = absurd cc

ends_are : (n : Length) → is_terminated n ≡ is_terminated_kind (kind_of_array n)
ends_are lengths.Plain = refl
ends_are (lengths.Raw n at) = refl
ends_are (lengths.Checked n) = refl
ends_are (lengths.Nt n) = refl

array_ends : (n : Length) (k : Kind) → kind_of_array n ≡ Some k → is_terminated n ≡ is_terminated_kind (Some k)
array_ends n k e = ends_are n ∙ ap is_terminated_kind e

-- no array is a `_Ptr`
no_one : (n : Length) (a : Kind) → kind_of_array n ≡ Some a → a ≡ kind.One → ⊥
no_one lengths.Plain a e h = absurd cc
no_one (lengths.Raw n at) a e h = let same : ◌≡◌ {A = Option Kind} (Some kind.Raw) (Some kind.One) = e ∙ ap Some h in absurd cc
no_one (lengths.Checked n) a e h = let same : ◌≡◌ {A = Option Kind} (Some kind.Arr) (Some kind.One) = e ∙ ap Some h in absurd cc
no_one (lengths.Nt n) a e h = let same : ◌≡◌ {A = Option Kind} (Some kind.Nt) (Some kind.One) = e ∙ ap Some h in absurd cc

module _ (s : Setting) (t : CType) (k : ℕ) (w : IsStatic s t k) where
  -- what has an element type has no written bounds if that may not have some
  bare : takes_bounds w.object.element w.decl.length ≡ false → w.decl.bounds ≡ None
  bare e = by w.decl.bounds refl
    where
      by : (o : Option NotedLimits) → w.decl.bounds ≡ o → w.decl.bounds ≡ None
      by None f = f
      by (Some l) f = absurd (true_false _ (w.takes (ap (λ (o : Option NotedLimits). is_some o) f)) e)

  count_is : w.decl.bounds ≡ None → count_of_static s.text w.object.element (name.Static k) ≡ count_of_kind (kind_of w.object.element)
  count_is e = ap (count_declared s.text.layout w.object.element) (w.limits ∙ e)

  single : w.object.array ≡ None → w.object.element ≡ t
  single e = sym (w.type ∙ ap (used w.object.element) e)

  pub integer : is_integer t ≡ true → IsStaticInteger s t k
  integer i = by w.object.array refl
    where
      by : (o : Option Kind) → w.object.array ≡ o → IsStaticInteger s t k
      by (Some a) e = absurd (true_false _ (ap is_integer (sym (w.type ∙ ap (used w.object.element) e)) ∙ i) (no_integer a w.object.element))
      by None e =
          let element = single e in
          let kinds : kind_of w.object.element ≡ None = integer_kind (out-CType w.object.element) (ap is_integer element ∙ i) in
          let none = bare (ap (λ x. takes_bounds_kind x && is_none (kind_of_array w.decl.length)) kinds) in
          record {
            object = w.object;
            there = w.there;
            single = e;
            plain = w.ends ∙ plain_ends w.decl.length (sym w.array ∙ e);
            some = w.some;
            element = element;
            integer = i;
            bare = ap (λ u. count_of_static s.text u (name.Static k)) (sym element) ∙ count_is none ∙ ap count_of_kind kinds;
          }

  pub array : (a : Kind) → w.object.array ≡ Some a → IsStaticArray s t k
  array a e =
      let type : t ≡ ctype.Pointer a w.object.element = w.type ∙ ap (used w.object.element) e in
      let none : w.decl.bounds ≡ None = bare (no_bounds (takes_bounds_kind (kind_of w.object.element)) (sym w.array ∙ e)) in
      record {
        object = w.object;
        there = w.there;
        judged = w.judged;
        kind = a;
        array = e;
        several = no_one w.decl.length a (sym w.array ∙ e);
        ends = w.ends ∙ array_ends w.decl.length a (sym w.array ∙ e);
        free = w.placed ∙ ap (λ (o : Option NotedLimits). Some (object_elaborated s.text.layout (Some (is_none o)) w.object)) none;
        pointer = ap is_pointer type ∙ pointer_is a w.object.element;
        kind_is = ap kind_of type ∙ ap kind_in (pointer_out a w.object.element);
        element = ap element_of type ∙ ap element_in (pointer_out a w.object.element);
      }
    where
      no_bounds : (b : Bool) → kind_of_array w.decl.length ≡ Some a → (b && is_none (kind_of_array w.decl.length)) ≡ false
      no_bounds true f = ap (λ (o : Option Kind). is_none o) f
      no_bounds false f = refl

  pub pointer : (store : Store) → w.object.array ≡ None → is_pointer t ≡ true → w.decl.bounds ≡ None → AreFilled s.text store → IsStaticPointer s store t k
  pointer store e q none filled =
      let element = single e in
      record {
        object = w.object;
        there = w.there;
        judged = w.judged;
        is_run = Some (is_none w.decl.bounds);
        placed = w.placed;
        single = e;
        plain = w.ends ∙ plain_ends w.decl.length (sym w.array ∙ e);
        some = w.some;
        element = element;
        pointer = q;
        bare = w.noted ∙ ap (λ (o : Option NotedLimits). is_some o) none;
        counted = ap (λ u. count_of_static s.text u (name.Static k)) (sym element) ∙ count_is none ∙ ap (λ u. count_of_kind (kind_of u)) element;
        filled = filled;
      }

pub statics_integers : (s : Setting) (t : CType) (k : ℕ) → IsStatic s t k → is_integer t ≡ true → IsStaticInteger s t k
statics_integers s t k w = integer s t k w

pub statics_arrays : (s : Setting) (t : CType) (k : ℕ) (a : Kind) (w : IsStatic s t k) → w.object.array ≡ Some a → IsStaticArray s t k
statics_arrays s t k a w = array s t k w a

pub statics_pointers : (s : Setting) (store : Store) (t : CType) (k : ℕ) (w : IsStatic s t k) → w.object.array ≡ None → is_pointer t ≡ true → w.decl.bounds ≡ None → AreFilled s.text store → IsStaticPointer s store t k
statics_pointers s store t k w = pointer s t k w store

-- No slot of a static object is an integer, since bounds stand on pointers alone.
use Rattle.std.proofs.Common.{◌≡◌, ◌∙◌, sym, ap, subst, refl, ℕ, [], arith}
use Rattle.std.specs.Prelude.{Bool, true, false, ◌&&◌, Option, Some, None, IfSome, find, slice_get, is_some, is_none}
use Rattle.std.specs.List.{Contains}
use Rattle.std.specs.Option.{option_map}
use Rattle.ckc_types.specs.declared.types.CType.{CType, CType-F, out-CType}
use Rattle.ckc_syntax.specs.declared.tree.Length.{Length}
use Rattle.ckc_syntax.specs.declared.tree.Name.TheVariants as name
use Rattle.ckc_syntax.specs.declared.tree.Item.TheVariants as item
use Rattle.ckc_typed.specs.declared.typed.StaticObject.{StaticObject}
use Rattle.ckc_typed.specs.declared.typed.Typed.{Typed}
use Rattle.ckc_typed.specs.Environment.{kind_of_array}
use Rattle.ckc_typed.specs.Trees.{NotedDecl, NotedItem, NotedLimits}
use Rattle.ckc_typed.specs.Types.{type_written, kind_in, kind_of, is_integer_form, is_integer}
use Rattle.ckc_blame_sound.specs.ckc_bounds_declared.specs.Written.{takes_bounds_kind, takes_bounds}
use Rattle.ckc_build_values.specs.Kinds.{count_of_kind}
use Rattle.ckc_build_values.specs.Names.{declares, limits_in, count_declared, count_of_static}
use Rattle.ckc_blame_sound.specs.Slots.{Slot, slot_by, slots_in, slots_of}
use Rattle.ckc_blame_sound.specs.Limited.{AreSlotParts, IsElementAt}
use Rattle.ckc_blame_sound.specs.JudgedTexts.{IsJudged}
use Rattle.ckc_blame_sound.proofs.Bounds.{IsBoundable, AreBoundable, text_boundable}
use Rattle.ckc_blame_sound.proofs.Lists.{found}
use Rattle.ckc_blame_sound.proofs.Slots.{static_declared}
use Rattle.ckc_blame_walk.specs.Ready.{HavePointerSlots}

-- ---- types

integer_no_kind : (f : CType-F CType) → is_integer_form f ≡ true → kind_in f ≡ None
integer_no_kind CType-F.Int e = refl
integer_no_kind CType-F.Unsigned e = refl
integer_no_kind CType-F.Char e = refl
integer_no_kind CType-F.Void e = absurd cc
integer_no_kind (CType-F.Struct tag) e = absurd cc
integer_no_kind (CType-F.Pointer k t) e = absurd cc

-- what may have bounds is no integer
no_bounds : (t : CType) (length : Length) → takes_bounds t length ≡ true → is_integer t ≡ true → ⊥
no_bounds t length e i = by (is_none (kind_of_array length)) (subst (λ k. (takes_bounds_kind k && is_none (kind_of_array length)) ≡ true) (integer_no_kind (out-CType t) i) e)
  where
    by : (b : Bool) → (takes_bounds_kind None && b) ≡ true → ⊥
    by b f = absurd cc

-- ---- static objects

static_uncounted : (p : Typed) (j : IsJudged p) (n : ℕ) (t : CType) → IsElementAt p n t → is_integer t ≡ true → count_of_static p t (name.Static n) ≡ None
static_uncounted p j n t there integer = by (find (declares (name.Static n)) p.tree.items) refl
  where
    bare : count_of_kind (kind_of t) ≡ None
    bare = ap count_of_kind (integer_no_kind (out-CType t) integer)

    at : (o : Option StaticObject) (u : CType) → IfSome o (λ x. x.element ≡ t) → option_map (λ (x : StaticObject). x.element) o ≡ Some u → u ≡ t
    at None u h f = absurd cc
    at (Some o) u h f = cc

    one : (d : NotedDecl) → find (declares (name.Static n)) p.tree.items ≡ Some (item.Static d) → (l : Option NotedLimits) → d.bounds ≡ l → count_declared p.layout t l ≡ None
    one d is None g = bare
    one d is (Some l) g =
        let boundable : IsBoundable d = (found AreBoundable (declares (name.Static n)) p.tree.items (item.Static d) (text_boundable p j) is).0 in
        let same : type_written d.ctype ≡ t = at (slice_get p.statics n) (type_written d.ctype) there (static_declared p j n d is) in
        absurd (no_bounds (type_written d.ctype) d.length (boundable (ap is_some g)) (ap is_integer same ∙ integer))

    by : (i : Option NotedItem) → find (declares (name.Static n)) p.tree.items ≡ i → count_declared p.layout t (limits_in i) ≡ None
    by None is = bare
    by (Some (item.Static d)) is = one d is d.bounds refl
    by (Some (item.Directive d)) is = bare
    by (Some (item.Tag m pos)) is = bare
    by (Some (item.Struct m ms pos)) is = bare
    by (Some (item.Proto g)) is = bare
    by (Some (item.Function g body)) is = bare

no_slot : (p : Typed) (j : IsJudged p) (n : ℕ) (t : CType) (slot : Slot) → IsElementAt p n t → is_integer t ≡ true → Contains (slots_of p n t) slot → ⊥
no_slot p j n t slot there integer has_slot = by (out-CType t) integer has_slot
  where
    none : Contains (slot_by p.layout 0 t (count_of_static p t (name.Static n))) slot → ⊥
    none c =
        let in_none : Contains {X = Slot} [] slot = subst (λ o. Contains (slot_by p.layout 0 t o) slot) (static_uncounted p j n t there integer) c in
        absurd (omega (arith, in_none.1))

    by : (f : CType-F CType) → is_integer_form f ≡ true → Contains (slots_in p n t f) slot → ⊥
    by CType-F.Int e c = none c
    by CType-F.Unsigned e c = none c
    by CType-F.Char e c = none c
    by CType-F.Void e c = absurd cc
    by (CType-F.Struct tag) e c = absurd cc
    by (CType-F.Pointer k u) e c = absurd cc

pub pointer_slots : (p : Typed) → IsJudged p → AreSlotParts p → HavePointerSlots p
pointer_slots p j parts k o slot e has_slot =
    let there : IsElementAt p k o.element = subst (λ x. IfSome x (λ (y : StaticObject). y.element ≡ o.element)) (sym e) refl in
    record { part = parts k o.element slot there has_slot; other = by (is_integer o.element) refl there }
  where
    by : (b : Bool) → is_integer o.element ≡ b → IsElementAt p k o.element → b ≡ false
    by true i there = absurd (no_slot p j k o.element slot there i has_slot)
    by false i there = refl

-- The claims of a cast to an unchecked pointer. One to the same type is kept, and of another one nothing is known.
use Rattle.std.proofs.Common.{◌≡◌, refl, sym, ap, subst, ◌∙◌, ℕ, Bool, true, false, List, arith}
use Rattle.std.specs.Prelude.{◌+◌, ◌<◌, ◌≤◌, ◌^◌, ◌&&◌, not, length, if◌then◌else◌, Option, None, Some}
use Rattle.std.specs.Option.{option_or}
use Rattle.std.proofs.lemmas.Bool.{and_parts}
use Rattle.ckc_types.specs.declared.types.Kind.{Kind}
use Rattle.ckc_types.specs.declared.types.Kind.TheVariants as kind
use Rattle.ckc_types.specs.declared.types.CType.{CType, CType-F, out-CType}
use Rattle.ckc_types.specs.Same.{same_type}
use Rattle.ckc_linear.specs.declared.forms.Base.TheVariants as base
use Rattle.ckc_linear.specs.declared.forms.Form.{Form}
use Rattle.ckc_syntax.specs.declared.tree.Node.{Node-F}
use Rattle.ckc_typed.specs.declared.typed.Range.TheVariants as range
use Rattle.ckc_typed.specs.Conversions.{is_terminated_kind}
use Rattle.ckc_typed.specs.Operands.{is_raw_kind, same_element}
use Rattle.ckc_typed.specs.Trees.{NotedExpr, TypeTree}
use Rattle.ckc_typed.specs.Types.{is_pointer, is_pointer_form, kind_of, kind_in, element_of}
use Rattle.ckc_blame_sound.specs.ckc_bounds_points.specs.Flow.{State}
use Rattle.ckc_blame_sound.specs.ckc_bounds_points.specs.Forms.{base_form}
use Rattle.ckc_blame_sound.specs.ckc_bounds_points.specs.Shown.{Known}
use Rattle.ckc_blame_sound.specs.ckc_bounds_views.specs.Parts.{NodeView, capped}
use Rattle.ckc_blame_sound.specs.ckc_bounds_views.specs.Places.{with_own, pointer_place}
use Rattle.ckc_blame_sound.specs.ckc_bounds_views.specs.Ranges.{pointer_range}
use Rattle.ckc_blame_sound.specs.ckc_bounds_views.specs.Views.{node_view, view}
use Rattle.ckc_blame_sound.specs.ckc_bounds_statements.specs.Paths.{Here}
use Rattle.ckc_source.specs.declared.outcome.Range.TheVariants.{Without}
use Rattle.ckc_source.specs.declared.outcome.Value.{Value}
use Rattle.ckc_source.specs.Code.{Expr, Narrow, Bare}
use Rattle.ckc_source.specs.Eval.{Store, plain, evaluated}
use Rattle.ckc_build_values.specs.Operators.{converted, cast}
use Rattle.ckc_blame_sound.specs.Settings.{Setting}
use Rattle.ckc_blame_sound.specs.Bodies.{AreFresh}
use Rattle.ckc_blame_sound.specs.Points.{HoldsAt}
use Rattle.ckc_blame_sound.proofs.Same.{same_equal}
use Rattle.ckc_blame_sound.proofs.Types.{word_wide}
use Rattle.ckc_blame_pointers.specs.Meant.{IsNotStuck}
use Rattle.ckc_blame_pointers.specs.Valuations.{Valuation, Fits}
use Rattle.ckc_blame_pointers.proofs.Addresses.{IsAddressType, or_own, address_claims}
use Rattle.ckc_blame_pointers.proofs.Binary.{ExprClaims}
use Rattle.ckc_blame_pointers.proofs.Claims.{Placed, weaker, goes_on, nothing_read, placed_as}
use Rattle.ckc_blame_pointers.proofs.Nodes.{node_fresh, NodeClaims}
use Rattle.ckc_blame_pointers.proofs.Own.{missing_claims}
use Rattle.ckc_blame_pointers.proofs.Rows.{pointer_no_char}
use Rattle.ckc_blame_pointers.proofs.Unwidened.{fresh_same}

raw_in : (f : CType-F CType) → is_raw_kind (kind_in f) ≡ true → is_pointer_form f ≡ true
raw_in (CType-F.Pointer k t) e = refl
raw_in CType-F.Int e = absurd (cc)
raw_in CType-F.Unsigned e = absurd (cc)
raw_in CType-F.Char e = absurd (cc)
raw_in CType-F.Void e = absurd (cc)
raw_in (CType-F.Struct tag) e = absurd (cc)

-- An unchecked pointer is no `_Ptr`, and not null-terminated.
pub raw_type : (r t : CType) → is_raw_kind (kind_of r) ≡ true → element_of r ≡ t → IsAddressType r t
raw_type r t raw element = record {
  pointer = raw_in (out-CType r) raw;
  several = λ one. let other : is_raw_kind (kind_of r) ≡ false = ap is_raw_kind one in absurd (cc);
  bare = by (kind_of r) raw;
  element = element;
}
  where
    by : (k : Option Kind) → is_raw_kind k ≡ true → is_terminated_kind k ≡ false
    by (Some kind.Raw) e = refl
    by (Some kind.One) e = absurd (cc)
    by (Some kind.Arr) e = absurd (cc)
    by (Some kind.Nt) e = absurd (cc)
    by None e = absurd (cc)

module _ (s : Setting) (store : Store) (entry : List ℕ) (here : Here) (h : HoldsAt s store entry here) (e : NotedExpr) (r : CType) (w : TypeTree) (v : Expr) (viewed : (view s.frame e).ctype ≡ e.note.ctype)
    (raw : is_raw_kind (kind_of r) ≡ true) where
  abbrev made : NodeView
  made = node_view s.frame (Node-F.Cast w (view s.frame e))

  abbrev Made : Value → Type 0
  Made = NodeClaims s store entry here h r made

  pointer : is_pointer r ≡ true
  pointer = raw_in (out-CType r) raw

  -- ---- a pointer to the same type

  module _ (same : same_element r e.note.ctype ≡ true) where
    view_same : same_element r (view s.frame e).ctype ≡ true
    view_same = ap (same_element r) viewed ∙ same

    element_same : element_of r ≡ element_of e.note.ctype
    element_same =
        let p = and_parts (is_pointer r) (is_pointer e.note.ctype && same_type (element_of r) (element_of e.note.ctype)) same in
        same_equal (element_of r) (element_of e.note.ctype) (and_parts (is_pointer e.note.ctype) (same_type (element_of r) (element_of e.note.ctype)) p.1).1

    own_is : with_own r made ≡ capped (view s.frame e).values 1
    own_is = ap (λ b. if b && true then capped (view s.frame e).values 1 else (view s.frame e).values) pointer

    abbrev own : ℕ → Option Form
    own first = Some (base_form (base.Value (capped first (view s.frame e).values)))

    place_is : (first : ℕ) (facts : Known) → pointer_place r made first facts ≡ option_or ((view s.frame e).place first facts) (own first)
    place_is first facts =
        ap (λ b. if b then option_or (if same_element r (view s.frame e).ctype then (view s.frame e).place first facts else None) (own first) else None) pointer
        ∙ ap (λ b. option_or (if b then (view s.frame e).place first facts else None) (own first)) view_same

    range_is : (first fresh : ℕ) (widened : List ℕ) → pointer_range r made first fresh (record here.at { widened = widened }) ≡ (view s.frame e).range first fresh (record here.at { widened = widened })
    range_is first fresh widened =
        ap (λ b. if b then (if same_element r (view s.frame e).ctype then (view s.frame e).range first fresh at else range.Missing) else range.Missing) pointer
        ∙ ap (λ b. if b then (view s.frame e).range first fresh at else range.Missing) view_same
      where
        at : State
        at = record here.at { widened = widened }

    room : (first n : ℕ) → first + capped n 1 + 1 < 2 ^ 32 → (first + n + 1 < 2 ^ 32) × (first ≤ capped first n) × (first + n ≤ capped first n) × (capped first n < first + capped n 1)
    room first n low = (omega arith, omega arith, omega arith, omega arith)

    kept_claims : (x : Value) → ExprClaims s store entry here e x → Made x
    kept_claims x c =
        address_claims s store entry here h e.note.ctype r (raw_type r (element_of e.note.ctype) raw element_same) (λ no_raw. absurd (cc)) made refl refl (λ b. nothing_read s store entry (λ facts. None) b here.at)
        x (word_wide e.note.ctype x.number c.word)
        (λ first fresh before low little are fits. placed_so first fresh before (room first (view s.frame e).values (subst (λ m. first + m + 1 < 2 ^ 32) own_is low)) little are fits)
      where
        placed_so : (first fresh : ℕ) (before : Valuation)
            → (first + (view s.frame e).values + 1 < 2 ^ 32) × (first ≤ capped first (view s.frame e).values) × (first + (view s.frame e).values ≤ capped first (view s.frame e).values)
            × (capped first (view s.frame e).values < first + capped (view s.frame e).values 1)
            → fresh + length ((view s.frame e).fresh here.at) < 2 ^ 32 → AreFresh s.frame fresh → Fits s.frame store.locals before
            → Placed s store entry here e.note.ctype (first + with_own r made) (pointer_place r made first) (pointer_range r made first fresh) (node_fresh r made here.at) first fresh before x
        placed_so first fresh before there little are fits =
            placed_as s store entry here e.note.ctype (first + capped (view s.frame e).values 1) (first + with_own r made) _ (pointer_place r made first) ((view s.frame e).range first fresh) (pointer_range r made first fresh)
            ((view s.frame e).fresh here.at) (node_fresh r made here.at) first fresh before x (ap (λ m. first + m) own_is) (place_is first) (range_is first fresh) refl
            (or_own s store entry here e.note.ctype (first + (view s.frame e).values) (first + capped (view s.frame e).values 1) ((view s.frame e).place first) ((view s.frame e).range first fresh) ((view s.frame e).fresh here.at)
            first fresh before x (c.placed first fresh before there.0 little are fits) little are fits (capped first (view s.frame e).values) there.1 there.2 there.3)

  -- ---- what is of another type

  other_claims : same_element r e.note.ctype ≡ false → (n : ℕ) → n < 2 ^ 32 → Made (record { number = n; range = Without })
  other_claims other n small =
      missing_claims s store entry here h r pointer (raw_type r (element_of r) raw refl).several made refl refl (λ first facts. ap (λ b. if b then (view s.frame e).place first facts else None) view_other) (fresh_same s.frame e here.at)
      (λ own first fresh widened. ap (λ b. if b then (view s.frame e).range first fresh (record here.at { widened = widened }) else range.Missing) view_other) refl refl refl
      (λ b. nothing_read s store entry (λ facts. None) b here.at) (record { number = n; range = Without }) small
    where
      view_other : same_element r (view s.frame e).ctype ≡ false
      view_other = ap (same_element r) viewed ∙ other

  pub raw_cast_claims : IsNotStuck (ExprClaims s store entry here e) (evaluated store v) → IsNotStuck Made (evaluated store (cast r e.note.ctype v))
  raw_cast_claims inside = by (same_element r e.note.ctype) refl
    where
      become : (b : Bool) → same_element r e.note.ctype ≡ b → cast r e.note.ctype v ≡ (if not b then Bare v else v)
      become b is =
          ap (λ p. if p && not (same_element r e.note.ctype) then Bare v else converted r v) pointer ∙ ap (λ b. if not b then Bare v else converted r v) is
          ∙ ap (λ c. if not b then Bare v else (if c then Narrow v else v)) (pointer_no_char r pointer)

      by : (b : Bool) → same_element r e.note.ctype ≡ b → IsNotStuck Made (evaluated store (cast r e.note.ctype v))
      by true is = subst (λ x. IsNotStuck Made (evaluated store x)) (sym (become true is)) (weaker (evaluated store v) inside (λ x there c. kept_claims is x c))
      by false is =
          subst (λ x. IsNotStuck Made (evaluated store x)) (sym (become false is))
          (goes_on (ExprClaims s store entry here e) Made (evaluated store v) (λ x. plain x.number) inside (λ x there c. other_claims is x.number (word_wide e.note.ctype x.number c.word)))

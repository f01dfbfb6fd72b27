-- The claims of a static pointer by its name.
use Rattle.std.proofs.Common.{◌≡◌, ◌⊎◌, inl, inr, refl, sym, ap, subst, ◌∙◌, ℕ, Bool, true, false, List, [], ◌∷◌, arith}
use Rattle.std.specs.Prelude.{◌+◌, ◌*◌, ◌<◌, ◌≤◌, ◌^◌, slice_get, if◌then◌else◌, ℤ, pos, Option, None, Some, IsOk, is_some, is_none}
use Rattle.std.specs.List.{Contains}
use Rattle.ckc_base.specs.declared.places.Pos.{Pos}
use Rattle.ckc_types.specs.declared.types.Kind.{Kind}
use Rattle.ckc_types.specs.declared.types.Kind.TheVariants as kind
use Rattle.ckc_types.specs.declared.types.CType.{CType, CType-F, out-CType}
use Rattle.ckc_syntax.specs.declared.tree.Name.TheVariants as name
use Rattle.ckc_syntax.specs.declared.tree.Node.{Node-F}
use Rattle.ckc_typed.specs.Types.{is_pointer, is_pointer_form, kind_of}
use Rattle.ckc_typed.specs.declared.typed.Typed.{Typed}
use Rattle.ckc_base.specs.declared.arithmetic.Width.{Width}
use Rattle.ckc_linear.specs.declared.forms.Base.TheVariants as base
use Rattle.ckc_typed.specs.declared.typed.Range.{Range}
use Rattle.ckc_typed.specs.declared.typed.Range.TheVariants as range
use Rattle.ckc_typed.specs.declared.typed.StaticObject.{StaticObject}
use Rattle.ckc_blame_sound.specs.ckc_bounds_points.specs.Forms.{base_form, constant_form}
use Rattle.ckc_source.specs.declared.expr.Integer.{Integer}
use Rattle.ckc_source.specs.declared.outcome.Range.TheVariants.{Without}
use Rattle.ckc_source.specs.Words.{elements_behind}
use Rattle.ckc_blame_sound.specs.ckc_bounds_points.specs.declared.frame.Bounds.{Bounds}
use Rattle.ckc_blame_sound.specs.ckc_bounds_views.specs.declared.variables.Own.{Own}
use Rattle.ckc_blame_sound.specs.ckc_bounds_views.specs.Judged.{is_declared_object}
use Rattle.ckc_blame_sound.specs.ckc_bounds_views.specs.Parts.{NodeView}
use Rattle.ckc_blame_sound.specs.ckc_bounds_views.specs.Places.{is_array}
use Rattle.ckc_blame_sound.specs.ckc_bounds_views.specs.Fresh.{own_fresh}
use Rattle.ckc_blame_sound.specs.ckc_bounds_views.specs.Ranges.{range_of_object, range_by_type, range_of_static}
use Rattle.ckc_blame_sound.specs.ckc_bounds_views.specs.Views.{node_view}
use Rattle.ckc_blame_sound.specs.ckc_bounds_ranges.specs.Rows.{range_from, range_of_array}
use Rattle.ckc_blame_sound.specs.ckc_bounds_statements.specs.Paths.{Here}
use Rattle.ckc_source.specs.declared.expr.Count.{Count}
use Rattle.ckc_source.specs.declared.expr.Count.TheVariants as count
use Rattle.ckc_source.specs.declared.outcome.Value.{Value}
use Rattle.ckc_source.specs.Blocks.{Block, block_of, loaded}
use Rattle.ckc_source.specs.Eval.{Store, given_some, plain, loads, place_in, loads_pointer, evaluated}
use Rattle.ckc_build_elaborate.specs.Objects.{object_elaborated, objects_elaborated}
use Rattle.ckc_build_values.specs.Expressions.{static_in}
use Rattle.ckc_build_values.specs.Kinds.{width_of, pointee_of, size_behind, count_of_kind}
use Rattle.ckc_build_values.specs.Names.{address_in, address_of, array_in, array_of, count_of_static}
use Rattle.ckc_build_values.specs.Places.{object_place, read_at}
use Rattle.ckc_blame_sound.specs.Settings.{Setting}
use Rattle.ckc_blame_sound.specs.Points.{HoldsAt}
use Rattle.ckc_blame_sound.specs.Slots.{AreFilled, Slot, slot_by, slots_in, slots_of}
use Rattle.ckc_blame_sound.proofs.Ranges.{contains_at}
use Rattle.ckc_blame_pointers.specs.Valuations.{Valuation, Fits, RangeBetween, IsInRange}
use Rattle.ckc_blame_pointers.specs.Covered.{IsSoundStore, IsStaticPointer, IsCountedAs, IsStaticBounded}
use Rattle.ckc_blame_pointers.specs.Meant.{IsNotStuck}
use Rattle.ckc_blame_pointers.proofs.Arrays.{object_at}
use Rattle.ckc_blame_pointers.proofs.Claims.{IsOne, weaker, nothing_read}
use Rattle.ckc_blame_pointers.proofs.Later.{zero_typed}
use Rattle.ckc_blame_pointers.proofs.Nodes.{NodeClaims}
use Rattle.ckc_blame_pointers.proofs.Reading.{Ranged}
use Rattle.ckc_blame_pointers.proofs.Own.{fixed_reads, own_claims, own_between, own_range, constant_counts, kind_between, kind_range, kind_one, same_count}
use Rattle.ckc_blame_sound.specs.Cells.{IsCell, IsPart}
use Rattle.ckc_blame_sound.proofs.Apart.{cell_there, cell_address}
use Rattle.ckc_blame_sound.proofs.Objects.{object_cell}
use Rattle.ckc_blame_sound.proofs.Reached.{place_is}
use Rattle.ckc_blame_sound.proofs.Stores.{load_goes}
use Rattle.ckc_blame_sound.proofs.Accesses.{scalar_part}
use Rattle.ckc_blame_sound.proofs.Types.{word_wide}
use Rattle.ckc_blame_pointers.proofs.Loads.{loaded_in, word_loaded}
use Rattle.ckc_blame_pointers.proofs.Scalars.{pointer_scalar}

pub not_member : (k : Option Kind) (at : ℕ) (f : Integer) (z : ℤ) → count_of_kind k ≡ Some (count.Member at f z) → ⊥
not_member (Some kind.Raw) at f z e = absurd (cc)
not_member (Some kind.One) at f z e = absurd (cc)
not_member (Some kind.Arr) at f z e = absurd (cc)
not_member (Some kind.Nt) at f z e = absurd (cc)
not_member None at f z e = absurd (cc)

object_range : (o : Option (Option Bounds)) (t : CType) (n : ℕ) → is_declared_object o ≡ false → range_of_object o t n ≡ range_by_type (kind_of t) n
object_range (Some (Some b)) t n e = absurd (cc)
object_range (Some None) t n e = refl
object_range None t n e = refl

pub slots_are : (p : Typed) (k : ℕ) (t : CType) (f : CType-F CType) → is_pointer_form f ≡ true → slots_in p k t f ≡ slot_by p.layout 0 t (count_of_static p t (name.Static k))
slots_are p k t (CType-F.Pointer q u) e = refl
slots_are p k t CType-F.Int e = absurd (cc)
slots_are p k t CType-F.Unsigned e = absurd (cc)
slots_are p k t CType-F.Char e = absurd (cc)
slots_are p k t CType-F.Void e = absurd (cc)
slots_are p k t (CType-F.Struct tag) e = absurd (cc)

-- a static object that is one pointer of a type
record IsNamedPointer (s : Setting) (store : Store) (t : CType) (k : ℕ) : Type 0 where
  pub object : StaticObject
  pub there : slice_get s.text.statics k ≡ Some object
  pub judged : slice_get s.frame.statics k ≡ Some object
  pub is_run : Option Bool
  pub placed : slice_get (objects_elaborated s.text) k ≡ Some (object_elaborated s.text.layout is_run object)
  pub single : object.array ≡ None
  pub plain : object.terminated ≡ false
  pub some : 0 < object.count
  pub element : object.element ≡ t
  pub pointer : is_pointer t ≡ true
  pub filled : AreFilled s.text store

module _ (s : Setting) (store : Store) (entry : List ℕ) (next : ℕ) (ready : IsSoundStore s store next) (here : Here) (h : HoldsAt s store entry here) (t : CType) (k : ℕ) where
  abbrev node : NodeView
  node = node_view s.frame (Node-F.Name (name.Static k))

  abbrev Made : Value → Type 0
  Made = NodeClaims s store entry here h t node

  abbrev InRange : ℤ → Value → Type 0
  InRange z x = (x.number ≡ 0) ⊎ Ranged store.shapes store.blocks (pointee_of s.text.layout t) x.number (pos x.number) (elements_behind x.number (size_behind s.text.layout t) z) x

  module _ (c : IsNamedPointer s store t k) where
    single : is_array (slice_get s.frame.statics k) ≡ false
    single = ap is_array c.judged ∙ ap is_some c.single

    -- It is judged to stand for itself, within a range.
    own_there : (r : ℕ → Range) → ((own : ℕ) → range_of_object (slice_get s.frame.objects k) t own ≡ r own) → ((own : Own) (first limit : ℕ) → first ≤ own.value → own.value < limit → RangeBetween first limit (r own.value)) → (x : Value)
        → x.number < 2 ^ 32 → ((own : Own) (v : Valuation) → Fits s.frame store.locals v → v.addresses own.value ≡ x.number → IsInRange s store v t (r own.value) x) → IsOne s store entry t x.number → Made x
    own_there r range_is between x small in_range one =
        own_claims s store entry here h t c.pointer node (ap (λ b. is_none (if b then Some (base_form (base.Array k)) else None)) single) refl
        (λ first facts. ap (λ b. if b then Some (base_form (base.Array k)) else None) single) (λ widened. refl) (λ own. r own.value) ranged between x (pos 0)
        refl refl (λ b. nothing_read s store entry (λ facts. None) b here.at) small (zero_typed (own_fresh t node here.at.facts)) (λ own v fits at number. in_range own v fits at) one
      where
        ranged : (own : Own) (first fresh : ℕ) (widened : List ℕ) → node.range t own first fresh (record here.at { widened = widened }) ≡ r own.value
        ranged own first fresh widened =
            ap (λ o. range_of_static s.frame k o t own.value) c.judged ∙ ap (λ b. if b then range_of_array k c.object else range_of_object (slice_get s.frame.objects k) t own.value) (ap is_some c.single)
            ∙ range_is own.value

    at : (b : Block) × (slice_get store.blocks k ≡ Some b) × (b ≡ record (block_of (object_elaborated s.text.layout c.is_run c.object)) { bytes = b.bytes })
    at = object_at (objects_elaborated s.text) store.blocks ready.sound.memory.objects k (object_elaborated s.text.layout c.is_run c.object) c.placed

    filled : (z : ℤ) → count_of_static s.text t (name.Static k) ≡ Some (count.Fixed z)
        → IsOk (loads_pointer store (pointee_of s.text.layout t) (count.Fixed z) (address_of s.text k) (place_in (address_of s.text k) 0))
    filled z e =
        subst (λ a. IsOk (loads_pointer store (pointee_of s.text.layout t) (count.Fixed z) a (place_in a 0))) begin
        (c.filled k 0 at.0 slot at.1 (subst (λ n. 0 < n) (sym count_is) c.some) (subst (λ xs. Contains xs slot) (sym slots_there) (contains_at (slot ∷ []) 0 slot refl)))
      where
        slot : Slot
        slot = record { offset = 0; to = pointee_of s.text.layout t; count = count.Fixed z }

        count_is : at.0.count ≡ c.object.count
        count_is = ap (λ (x : Block). x.count) at.2

        element_is : at.0.element ≡ t
        element_is = ap (λ (x : Block). x.element) at.2 ∙ c.element

        slots_there : slots_of s.text k at.0.element ≡ slot ∷ []
        slots_there = ap (slots_of s.text k) element_is ∙ slots_are s.text k t (out-CType t) c.pointer ∙ ap (slot_by s.text.layout 0 t) e

        first_element : (a size : ℕ) → a + 0 * size ≡ a
        first_element a size = omega arith

        begin : at.0.base + 0 * at.0.size ≡ address_of s.text k
        begin = first_element at.0.base at.0.size ∙ ap (λ (x : Block). x.base) at.2 ∙ sym (ap address_in c.there)

    -- what is read by its name, by the number of its elements
    named_reads : (place : Pos) (q : Option Count) → count_of_static s.text t (name.Static k) ≡ q → ((z : ℤ) → q ≡ Some (count.Fixed z) → (x : Value) → (x.number < 2 ^ 32) × InRange z x → Made x)
        → (q ≡ None → (m : ℕ) → m < 2 ^ 32 → Made (record { number = m; range = Without })) → ((o : ℕ) (f : Integer) (z : ℤ) → q ≡ Some (count.Member o f z) → ⊥)
        → IsNotStuck Made (evaluated store (static_in s.text t place k (array_of s.text k)))
    named_reads place q is fixed missing no_member = subst (λ x. IsNotStuck Made (evaluated store x)) (sym become) (by q is refl)
      where
        become : static_in s.text t place k (array_of s.text k) ≡ read_at s.text.layout t q (object_place s.text t place k)
        become = ap (static_in s.text t place k) (ap array_in c.there ∙ c.single) ∙ ap (λ n. read_at s.text.layout t n (object_place s.text t place k)) is

        width : Width
        width = width_of t

        cell : IsCell s.text.layout store.blocks (address_of s.text k + 0) width false
        cell = object_cell s.text store.blocks ready.sound.memory.objects k c.object c.there c.plain c.some 0 width
            (subst (λ u. IsPart s.text.layout u 0 width) (sym c.element) (scalar_part s.text.layout t (pointer_scalar t c.pointer)))

        there : (m : ℕ) × (loaded width (address_of s.text k + 0) store.blocks ≡ Some m)
        there = load_goes width (address_of s.text k + 0) store.blocks (cell_there s.text store.blocks ready.sound.memory.placed (address_of s.text k + 0) width false cell)

        plainly : q ≡ None → (o : Option ℕ) → loaded width (address_of s.text k + 0) store.blocks ≡ o → IsNotStuck Made (given_some o plain)
        plainly none (Some m) e = missing none m (word_wide t m (word_loaded t m (loaded_in width (address_of s.text k + 0) store.blocks ready.sound.bytes m e)))
        plainly none None e = let got : loaded width (address_of s.text k + 0) store.blocks ≡ Some there.0 = there.1 in absurd (cc)

        by : (p : Option Count) → count_of_static s.text t (name.Static k) ≡ p → q ≡ p → IsNotStuck Made (evaluated store (read_at s.text.layout t p (object_place s.text t place k)))
        by (Some (count.Fixed z)) e same =
            weaker (loads_pointer store (pointee_of s.text.layout t) (count.Fixed z) (address_of s.text k) (place_in (address_of s.text k) 0))
            (fixed_reads store ready.sound.bytes (pointee_of s.text.layout t) z (address_of s.text k) (place_in (address_of s.text k) 0) (filled z e)) (λ x is r. fixed z same x r)
        by (Some (count.Member o f z)) e same = absurd (no_member o f z same)
        by None e same =
            subst (λ x. IsNotStuck Made (loads store width x))
            (sym (place_is (address_of s.text k) 0 width (cell_address s.text store.blocks ready.sound.memory.placed (address_of s.text k + 0) width false cell).1))
            (plainly same (loaded width (address_of s.text k + 0) store.blocks) refl)

  -- declared without bounds
  pub pointer_claims : IsStaticPointer s store t k → (place : Pos) → IsNotStuck Made (evaluated store (static_in s.text t place k (array_of s.text k)))
  pointer_claims c place =
      named_reads n place (count_of_kind (kind_of t)) c.counted
      (λ z e x r. comes x r.0 (λ y f. subst (λ z. InRange z x) (same_count z y (sym e ∙ f)) r.1)) (λ none m small. comes (record { number = m; range = Without }) small (λ z f. absurd (cc))) (λ o f z e. not_member (kind_of t) o f z e)
    where
      n : IsNamedPointer s store t k
      n = record {
        object = c.object;
        there = c.there;
        judged = c.judged;
        is_run = c.is_run;
        placed = c.placed;
        single = c.single;
        plain = c.plain;
        some = c.some;
        element = c.element;
        pointer = c.pointer;
        filled = c.filled;
      }

      comes : (x : Value) → x.number < 2 ^ 32 → ((z : ℤ) → count_of_kind (kind_of t) ≡ Some (count.Fixed z) → InRange z x) → Made x
      comes x small there =
          own_there n (range_by_type (kind_of t)) (λ own. object_range (slice_get s.frame.objects k) t own c.bare) (kind_between s store entry t x there) x small
          (λ own v fits at. kind_range s store entry t x there None (pos 0) own v fits at tt) (kind_one s store entry t x there)

  -- declared with bounds
  pub bounded_claims : IsStaticBounded s store t k → (place : Pos) → IsNotStuck Made (evaluated store (static_in s.text t place k (array_of s.text k)))
  bounded_claims c place = by c.counts
    where
      n : IsNamedPointer s store t k
      n = record {
        object = c.object;
        there = c.there;
        judged = c.judged;
        is_run = c.is_run;
        placed = c.placed;
        single = c.single;
        plain = c.plain;
        some = c.some;
        element = c.element;
        pointer = c.pointer;
        filled = c.filled;
      }

      by : IsCountedAs s t k → IsNotStuck Made (evaluated store (static_in s.text t place k (array_of s.text k)))
      by (inl (z, e, range_is)) =
          named_reads n place (Some (count.Fixed z)) e (λ y f x r. comes x r.0 (subst (λ z. InRange z x) (sym (same_count z y f)) r.1)) (λ f. absurd (cc)) (λ o f y g. absurd (cc))
        where
          comes : (x : Value) → x.number < 2 ^ 32 → InRange z x → Made x
          comes x small r =
              own_there n (λ own. range_from (base.Value own) (constant_form z)) range_is (λ own first limit more less. own_between (λ k. constant_form z) own first limit more less) x small
              (λ own v fits at. own_range s store t x (pos 0) z r None (λ k. constant_form z) (constant_counts s store.locals None (pos 0) z) own v fits at tt) (λ ones one. absurd (c.several one))
      by (inr (e, range_is)) =
          named_reads n place None e (λ y f. absurd (cc))
          (λ f m small. own_there n (λ own. range.Missing) range_is (λ own first limit more less. tt) (record { number = m; range = Without }) small (λ own v fits at. tt) (λ ones one. absurd (c.several one))) (λ o f y g. absurd (cc))

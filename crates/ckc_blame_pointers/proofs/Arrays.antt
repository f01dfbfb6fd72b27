-- The claims of a static array by its name.
use Rattle.std.proofs.Common.{◌≡◌, inl, inr, refl, sym, ap, subst, ◌∙◌, ℕ, zero, suc, Bool, true, false, List, [], ◌∷◌, rules, arith}
use Rattle.std.specs.Prelude.{◌+◌, ◌-◌, ◌*◌, ◌%◌, ◌==◌, ◌<◌, ◌^◌, ◌&&◌, ◌||◌, not, if◌then◌else◌, slice_get, length, pos, ◌+ℤ◌, ◌*ℤ◌, None, Some, is_some}
use Rattle.std.specs.Option.{option_or}
use Rattle.std.specs.List.{list_any}
use Rattle.std.proofs.Math.IntN.{pos-*ℤ-pos}
use Rattle.std.proofs.Math.Nat.{add-mul-mod_self_left}
use Rattle.std.proofs.lemmas.Bool.Decides.{nat_tests}
use Rattle.std.proofs.lemmas.Int.{ints}
use Rattle.ckc_types.specs.declared.types.Kind.{Kind}
use Rattle.ckc_types.specs.declared.types.Kind.TheVariants as kind
use Rattle.ckc_types.specs.declared.types.CType.{CType, CType-F, map-CType, out-CType, roll-CType, ind-CType, fold-roll-CType, the_lemmas}
use Rattle.ckc_types.specs.Same.{same_kind, same_form, same_parts, same_type}
use Rattle.ckc_linear.specs.declared.forms.Base.TheVariants as base
use Rattle.ckc_linear.specs.declared.forms.Form.{Form}
use Rattle.ckc_syntax.specs.declared.tree.Name.TheVariants as name
use Rattle.ckc_syntax.specs.declared.tree.Node.{Node-F}
use Rattle.ckc_base.specs.declared.places.Pos.{Pos}
use Rattle.ckc_typed.specs.declared.typed.Range.TheVariants as range
use Rattle.ckc_typed.specs.Constants.{size_of}
use Rattle.ckc_typed.specs.Conversions.{is_terminated_kind}
use Rattle.ckc_typed.specs.Operands.{is_raw_kind}
use Rattle.ckc_typed.specs.Types.{kind_of}
use Rattle.ckc_blame_sound.specs.ckc_bounds_points.specs.Shown.{Known}
use Rattle.ckc_blame_sound.specs.ckc_bounds_points.specs.Forms.{constant_form, base_form}
use Rattle.ckc_blame_sound.specs.ckc_bounds_ranges.specs.Rows.{readable, range_of_array}
use Rattle.ckc_blame_sound.specs.ckc_bounds_views.specs.Parts.{NodeView}
use Rattle.ckc_blame_sound.specs.ckc_bounds_views.specs.Places.{is_array, own_place, with_own, pointer_place}
use Rattle.ckc_blame_sound.specs.ckc_bounds_views.specs.Ranges.{own_numbers, range_of_object, range_of_static, pointer_range}
use Rattle.ckc_blame_sound.specs.ckc_bounds_views.specs.Views.{node_view}
use Rattle.ckc_blame_sound.specs.ckc_bounds_statements.specs.Paths.{Here}
use Rattle.ckc_source.specs.declared.outcome.Range.{Range as RunRange}
use Rattle.ckc_source.specs.declared.outcome.Range.TheVariants.{Within, Without}
use Rattle.ckc_source.specs.declared.outcome.Value.{Value}
use Rattle.ckc_source.specs.declared.program.Object.{Object}
use Rattle.ckc_source.specs.Blocks.{Block, block_of, end_of}
use Rattle.ckc_source.specs.Eval.{Store, evaluated}
use Rattle.ckc_source.specs.Runs.{is_within, is_in_block, is_in_member, member_runs, is_in, is_true}
use Rattle.ckc_source.specs.Words.{elements_behind}
use Rattle.ckc_build_values.specs.Expressions.{static_in}
use Rattle.ckc_build_values.specs.Kinds.{pointee_of, size_behind}
use Rattle.ckc_build_values.specs.Names.{address_of, address_in, array_in, array_of, bytes_in, bytes_of}
use Rattle.ckc_build_elaborate.specs.Objects.{object_elaborated, objects_elaborated}
use Rattle.ckc_blame_sound.specs.Settings.{Setting}
use Rattle.ckc_blame_sound.specs.Sound.{AreObjects, IsTerminated, IsPlaced}
use Rattle.ckc_blame_sound.specs.Points.{HoldsAt}
use Rattle.ckc_blame_sound.proofs.Apart.{placed_at}
use Rattle.ckc_blame_pointers.specs.Valuations.{Valuation, Fits, address_by}
use Rattle.ckc_blame_pointers.specs.Covered.{IsSoundStore, IsStaticArray}
use Rattle.ckc_blame_pointers.specs.Meant.{IsNotStuck}
use Rattle.ckc_blame_pointers.proofs.Claims.{SideGoes, stays, nothing_read, still_placed, placed_as}
use Rattle.ckc_blame_pointers.proofs.Moving.{at_base}
use Rattle.ckc_blame_pointers.proofs.Nodes.{node_fresh, NodeClaims, narrow}
use Rattle.ckc_blame_sound.proofs.Types.{some_is}
use Rattle.ckc_blame_pointers.proofs.Rows.{pointer_word}
use Rattle.ckc_blame_pointers.proofs.Widening.{any_at, within_tests}

-- ---- a type is the same as itself

abbrev pub IsSame : CType → Type 0
IsSame t = same_type t t ≡ true

abbrev Kept : Type 0
Kept = (t : CType) × IsSame t

abbrev inner : CType-F Kept → CType-F CType
inner = map-CType Kept CType (λ e. e.0)

abbrev test : CType-F CType → CType-F (CType → Bool)
test = map-CType CType (CType → Bool) same_type

same_kinds : (k : Kind) → same_kind k k ≡ true
same_kinds kind.Raw = refl
same_kinds kind.One = refl
same_kinds kind.Arr = refl
same_kinds kind.Nt = refl

step : (y : CType-F Kept) → same_form (test (inner y)) (inner y) ≡ true
step CType-F.Int = refl
step CType-F.Unsigned = refl
step CType-F.Char = refl
step CType-F.Void = refl
step (CType-F.Struct j) = equal j
  where
    equal : (j : ℕ) → (j == j) ≡ true
    equal j = grind (arith, nat_tests)
step (CType-F.Pointer k t) = ap (λ b. b && same_type t.0 t.0) (same_kinds k) ∙ t.1

out_roll : (x : CType-F CType) → out-CType (roll-CType x) ≡ x
out_roll x = search (rules, the_lemmas)

pub type_same : (t : CType) → IsSame t
type_same = ind-CType IsSame (λ x y is.
    ap (λ f. f (roll-CType x)) (fold-roll-CType (CType → Bool) same_parts x) ∙ ap (same_form (test x)) (out_roll x) ∙ ap (λ z. same_form (test z) z) (sym is) ∙ step y)

-- ---- the block of an array

pub object_at : (os : List Object) (bs : List Block) → AreObjects os bs → (k : ℕ) (o : Object) → slice_get os k ≡ Some o
    → (b : Block) × (slice_get bs k ≡ Some b) × (b ≡ record (block_of o) { bytes = b.bytes })
object_at [] bs h k o e = absurd cc
object_at (c ∷ os) [] h k o e = absurd h
object_at (c ∷ os) (b ∷ bs) h zero o e = let same : c ≡ o = cc in (b, refl, subst (λ (x : Object). b ≡ record (block_of x) { bytes = b.bytes }) same h.0)
object_at (c ∷ os) (b ∷ bs) h (suc k) o e = object_at os bs h.1 k o e

module _ (s : Setting) (store : Store) (entry : List ℕ) (next : ℕ) (ready : IsSoundStore s store next) (here : Here) (h : HoldsAt s store entry here) (t : CType) (k : ℕ) (c : IsStaticArray s t k) where
  abbrev node : NodeView
  node = node_view s.frame (Node-F.Name (name.Static k))

  abbrev size : ℕ
  size = size_of s.text.layout c.object.element

  pub size_is : size_behind s.text.layout t ≡ size
  size_is = ap (size_of s.text.layout) c.element

  address_is : address_of s.text k ≡ c.object.at
  address_is = ap address_in c.there

  bytes_are : bytes_of s.text k ≡ size * readable c.object
  bytes_are = ap (bytes_in s.text.layout) c.there ∙ by c.object.terminated
    where
      by : (b : Bool) → size * (c.object.count - (if b then 1 else 0)) ≡ size * (if b then c.object.count - 1 else c.object.count)
      by true = refl
      by false = let none : c.object.count - 0 ≡ c.object.count = omega arith in ap (λ n. size * n) none

  at : (b : Block) × (slice_get store.blocks k ≡ Some b) × (b ≡ record (block_of (object_elaborated s.text.layout (Some true) c.object)) { bytes = b.bytes })
  at = object_at (objects_elaborated s.text) store.blocks ready.sound.memory.objects k (object_elaborated s.text.layout (Some true) c.object) c.free

  abbrev b : Block
  b = at.0

  is : IsPlaced s.text b
  is = placed_at s.text store.blocks ready.sound.memory.placed k b at.1

  base_is : b.base ≡ address_of s.text k
  base_is = ap (λ (x : Block). x.base) at.2 ∙ sym address_is

  size_there : b.size ≡ size
  size_there = ap (λ (x : Block). x.size) at.2

  count_is : b.count ≡ c.object.count
  count_is = ap (λ (x : Block). x.count) at.2

  ends_are : b.terminated ≡ c.object.terminated
  ends_are = ap (λ (x : Block). x.terminated) at.2

  element_is : b.element ≡ c.object.element
  element_is = ap (λ (x : Block). x.element) at.2

  run : b.is_run ≡ true
  run = ap (λ (x : Block). x.is_run) at.2

  whole : end_of b ≡ address_of s.text k + size * c.object.count
  whole = ap (λ n. n + length b.bytes) base_is ∙ ap (λ n. address_of s.text k + n) (is.whole ∙ ap (λ n. n * b.count) size_there ∙ ap (λ n. size * n) count_is)

  spans : (last : ℕ) → last ≡ address_of s.text k + bytes_of s.text k → is_within b.base last (size_behind s.text.layout t) (address_of s.text k) (address_of s.text k) (address_of s.text k + bytes_of s.text k) ≡ true
  spans last e =
      subst (λ x. is_within x last (size_behind s.text.layout t) (address_of s.text k) (address_of s.text k) (address_of s.text k + bytes_of s.text k) ≡ true) (sym base_is)
      (subst (λ x. is_within (address_of s.text k) last x (address_of s.text k) (address_of s.text k) (address_of s.text k + bytes_of s.text k) ≡ true) (sym size_is)
      (within_tests (address_of s.text k) last size (address_of s.text k) (address_of s.text k) (address_of s.text k + bytes_of s.text k) (subst (λ n. 0 < n) size_there is.sized) (omega arith) (omega arith) (omega arith) refl
      (ap (λ n. (address_of s.text k + n) % size) bytes_are ∙ add-mul-mod_self_left (address_of s.text k) size (readable c.object)) refl))

  last_of : (q : Bool) → c.object.terminated ≡ q
      → (if q then is_within b.base (end_of b - b.size) (size_behind s.text.layout t) (address_of s.text k) (address_of s.text k) (address_of s.text k + bytes_of s.text k)
      else not (is_terminated_kind (kind_of t)) && is_within b.base (end_of b) (size_behind s.text.layout t) (address_of s.text k) (address_of s.text k) (address_of s.text k + bytes_of s.text k)) ≡ true
  last_of true e = spans (end_of b - b.size) (short (is.terminated (ends_are ∙ e)))
    where
      short : IsTerminated b → end_of b - b.size ≡ address_of s.text k + bytes_of s.text k
      short ends =
          let some : 0 < c.object.count = subst (λ n. 0 < n) count_is ends.some in
          let up : c.object.count ≡ suc (c.object.count - 1) = omega arith in
          let more : size * c.object.count ≡ size * (c.object.count - 1) + size = ap (λ x. size * x) up ∙ split (c.object.count - 1) in
          let read : bytes_of s.text k ≡ size * (c.object.count - 1) = bytes_are ∙ ap (λ q. size * (if q then c.object.count - 1 else c.object.count)) e in
          omega (arith, whole, size_there)
        where
          split : (x : ℕ) → size * suc x ≡ size * x + size
          split x = grind arith
  last_of false e = ap (λ q. not q && is_within b.base (end_of b) (size_behind s.text.layout t) (address_of s.text k) (address_of s.text k) (address_of s.text k + bytes_of s.text k)) (ap is_terminated_kind c.kind_is ∙ sym c.ends ∙ e)
      ∙ spans (end_of b) (whole ∙ ap (λ n. address_of s.text k + n) (sym (bytes_are ∙ ap (λ q. size * (if q then c.object.count - 1 else c.object.count)) e)))

  block_there : is_in_block (pointee_of s.text.layout t) (address_of s.text k) (address_of s.text k) (address_of s.text k + bytes_of s.text k) b ≡ true
  block_there =
      ap (λ x. x && (if b.terminated then is_within b.base (end_of b - b.size) (size_behind s.text.layout t) (address_of s.text k) (address_of s.text k) (address_of s.text k + bytes_of s.text k)
      else not (is_terminated_kind (kind_of t)) && is_within b.base (end_of b) (size_behind s.text.layout t) (address_of s.text k) (address_of s.text k) (address_of s.text k + bytes_of s.text k)))
      (ap (λ u. same_type u b.element) (c.element ∙ sym element_is) ∙ type_same b.element) ∙ ap (λ q. if q then is_within b.base (end_of b - b.size) (size_behind s.text.layout t) (address_of s.text k) (address_of s.text k) (address_of s.text k + bytes_of s.text k)
      else not (is_terminated_kind (kind_of t)) && is_within b.base (end_of b) (size_behind s.text.layout t) (address_of s.text k) (address_of s.text k) (address_of s.text k + bytes_of s.text k)) ends_are ∙ last_of c.object.terminated refl

  inside : is_in store.shapes (pointee_of s.text.layout t) (address_of s.text k) (address_of s.text k) (address_of s.text k + bytes_of s.text k) b ≡ true
  inside =
      ap (λ r. r && (is_in_block (pointee_of s.text.layout t) (address_of s.text k) (address_of s.text k) (address_of s.text k + bytes_of s.text k) b
      || (not (is_terminated_kind (kind_of t)) && list_any (is_in_member (pointee_of s.text.layout t) (address_of s.text k) (address_of s.text k) (address_of s.text k + bytes_of s.text k) b) (member_runs store.shapes b)))) run
      ∙ ap (λ r. r || (not (is_terminated_kind (kind_of t)) && list_any (is_in_member (pointee_of s.text.layout t) (address_of s.text k) (address_of s.text k) (address_of s.text k + bytes_of s.text k) b) (member_runs store.shapes b))) block_there

  pub array_true : is_true store.shapes store.blocks (pointee_of s.text.layout t) (address_of s.text k) (address_of s.text k) (address_of s.text k + bytes_of s.text k) ≡ true
  array_true = any_at (is_in store.shapes (pointee_of s.text.layout t) (address_of s.text k) (address_of s.text k) (address_of s.text k + bytes_of s.text k)) store.blocks k at.0 at.1 inside

  pub address_small : address_of s.text k < 2 ^ 32
  address_small = omega (arith, is.below, whole)

  pub array_claims : (place : Pos) → IsNotStuck (NodeClaims s store entry here h t node) (evaluated store (static_in s.text t place k (array_of s.text k)))
  array_claims place = subst (λ o. IsNotStuck (NodeClaims s store entry here h t node) (evaluated store (static_in s.text t place k o))) (sym (ap array_in c.there ∙ c.array)) (by c.kind refl)
    where
      ends : RunRange
      ends = Within (address_of s.text k) (address_of s.text k + bytes_of s.text k)

      value_there : RunRange → Value
      value_there r = record { number = address_of s.text k; range = r }

      high : Form
      high = record (constant_form (pos (readable c.object))) { base = Some (base.Array k) }

      array_there : is_array (slice_get s.frame.statics k) ≡ true
      array_there = ap is_array c.judged ∙ ap is_some c.array

      place_is : (first : ℕ) (facts : Known) → pointer_place t node first facts ≡ Some (base_form (base.Array k))
      place_is first facts =
          ap (λ b. if b then option_or (if is_array (slice_get s.frame.statics k) then Some (base_form (base.Array k)) else None) (own_place node first) else None) c.pointer
          ∙ ap (λ b. option_or (if b then Some (base_form (base.Array k)) else None) (own_place node first)) array_there

      range_is : (first fresh : ℕ) (widened : List ℕ) → pointer_range t node first fresh (record here.at { widened = widened }) ≡ range.Known (base_form (base.Array k)) high
      range_is first fresh widened =
          ap (λ b. if b then range_of_static s.frame k (slice_get s.frame.statics k) t (own_numbers node first fresh here.at).value else range.Missing) c.pointer
          ∙ ap (λ o. range_of_static s.frame k o t (own_numbers node first fresh here.at).value) c.judged ∙ ap (λ b. if b then range_of_array k c.object else range_of_object (slice_get s.frame.objects k) t (own_numbers node first fresh here.at).value) (ap is_some c.array)

      high_at : (v : Valuation) → v.numbers 0 ≡ pos 0 → pos (address_of s.text k + bytes_of s.text k) ≡ elements_behind (address_of s.text k) (size_behind s.text.layout t) (v.numbers 0 +ℤ pos (readable c.object))
      high_at v none =
          let product : pos size *ℤ pos (readable c.object) ≡ pos (size * readable c.object) = pos-*ℤ-pos size (readable c.object) in
          let bytes : bytes_of s.text k ≡ size * readable c.object = bytes_are in
          sum product bytes ∙ sym (ap (λ z. elements_behind (address_of s.text k) size z) (zero none)) ∙ sym (ap (λ n. elements_behind (address_of s.text k) n (v.numbers 0 +ℤ pos (readable c.object))) size_is)
        where
          sum : pos size *ℤ pos (readable c.object) ≡ pos (size * readable c.object) → bytes_of s.text k ≡ size * readable c.object
              → pos (address_of s.text k + bytes_of s.text k) ≡ elements_behind (address_of s.text k) size (pos (readable c.object))
          sum product bytes = omega (arith, ints)

          zero : v.numbers 0 ≡ pos 0 → v.numbers 0 +ℤ pos (readable c.object) ≡ pos (readable c.object)
          zero e = omega (arith, ints)

      low_at : (v : Valuation) → Fits s.frame store.locals v → pos (address_of s.text k) ≡ address_by s store.locals v (size_behind s.text.layout t) (base_form (base.Array k))
      low_at v fits = sym (at_base s store.locals t v (fits 0 (inl refl)) (base.Array k))

      made : (r : RunRange) → (is_raw_kind (kind_of t) ≡ false → r ≡ ends) → NodeClaims s store entry here h t node (value_there r)
      made r ranged = record {
        word = pointer_word t c.pointer (address_of s.text k) address_small;
        placed = λ first fresh before low little are fits.
            placed_as s store entry here t (first + with_own t node) (first + with_own t node) (λ facts. Some (base_form (base.Array k))) (pointer_place t node first) (λ at. range.Known (base_form (base.Array k)) high)
            (pointer_range t node first fresh) [] (node_fresh t node here.at) first fresh before (value_there r) refl (place_is first) (range_is first fresh) refl
            (still_placed s store entry here t (first + with_own t node) (λ facts. Some (base_form (base.Array k))) (λ at. range.Known (base_form (base.Array k)) high) [] first fresh before (value_there r) little are fits
            (λ facts. tt) (λ widened. (tt, tt)) (λ facts. tt) (λ v fits facts. low_at v fits)
            (λ v fits. inr (record {
              from = address_of s.text k;
              to = address_of s.text k + bytes_of s.text k;
              range = ranged;
              low_is = low_at v fits;
              high_is = high_at v (fits 0 (inl refl));
              true_there = array_true;
            }))
            (λ widened bounded v fits. inr (record {
              from = address_of s.text k;
              to = address_of s.text k + bytes_of s.text k;
              low_is = low_at v fits;
              high_is = high_at v (fits 0 (inl refl));
              true_there = array_true;
            })));
        one = λ ones e. absurd (c.several (some_is c.kind kind.One (sym c.kind_is ∙ e)));
        zero = λ e. absurd (cc);
        wide = λ e. narrow s store entry here h node refl;
        sides = λ b e. subst (SideGoes s store entry here) (sym (nothing_read s store entry (λ facts. None) b here.at)) (stays s store entry here h);
      }

      -- An array that is an unchecked pointer has no range as it runs.
      by : (q : Kind) → c.kind ≡ q → IsNotStuck (NodeClaims s store entry here h t node) (evaluated store (static_in s.text t place k (Some q)))
      by kind.Arr is = made ends (λ checked. refl)
      by kind.Nt is = made ends (λ checked. refl)
      by kind.One is = absurd (c.several is)
      by kind.Raw is = made Without (λ checked. let raw : is_raw_kind (kind_of t) ≡ true = ap is_raw_kind c.kind_is ∙ ap (λ q. is_raw_kind (Some q)) is in absurd (cc))

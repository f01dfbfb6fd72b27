-- The claims of a pointer that `*` and `[` read.
use Rattle.std.proofs.Common.{◌≡◌, ◌⊎◌, ⊎_elim, inl, inr, refl, sym, ap, subst, ◌∙◌, ℕ, ◌+◌, Bool, true, false, List, [], ◌∷◌, arith}
use Rattle.std.specs.Prelude.{◌%◌, ◌<◌, ◌^◌, not, flat_map, slice_get, ℤ, pos, Option, None, Some, IsOk}
use Rattle.std.specs.List.{All, Contains, list_any}
use Rattle.std.proofs.lemmas.Bool.{and_parts}
use Rattle.std.proofs.lemmas.List.Elements.{All-nil, All-cons, All-contains, Contains-append_left, Contains-append_right}
use Rattle.ckc_types.specs.declared.types.CType.{CType, out-CType}
use Rattle.ckc_types.specs.declared.types.MemberBounds.{MemberBounds}
use Rattle.ckc_types.specs.declared.types.MemberBounds.TheVariants as mbounds
use Rattle.ckc_types.specs.declared.types.MemberShape.{MemberShape}
use Rattle.ckc_types.specs.Layout.{members_of}
use Rattle.ckc_syntax.specs.declared.tree.Name.TheVariants as name
use Rattle.ckc_typed.specs.Conversions.{is_terminated_kind}
use Rattle.ckc_typed.specs.Types.{is_pointer, kind_of, element_of}
use Rattle.ckc_blame_sound.specs.ckc_bounds_points.specs.Flow.{State}
use Rattle.ckc_blame_sound.specs.ckc_bounds_points.specs.Shown.{Known}
use Rattle.ckc_blame_sound.specs.ckc_bounds_views.specs.declared.variables.Own.{Own}
use Rattle.ckc_blame_sound.specs.ckc_bounds_views.specs.Conditions.{widening, widening_side}
use Rattle.ckc_blame_sound.specs.ckc_bounds_views.specs.Fresh.{own_fresh}
use Rattle.ckc_blame_sound.specs.ckc_bounds_views.specs.Parts.{NodeView}
use Rattle.ckc_blame_sound.specs.ckc_bounds_views.specs.Ranges.{range_by_type}
use Rattle.ckc_blame_sound.specs.ckc_bounds_statements.specs.Paths.{Here}
use Rattle.ckc_source.specs.declared.expr.Count.{Count}
use Rattle.ckc_source.specs.declared.expr.Count.TheVariants as count
use Rattle.ckc_source.specs.declared.expr.Pointee.{Pointee}
use Rattle.ckc_source.specs.declared.outcome.Range.TheVariants.{Without}
use Rattle.ckc_source.specs.declared.outcome.Value.{Value}
use Rattle.ckc_source.specs.declared.program.Object.{Object}
use Rattle.ckc_source.specs.Blocks.{Block}
use Rattle.ckc_source.specs.Eval.{Store, given, place_in, loads_pointer, evaluated}
use Rattle.ckc_source.specs.Runs.{is_true}
use Rattle.ckc_build_elaborate.specs.Objects.{objects_elaborated}
use Rattle.ckc_build_elaborate.specs.Shapes.{is_bare, names}
use Rattle.ckc_build_values.specs.Kinds.{pointee_of, count_of_kind}
use Rattle.ckc_build_values.specs.Members.{offset_of, count_by}
use Rattle.ckc_build_values.specs.Names.{count_declared, count_of_static}
use Rattle.ckc_build_values.specs.Places.{Place, read_at}
use Rattle.ckc_blame_sound.specs.Settings.{Setting}
use Rattle.ckc_blame_sound.specs.Points.{AreBounded, HoldsAt}
use Rattle.ckc_blame_sound.specs.Slots.{Slot, AreFilled, slot_by, slot_of_member, slots_in, slots_of}
use Rattle.ckc_blame_sound.proofs.Types.{word_wide}
use Rattle.ckc_blame_sound.specs.Cells.{IsReached}
use Rattle.ckc_blame_sound.proofs.Ranges.{contains_at}
use Rattle.ckc_blame_sound.proofs.Accesses.{scalar_part}
use Rattle.ckc_blame_sound.proofs.Lists.{all_by}
use Rattle.ckc_blame_pointers.specs.Covered.{KeepRunsFree, IsSoundStore}
use Rattle.ckc_blame_pointers.specs.Meant.{IsNotStuck}
use Rattle.ckc_blame_pointers.specs.Owed.{IfGives}
use Rattle.ckc_blame_pointers.proofs.Arrays.{object_at}
use Rattle.ckc_blame_pointers.proofs.Claims.{bare_wider}
use Rattle.ckc_blame_pointers.proofs.Given.{gives_weaker, gives_both, ok_comes}
use Rattle.ckc_blame_pointers.proofs.Later.{zero_typed}
use Rattle.ckc_blame_pointers.proofs.Loads.{part_loads, word_gives}
use Rattle.ckc_blame_pointers.proofs.Nodes.{NodeClaims}
use Rattle.ckc_blame_pointers.proofs.Own.{IsNullOrRanged, fixed_gives, own_claims, kind_between, kind_range, kind_one, same_count}
use Rattle.ckc_blame_pointers.proofs.Pointers.{not_member, slots_are}
use Rattle.ckc_blame_pointers.proofs.Reach.{ComesTo, comes_on, element_at, got, place_reads}
use Rattle.ckc_blame_pointers.proofs.Reached.{IsElementReached, IsRunReached, scalar_reached}
use Rattle.ckc_blame_pointers.proofs.Scalars.{pointer_scalar}

-- the slots of a member are among those of all
slots_among : (f : MemberShape → List Slot) (ms : List MemberShape) → All (λ m. (slot : Slot) → Contains (f m) slot → Contains (flat_map f ms) slot) ms
slots_among f [] = All-nil (λ m. (slot : Slot) → Contains (f m) slot → Contains (flat_map f []) slot)
slots_among f (x ∷ ms) =
    All-cons (λ m. (slot : Slot) → Contains (f m) slot → Contains (flat_map f (x ∷ ms)) slot) x ms (λ slot h. Contains-append_left (f x) (flat_map f ms) slot h)
    (all_by (λ m. (slot : Slot) → Contains (f m) slot → Contains (flat_map f ms) slot) (λ m. (slot : Slot) → Contains (f m) slot → Contains (flat_map f (x ∷ ms)) slot)
    (λ m later slot h. Contains-append_right (f x) (flat_map f ms) slot (later slot h)) ms (slots_among f ms))

bare_bounds : (b : MemberBounds) → is_bare b ≡ true → b ≡ mbounds.Nothing
bare_bounds mbounds.Nothing e = refl
bare_bounds mbounds.Unknown e = absurd (cc)
bare_bounds mbounds.NoForm e = absurd (cc)
bare_bounds (mbounds.Fixed c) e = absurd (cc)
bare_bounds (mbounds.Named j c) e = absurd (cc)

-- ---- the claims of what is read

module _ (s : Setting) (store : Store) (entry : List ℕ) (next : ℕ) (ready : IsSoundStore s store next) (here : Here) (h : HoldsAt s store entry here) (t p : CType) (pointer : is_pointer t ≡ true)
    (bare : is_terminated_kind (kind_of p) ≡ false) (made : NodeView) (alone : made.stands_alone ≡ true) (known : made.null ≡ false) (nowhere : (first : ℕ) (facts : Known) → made.place t first facts ≡ None)
    (kept : (widened : List ℕ) → made.fresh (record here.at { widened = widened }) ≡ made.fresh here.at)
    (ranged : (own : Own) (first fresh : ℕ) (widened : List ℕ) → made.range t own first fresh (record here.at { widened = widened }) ≡ range_by_type (kind_of t) own.value)
    (behind : made.behind ≡ kind_of p) (some : made.is_zero ≡ false) (same : (b : Bool) → made.side b here.at ≡ widening_side s.frame made.behind (made.target 0) b here.at) where
  abbrev pointee_there : Pointee
  pointee_there = pointee_of s.text.layout t

  abbrev Read : Value → Type 0
  Read = NodeClaims s store entry here h t made

  -- what is read through no `_Nt_array_ptr` widens nothing
  still : widening s.frame made.behind (made.target 0 here.at.facts) here.at ≡ here.at
  still = bare_wider s store entry made.behind (ap is_terminated_kind behind ∙ bare) (made.target 0 here.at.facts) here.at

  quiet : (b : Bool) → made.side b here.at ≡ here.at
  quiet true = same true ∙ still
  quiet false = same false

  pub pointee_comes : (x : Value) → x.number < 2 ^ 32 → ((z : ℤ) → count_of_kind (kind_of t) ≡ Some (count.Fixed z) → IsNullOrRanged store pointee_there z x) → Read x
  pointee_comes x small there =
      let c = own_claims s store entry here h t pointer (record made { behind = None }) alone known nowhere kept (λ own. range_by_type (kind_of t) own.value) ranged (kind_between s store entry t x there) x (pos 0)
      refl some quiet small (zero_typed (own_fresh t made here.at.facts)) (kind_range s store entry t x there (own_fresh t made here.at.facts) (pos 0)) (kind_one s store entry t x there) in
      record {
        word = c.word;
        placed = c.placed;
        one = c.one;
        zero = c.zero;
        wide = λ e. subst (λ (at : State). AreBounded s store at.widened here.seen) (sym still) h.widened;
        sides = c.sides;
      }

  -- wherever it is read
  pub pointee_gives : (a offset : ℕ) (o : Option Count) → count_of_kind (kind_of t) ≡ o → IfGives Read (got store s.text.layout t offset o a)
  pointee_gives a offset (Some (count.Fixed z)) e =
      gives_weaker (λ v. (v.number < 2 ^ 32) × IsNullOrRanged store pointee_there z v) Read (got store s.text.layout t offset (Some (count.Fixed z)) a) (fixed_gives store ready.sound.bytes pointee_there z a (place_in a offset))
      (λ x r. pointee_comes x r.0 (λ y f. subst (λ z. IsNullOrRanged store pointee_there z x) (same_count z y (sym e ∙ f)) r.1))
  pointee_gives a offset (Some (count.Member o f z)) e = absurd (not_member (kind_of t) o f z e)
  pointee_gives a offset None e =
      word_gives store ready.sound.bytes Read t (place_in a offset) (λ n word. pointee_comes (record { number = n; range = Without }) (word_wide t n word) (λ z f. absurd (cc)))

-- ---- what is read through a pointer whose range is true

module _ (s : Setting) (store : Store) (entry : List ℕ) (next : ℕ) (ready : IsSoundStore s store next) (here : Here) (h : HoldsAt s store entry here) (p : CType) (pointer : is_pointer (element_of p) ≡ true)
    (bare : is_terminated_kind (kind_of p) ≡ false) (free : KeepRunsFree s.text) (filled : AreFilled s.text store) (made : NodeView) where
  abbrev t : CType
  t = element_of p

  abbrev to : Pointee
  to = pointee_of s.text.layout t

  abbrev Made : Value → Type 0
  Made = NodeClaims s store entry here h t made

  -- a range that reaches the element at an address
  abbrev pub IsHit : ℕ → Type 0
  IsHit a = (m : ℕ) × (low : ℕ) × (high : ℕ) × (is_true store.shapes store.blocks (pointee_of s.text.layout p) m low high ≡ true) × IsReached (pointee_of s.text.layout p) m low high a

  reached : (a : ℕ) → IsHit a → IsElementReached store.blocks t a ⊎ IsRunReached s.text.layout store.blocks t a
  reached a (m, low, high, true_there, r) =
      scalar_reached s.text store.blocks (pointee_of s.text.layout p) refl (pointer_scalar t pointer) m low high a r ready.sound.memory.placed
      (subst (λ sh. is_true sh store.blocks (pointee_of s.text.layout p) m low high ≡ true) ready.shapes true_there)

  module _ (a : ℕ) (z : ℤ) (is : count_of_kind (kind_of t) ≡ Some (count.Fixed z)) where
    abbrev slot : ℕ → Slot
    slot offset = record { offset = offset; to = to; count = count.Fixed z }

    -- the blocks that may be reached hold pointers without written bounds
    undeclared : (r : IsElementReached store.blocks t a) → count_of_static s.text t (name.Static r.number) ≡ count_of_kind (kind_of t)
    undeclared r = ⊎_elim (λ none. ap (count_declared s.text.layout t) none) (λ o. absurd (kept o.0 o.1 o.2)) (free r.number)
      where
        kept : (o : Object) → slice_get (objects_elaborated s.text) r.number ≡ Some o → o.is_run ≡ false → ⊥
        kept o there no_run =
            let at = object_at (objects_elaborated s.text) store.blocks ready.sound.memory.objects r.number o there in
            let found = at.1 in
            let there_too = r.there in
            let same : at.0 ≡ r.block = cc in
            let run : o.is_run ≡ true = sym (ap (λ (x : Block). x.is_run) at.2) ∙ ap (λ (x : Block). x.is_run) same ∙ r.reachable in
            absurd (cc)

    none_more : (n : ℕ) → n ≡ n + 0
    none_more n = omega arith

    filled_there : IsElementReached store.blocks t a ⊎ IsRunReached s.text.layout store.blocks t a → IsOk (loads_pointer store to (count.Fixed z) a (place_in a 0))
    filled_there (inl r) =
        subst (λ b. IsOk (loads_pointer store to (count.Fixed z) b (place_in b 0))) (sym r.address)
        (filled r.number r.index r.block (slot 0) r.there r.below (subst (λ xs. Contains xs (slot 0)) (sym slots_there) (contains_at (slot 0 ∷ []) 0 (slot 0) refl)))
      where
        slots_there : slots_of s.text r.number r.block.element ≡ slot 0 ∷ []
        slots_there = ap (slots_of s.text r.number) r.element ∙ slots_are s.text r.number t (out-CType t) pointer ∙ ap (slot_by s.text.layout 0 t) (undeclared r ∙ is)
    filled_there (inr r) =
        subst (λ x. IsOk (loads_pointer store to (count.Fixed z) a x)) (ap (λ n. n % 2 ^ 32) (sym r.address ∙ none_more a))
        (filled r.number r.index r.block (slot offset) r.there r.below (subst (λ xs. Contains xs (slot offset)) (sym slots_there) among))
      where
        offset : ℕ
        offset = offset_of s.text.layout r.tag r.shape.name

        slots_there : slots_of s.text r.number r.block.element ≡ flat_map (slot_of_member s.text.layout r.tag) (members_of s.text.layout r.tag)
        slots_there = ap (slots_in s.text r.number r.block.element) r.form

        unbound : r.shape.bounds ≡ mbounds.Nothing
        unbound = bare_bounds r.shape.bounds (and_parts (is_bare r.shape.bounds) (not (list_any (λ n. names r.shape.name n.bounds) (members_of s.text.layout r.tag))) r.free).0

        slot_is : slot_of_member s.text.layout r.tag r.shape ≡ slot offset ∷ []
        slot_is =
            ap (λ u. slot_by s.text.layout offset u (count_by s.text.layout r.tag u r.shape.bounds)) (sym r.same) ∙ ap (λ b. slot_by s.text.layout offset t (count_by s.text.layout r.tag t b)) unbound
            ∙ ap (slot_by s.text.layout offset t) is

        among : Contains (flat_map (slot_of_member s.text.layout r.tag) (members_of s.text.layout r.tag)) (slot offset)
        among =
            All-contains (λ m. (slot : Slot) → Contains (slot_of_member s.text.layout r.tag m) slot → Contains (flat_map (slot_of_member s.text.layout r.tag) (members_of s.text.layout r.tag)) slot) (members_of s.text.layout r.tag) r.shape
            (slots_among (slot_of_member s.text.layout r.tag) (members_of s.text.layout r.tag)) r.contained (slot offset)
            (subst (λ xs. Contains xs (slot offset)) (sym slot_is) (contains_at (slot offset ∷ []) 0 (slot offset) refl))

  -- An element that is reached is read.
  reads : (a : ℕ) → IsHit a → (o : Option Count) → count_of_kind (kind_of t) ≡ o → IfGives Made (got store s.text.layout t 0 o a) → IsNotStuck Made (got store s.text.layout t 0 o a)
  reads a hit (Some (count.Fixed z)) e g = ok_comes Made (got store s.text.layout t 0 (Some (count.Fixed z)) a) (filled_there a z e (reached a hit)) g
  reads a hit (Some (count.Member o f z)) e g = absurd (not_member (kind_of t) o f z e)
  reads a (m, low, high, true_there, r) None e g =
      gives_both (λ v. Unit {0}) Made (got store s.text.layout t 0 None a)
      (part_loads s store next ready.sound ready.names ready.shapes (λ v. Unit {0}) p m low high a 0 t (scalar_part s.text.layout t (pointer_scalar t pointer)) true_there r (λ n there word. tt)) g

  module _ (alone : made.stands_alone ≡ true) (known : made.null ≡ false) (nowhere : (first : ℕ) (facts : Known) → made.place t first facts ≡ None)
      (kept : (widened : List ℕ) → made.fresh (record here.at { widened = widened }) ≡ made.fresh here.at)
      (ranged : (own : Own) (first fresh : ℕ) (widened : List ℕ) → made.range t own first fresh (record here.at { widened = widened }) ≡ range_by_type (kind_of t) own.value)
      (behind : made.behind ≡ kind_of p) (some : made.is_zero ≡ false) (same : (b : Bool) → made.side b here.at ≡ widening_side s.frame made.behind (made.target 0) b here.at) where
    -- An element that is a pointer is read as it is judged to be.
    pub pointee_claims : (q : Place) → q.access.offset ≡ 0 → ComesTo IsHit (element_at store q) → IsNotStuck Made (evaluated store (read_at s.text.layout t (count_of_kind (kind_of t)) q))
    pointee_claims q begins there =
        subst (IsNotStuck Made) (sym (place_reads store s.text.layout t q (count_of_kind (kind_of t)) ∙ ap (λ d. given (element_at store q) (got store s.text.layout t d (count_of_kind (kind_of t)))) begins))
        (comes_on IsHit Made (element_at store q) (got store s.text.layout t 0 (count_of_kind (kind_of t))) there (λ a hit. reads a hit (count_of_kind (kind_of t)) refl
        (pointee_gives s store entry next ready here h t p pointer bare made alone known nowhere kept ranged behind some same a 0 (count_of_kind (kind_of t)) refl)))

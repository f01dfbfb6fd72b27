-- The address of an object or of a member may be used for one element.
use Rattle.std.proofs.Common.{◌≡◌, ◌⊎◌, ⊎_elim, inl, inr, refl, sym, ap, subst, ◌∙◌, ℕ, zero, suc, ◌+◌, ◌-◌, Bool, true, false, List, [], ◌∷◌, arith}
use Rattle.std.specs.Prelude.{◌*◌, ◌%◌, ◌<◌, ◌≤◌, ◌^◌, ◌&&◌, ◌||◌, not, if◌then◌else◌, find, flat_map, length, nat_le, slice_get, pos, Option, None, Some, IfSome}
use Rattle.std.specs.List.{list_any}
use Rattle.std.specs.Option.{option_map}
use Rattle.std.proofs.Math.Nat.{add-mul-mod_self_left, mul_comm, mod-eq_of_lt}
use Rattle.std.proofs.lemmas.Bool.{eqb-true}
use Rattle.std.proofs.lemmas.Bool.Decides.{nat_tests}
use Rattle.std.proofs.lemmas.List.Folds.{list_any-append}
use Rattle.ckc_base.specs.declared.arithmetic.Width.{Width}
use Rattle.ckc_base.specs.declared.arithmetic.Width.TheVariants.{Byte, Word}
use Rattle.ckc_base.specs.Memory.{width_bytes}
use Rattle.ckc_base.specs.declared.places.Pos.{Pos}
use Rattle.ckc_types.specs.declared.types.CType.{CType, CType-F, out-CType}
use Rattle.ckc_types.specs.declared.types.MemberShape.{MemberShape}
use Rattle.ckc_types.specs.declared.types.StructShape.{StructShape}
use Rattle.ckc_types.specs.declared.types.Structs.{Structs}
use Rattle.ckc_types.specs.Layout.{members_in, members_of}
use Rattle.ckc_types.specs.Same.{same_type}
use Rattle.ckc_syntax.specs.declared.tree.Name.{Name}
use Rattle.ckc_syntax.specs.declared.tree.TreeOp.TheVariants as op
use Rattle.ckc_syntax.specs.declared.tree.Node.{Node-F}
use Rattle.ckc_typed.specs.declared.typed.Note.{Note}
use Rattle.ckc_typed.specs.declared.typed.Range.{Range}
use Rattle.ckc_typed.specs.Constants.{size_of}
use Rattle.ckc_typed.specs.Conversions.{is_terminated_kind}
use Rattle.ckc_typed.specs.Environment.{is_member_named}
use Rattle.ckc_typed.specs.Layouts.{member_number}
use Rattle.ckc_typed.specs.Operands.{member_in}
use Rattle.ckc_typed.specs.Types.{is_integer_form, is_pointer_form, is_scalar, kind_of, element_of}
use Rattle.ckc_blame_sound.specs.ckc_bounds_points.specs.Forms.{constant_form}
use Rattle.ckc_blame_sound.specs.ckc_bounds_points.specs.Flow.{State}
use Rattle.ckc_blame_sound.specs.ckc_bounds_points.specs.Shown.{Known}
use Rattle.ckc_blame_sound.specs.ckc_bounds_views.specs.declared.variables.Own.{Own}
use Rattle.ckc_blame_sound.specs.ckc_bounds_views.specs.Fresh.{own_fresh}
use Rattle.ckc_blame_sound.specs.ckc_bounds_views.specs.Parts.{NodeView, with_last}
use Rattle.ckc_blame_sound.specs.ckc_bounds_views.specs.Ranges.{range_of_one}
use Rattle.ckc_blame_sound.specs.ckc_bounds_views.specs.Views.{node_view, expr_view}
use Rattle.ckc_blame_sound.specs.ckc_bounds_statements.specs.Paths.{Here}
use Rattle.ckc_source.specs.declared.expr.Pointee.{Pointee}
use Rattle.ckc_source.specs.declared.outcome.Range.TheVariants.{Within}
use Rattle.ckc_source.specs.declared.outcome.Value.{Value}
use Rattle.ckc_source.specs.declared.program.MemberRun.{MemberRun}
use Rattle.ckc_source.specs.Blocks.{Block, block_of, end_of}
use Rattle.ckc_source.specs.Eval.{Store, place_in, spanned, evaluated}
use Rattle.ckc_source.specs.Runs.{is_within, is_in_block, any_below, is_at, is_in_some_element, is_in_member, runs_of, runs_in, member_runs, is_in, is_true}
use Rattle.ckc_build_elaborate.specs.Objects.{object_elaborated, objects_elaborated}
use Rattle.ckc_build_elaborate.specs.Shapes.{is_run, run_of, shapes_elaborated}
use Rattle.ckc_build_values.specs.Kinds.{width_of, tag_in, tag_of}
use Rattle.ckc_build_values.specs.Members.{offset_of}
use Rattle.ckc_build_values.specs.Names.{address_in, address_of}
use Rattle.ckc_build_values.specs.Places.{Place, member_place, address_at}
use Rattle.ckc_blame_sound.specs.Settings.{Setting}
use Rattle.ckc_blame_sound.specs.Points.{HoldsAt}
use Rattle.ckc_blame_sound.specs.Values.{IsNumberOf}
use Rattle.ckc_blame_sound.specs.Sound.{IsPlaced}
use Rattle.ckc_blame_sound.specs.Cells.{IsCell, IsPart}
use Rattle.ckc_blame_sound.proofs.Apart.{placed_at, cell_address}
use Rattle.ckc_blame_sound.proofs.Objects.{made_shape, shapes_at}
use Rattle.ckc_blame_sound.proofs.Parts.{form_width, sized_form, part_lies}
use Rattle.ckc_blame_sound.proofs.Places.{element_between}
use Rattle.ckc_blame_sound.proofs.Reached.{place_is}
use Rattle.ckc_blame_pointers.specs.Covered.{IsFreeObject, IsScalarMember, IsSoundStore}
use Rattle.ckc_blame_pointers.specs.Meant.{IsNotStuck}
use Rattle.ckc_blame_pointers.proofs.Addresses.{IsAddressType}
use Rattle.ckc_blame_pointers.proofs.Arrays.{type_same, object_at}
use Rattle.ckc_blame_pointers.proofs.Held.{IsOwnNode, found_passes}
use Rattle.ckc_blame_pointers.proofs.Members.{member_there}
use Rattle.ckc_blame_pointers.proofs.Nodes.{NodeClaims}
use Rattle.ckc_blame_pointers.proofs.Numbers.{one_behind}
use Rattle.ckc_blame_pointers.proofs.Own.{own_claims, own_between, own_range, constant_counts}
use Rattle.ckc_blame_pointers.proofs.Reach.{IsStructurePlace, member_address}
use Rattle.ckc_blame_pointers.proofs.Structures.{IsWholeElement}
use Rattle.ckc_blame_pointers.proofs.Widening.{any_at, within_tests}

-- ---- tests

or_right : (a b : Bool) → b ≡ true → (a || b) ≡ true
or_right true b e = refl
or_right false b e = e

or_left : (a b : Bool) → a ≡ true → (a || b) ≡ true
or_left true b e = refl
or_left false b e = absurd (cc)

both : (a b : Bool) → a ≡ true → b ≡ true → (a && b) ≡ true
both true b e f = f
both false b e f = absurd (cc)

at_most : (m n : ℕ) → m ≤ n → nat_le m n ≡ true
at_most m n h = grind (arith, nat_tests)

any_below_at : (k : ℕ) (test : ℕ → Bool) (i : ℕ) → i < k → test i ≡ true → any_below k test ≡ true
unfolding any_below
any_below_at zero test i less e = absurd (omega arith)
any_below_at (suc k) test i less e = ⊎_elim (λ same. or_left (test k) (any_below k test) (subst (λ j. test j ≡ true) same e)) (λ less. or_right (test k) (any_below k test) (any_below_at k test i less e)) (last i k less)
  where
    last : (i k : ℕ) → i < suc k → (i ≡ k) ⊎ (i < k)
    last zero zero h = inl refl
    last zero (suc k) h = inr (omega arith)
    last (suc i) zero h = absurd (omega arith)
    last (suc i) (suc k) h = ⊎_elim (λ e. inl (ap suc e)) (λ less. inr (omega (arith, less))) (last i k (omega (arith, h)))

any_found : {X : Type 0} (p : X → Bool) (f : MemberShape → List X) (q : MemberShape → Bool) (ms : List MemberShape) (m : MemberShape) → find q ms ≡ Some m → list_any p (f m) ≡ true → list_any p (flat_map f ms) ≡ true
any_found p f q [] m e h = absurd (cc)
any_found {X} p f q (x ∷ ms) m e h = list_any-append {X = X} p (f x) (flat_map f ms) ∙ by (λ e. any_found p f q ms m e h) (q x) e
  where
    by : (find q ms ≡ Some m → list_any p (flat_map f ms) ≡ true) → (b : Bool) → (if b then Some x else find q ms) ≡ Some m → (list_any p (f x) || list_any p (flat_map f ms)) ≡ true
    by later true e = let same : x ≡ m = cc in or_left (list_any p (f x)) (list_any p (flat_map f ms)) (subst (λ y. list_any p (f y) ≡ true) (sym same) h)
    by later false e = or_right (list_any p (f x)) (list_any p (flat_map f ms)) (later e)

pub scalar_sized : (structs : Structs) (t : CType) → is_scalar t ≡ true → size_of structs t ≡ width_bytes (width_of t)
scalar_sized structs t e = by (out-CType t) refl e
  where
    by : (f : CType-F CType) → out-CType t ≡ f → (is_integer_form f || is_pointer_form f) ≡ true → size_of structs t ≡ width_bytes (width_of t)
    by CType-F.Int is e = ap (sized_form structs) is ∙ sym (ap (λ f. width_bytes (form_width f)) is)
    by CType-F.Unsigned is e = ap (sized_form structs) is ∙ sym (ap (λ f. width_bytes (form_width f)) is)
    by CType-F.Char is e = ap (sized_form structs) is ∙ sym (ap (λ f. width_bytes (form_width f)) is)
    by CType-F.Void is e = absurd (cc)
    by (CType-F.Struct tag) is e = absurd (cc)
    by (CType-F.Pointer k u) is e = ap (sized_form structs) is ∙ sym (ap (λ f. width_bytes (form_width f)) is)

-- ---- ranges of one element

abbrev one_of : Structs → CType → Pointee
one_of structs t = record { element = t; size = size_of structs t; terminated = false }

-- a run of one
one_within : (begin size : ℕ) → 0 < size → is_within begin (begin + size) size begin begin (begin + size) ≡ true
one_within begin size some = within_tests begin (begin + size) size begin begin (begin + size) some (omega arith) (omega arith) (omega arith) refl (ap (λ n. (begin + n) % size) (once size) ∙ add-mul-mod_self_left begin size 1) refl
  where
    once : (size : ℕ) → size ≡ size * 1
    once size = omega arith

module _ (s : Setting) (store : Store) (next : ℕ) (ready : IsSoundStore s store next) where
  abbrev IsTrueOne : CType → ℕ → Type 0
  IsTrueOne t a = is_true store.shapes store.blocks (one_of s.text.layout t) a a (a + size_of s.text.layout t) ≡ true

  -- an element that is the first of a block
  first_true : (k : ℕ) (b : Block) → slice_get store.blocks k ≡ Some b → b.is_run ≡ true → b.terminated ≡ false → 0 < b.count → IsTrueOne b.element b.base
  first_true k b there run plain some =
      any_at (is_in store.shapes to b.base b.base (b.base + to.size)) store.blocks k b there
      (both b.is_run (is_in_block to b.base b.base (b.base + to.size) b || (not to.terminated && list_any (is_in_member to b.base b.base (b.base + to.size) b) (member_runs store.shapes b))) run
      (or_left (is_in_block to b.base b.base (b.base + to.size) b) (not to.terminated && list_any (is_in_member to b.base b.base (b.base + to.size) b) (member_runs store.shapes b)) inside))
    where
      to : Pointee
      to = one_of s.text.layout b.element

      placed : IsPlaced s.text b
      placed = placed_at s.text store.blocks ready.sound.memory.placed k b there

      least : to.size ≤ length b.bytes
      least =
          let turned = mul_comm b.size b.count in
          let more = element_between b.size 0 b.count some in
          let size = placed.size in
          let whole = placed.whole in
          omega arith

      within : is_within b.base (end_of b) to.size b.base b.base (b.base + to.size) ≡ true
      within =
          within_tests b.base (end_of b) to.size b.base b.base (b.base + to.size) (subst (λ n. 0 < n) placed.size placed.sized) (omega arith) (omega arith) (more b.base to.size (length b.bytes) least) refl
          (ap (λ n. (b.base + n) % to.size) (once to.size) ∙ add-mul-mod_self_left b.base to.size 1) refl
        where
          once : (size : ℕ) → size ≡ size * 1
          once size = omega arith

          more : (a m n : ℕ) → m ≤ n → a + m ≤ a + n
          more a m n h = omega arith

      inside : is_in_block to b.base b.base (b.base + to.size) b ≡ true
      inside =
          both (same_type b.element b.element) (if b.terminated then is_within b.base (end_of b - b.size) to.size b.base b.base (b.base + to.size) else is_within b.base (end_of b) to.size b.base b.base (b.base + to.size))
          (type_same b.element) (ap (λ q. if q then is_within b.base (end_of b - b.size) to.size b.base b.base (b.base + to.size) else is_within b.base (end_of b) to.size b.base b.base (b.base + to.size)) plain ∙ within)

  module _ (u t : CType) (n : Name) (c : IsScalarMember s u t n) (free : is_run (members_of s.text.layout c.tag) c.member ≡ true) (a : ℕ) (w : IsWholeElement store.blocks u a) (run : w.block.is_run ≡ true) where
    abbrev offset : ℕ
    offset = offset_of s.text.layout c.tag c.member.name

    abbrev b : Block
    b = w.block

    abbrev to : Pointee
    to = one_of s.text.layout t

    offset_is : offset_of s.text.layout (tag_of u) (member_number n) ≡ offset
    offset_is =
        ap (λ f. offset_of s.text.layout (tag_in f) (member_number n)) c.struct ∙ ap (λ n. offset_of s.text.layout c.tag (member_number n)) c.named
        ∙ ap (offset_of s.text.layout c.tag)
        (eqb-true c.number c.member.name (subst (λ n. is_member_named n c.member.name ≡ true) c.named (found_passes (λ m. is_member_named n m.name) (members_of s.text.layout c.tag) c.member c.found)))

    part : IsPart s.text.layout u offset (width_of t)
    part = subst (λ o. IsPart s.text.layout u o (width_of t)) offset_is (member_there s.text.layout u n t c.number c.named
        (ap (member_in s.text.layout n) c.struct ∙ ap (option_map (λ m. m.ctype)) c.found ∙ ap Some c.type))

    placed : IsPlaced s.text b
    placed = placed_at s.text store.blocks ready.sound.memory.placed w.number b w.there

    cell : IsCell s.text.layout store.blocks (a + offset) (width_of t) true
    cell = record {
      number = w.number;
      block = b;
      there = w.there;
      index = w.index;
      below = w.below;
      offset = offset;
      part = subst (λ u. IsPart s.text.layout u offset (width_of t)) (sym w.element) part;
      address = ap (λ a. a + offset) w.address;
      ends = λ e. inr refl;
    }

    size_is : size_of s.text.layout t ≡ width_bytes (width_of t)
    size_is = scalar_sized s.text.layout t c.scalar

    some : 0 < size_of s.text.layout t
    some = subst (λ n. 0 < n) (sym size_is) (wide (width_of t))
      where
        wide : (x : Width) → 0 < width_bytes x
        wide Byte = omega arith
        wide Word = omega arith

    inside : offset + size_of s.text.layout t ≤ b.size
    inside =
        let element : b.size ≡ size_of s.text.layout u = placed.size ∙ ap (size_of s.text.layout) w.element in
        subst (λ n. offset + n ≤ b.size) (sym size_is) (subst (λ n. offset + width_bytes (width_of t) ≤ n) (sym element) (part_lies s.text.layout u offset (width_of t) (subst (λ n. 0 < n) element placed.sized) part).within)

    abbrev run_there : MemberRun
    run_there = record { offset = offset; ctype = c.member.ctype }

    abbrev Run : MemberRun → Bool
    Run = is_in_member to (a + offset) (a + offset) (a + offset + to.size) b

    begin_is : (base many offset : ℕ) → base + many + offset ≡ base + (many + offset)
    begin_is base many offset = omega arith

    begins : a + offset ≡ b.base + (w.index * b.size + offset)
    begins = ap (λ a. a + offset) w.address ∙ begin_is b.base (w.index * b.size) offset

    in_element : is_in_some_element b offset to.size (a + offset) (a + offset) (a + offset + to.size) ≡ true
    in_element =
        any_below_at b.count (λ i. is_at b (b.base + (i * b.size + offset)) to.size (a + offset) (a + offset) (a + offset + to.size)) w.index w.below
        (subst (λ x. (nat_le (x + to.size) (end_of b) && is_within x (x + to.size) to.size (a + offset) (a + offset) (a + offset + to.size)) ≡ true) begins
        (both (nat_le (a + offset + to.size) (end_of b)) (is_within (a + offset) (a + offset + to.size) to.size (a + offset) (a + offset) (a + offset + to.size))
        (at_most (a + offset + to.size) (end_of b) ends) (one_within (a + offset) to.size some)))
      where
        ends : a + offset + to.size ≤ end_of b
        ends =
            let turned = mul_comm b.size b.count in
            let more = element_between b.size w.index b.count w.below in
            let whole = placed.whole in
            let at = w.address in
            let fits = inside in
            omega arith

    run_true : Run run_there ≡ true
    run_true =
        both (same_type t c.member.ctype && nat_le (offset + to.size) b.size) (is_in_some_element b offset to.size (a + offset) (a + offset) (a + offset + to.size))
        (both (same_type t c.member.ctype) (nat_le (offset + to.size) b.size) (ap (λ u. same_type u c.member.ctype) (sym c.type) ∙ type_same c.member.ctype) (at_most (offset + to.size) b.size inside)) in_element

    among : list_any Run (flat_map (run_of s.text.layout c.tag (members_of s.text.layout c.tag)) (members_of s.text.layout c.tag)) ≡ true
    among =
        any_found Run (run_of s.text.layout c.tag (members_of s.text.layout c.tag)) (λ m. is_member_named n m.name) (members_of s.text.layout c.tag) c.member c.found
        (ap (λ q. list_any Run (if q then run_there ∷ [] else [])) free ∙ or_left (Run run_there) false run_true)

    runs_true : list_any Run (member_runs store.shapes b) ≡ true
    runs_true =
        ap (λ sh. list_any Run (member_runs sh b)) ready.shapes ∙ ap (λ u. list_any Run (runs_in (shapes_elaborated s.text.layout) (out-CType u))) w.element
        ∙ ap (λ f. list_any Run (runs_in (shapes_elaborated s.text.layout) f)) c.struct ∙ by (slice_get s.text.layout.shapes c.tag) refl
      where
        by : (o : Option StructShape) → slice_get s.text.layout.shapes c.tag ≡ o → list_any Run (runs_of (slice_get (shapes_elaborated s.text.layout) c.tag)) ≡ true
        by None e = let none : members_of s.text.layout c.tag ≡ [] = ap members_in e in
            let nothing : ◌≡◌ {A = Option MemberShape} None (Some c.member) = sym (ap (find (λ m. is_member_named n m.name)) none) ∙ c.found in absurd (cc)
        by (Some x) e =
            let first : 0 + c.tag ≡ c.tag = omega arith in
            let all : members_of s.text.layout c.tag ≡ x.members = ap members_in e in
            ap (λ o. list_any Run (runs_of o)) (shapes_at s.text.layout 0 s.text.layout.shapes c.tag x e ∙ ap (λ n. Some (made_shape s.text.layout n x)) first)
            ∙ subst (λ ms. list_any Run (flat_map (run_of s.text.layout c.tag ms) ms) ≡ true) all among

    member_true : IsTrueOne t (a + offset)
    member_true =
        any_at (is_in store.shapes to (a + offset) (a + offset) (a + offset + to.size)) store.blocks w.number b w.there
        (both b.is_run (is_in_block to (a + offset) (a + offset) (a + offset + to.size) b || list_any Run (member_runs store.shapes b)) run
        (or_right (is_in_block to (a + offset) (a + offset) (a + offset + to.size) b) (list_any Run (member_runs store.shapes b)) runs_true))

    member_at : place_in a offset ≡ a + offset
    member_at = place_is a offset (width_of t) (cell_address s.text store.blocks ready.sound.memory.placed (a + offset) (width_of t) true cell).1

    member_small : a + offset < 2 ^ 32
    member_small = let end = (cell_address s.text store.blocks ready.sound.memory.placed (a + offset) (width_of t) true cell).1 in omega arith

-- ---- addresses

-- What is said of an address of what is read at no pointer's place, by its range.
pub address_node_by : (q : Own → Range) (s : Setting) (here : Here) (note : Note) (place : Pos) (r : CType) (n : NodeView) → ((widened : List ℕ) → n.fresh (record here.at { widened = widened }) ≡ n.fresh here.at)
    → ((own : Own) (first fresh : ℕ) (at : State) → n.address own first fresh at ≡ q own) → ((first : ℕ) (facts : Known) → n.target first facts ≡ None)
    → IsOwnNode here r q None (node_view s.frame (Node-F.Un op.Address (expr_view (record { node = n; pos = place; note = note }))))
address_node_by q s here note place r n kept one nowhere = record {
  alone = refl;
  known = refl;
  nowhere = nowhere;
  kept = λ widened. ap (λ us. with_last us (own_fresh note.ctype n here.at.facts)) (kept widened);
  ranged = λ own first fresh widened. one own first fresh (record here.at { widened = widened });
  needs = refl;
  behind = refl;
  some = refl;
  quiet = quiet;
}
  where
    quiet : (b : Bool) → (node_view s.frame (Node-F.Un op.Address (expr_view (record { node = n; pos = place; note = note })))).side b here.at ≡ here.at
    quiet true = refl
    quiet false = refl

-- it may be used for one element
pub address_node : (s : Setting) (here : Here) (note : Note) (place : Pos) (r : CType) (n : NodeView) → ((widened : List ℕ) → n.fresh (record here.at { widened = widened }) ≡ n.fresh here.at)
    → ((own : Own) (first fresh : ℕ) (at : State) → n.address own first fresh at ≡ range_of_one own.value) → ((first : ℕ) (facts : Known) → n.target first facts ≡ None)
    → IsOwnNode here r (λ own. range_of_one own.value) None (node_view s.frame (Node-F.Un op.Address (expr_view (record { node = n; pos = place; note = note }))))
address_node = address_node_by (λ own. range_of_one own.value)

module _ (s : Setting) (store : Store) (entry : List ℕ) (next : ℕ) (ready : IsSoundStore s store next) (here : Here) (h : HoldsAt s store entry here) (t r : CType) (type : IsAddressType r t)
    (made : NodeView) (node : IsOwnNode here r (λ own. range_of_one own.value) None made) where
  one_claims : (m : ℕ) → m < 2 ^ 32 → IsTrueOne s store next ready t m → IsNotStuck (NodeClaims s store entry here h r made) (spanned m (size_of s.text.layout t))
  one_claims m small true_there =
      own_claims s store entry here h r type.pointer made node.alone node.known node.nowhere node.kept (λ own. range_of_one own.value) node.ranged (own_between (λ k. constant_form (pos 1))) x (pos 0) node.behind node.some node.quiet small
      (subst (λ (o : Option CType). IfSome o (λ u. IsNumberOf u (pos 0))) (sym node.needs) tt)
      (λ own v fits at number. own_range s store r x (pos 0) (pos 1) (inr (record {
        from = m;
        upto = m + size_of s.text.layout t;
        range = refl;
        low_is = refl;
        high_is = ap (λ u. pos (m + size_of s.text.layout u)) (sym type.element) ∙ sym (one_behind m (size_of s.text.layout (element_of r)));
        true_there = subst (λ u. is_true store.shapes store.blocks (record { element = u; size = size_of s.text.layout u; terminated = is_terminated_kind (kind_of r) }) m m (m + size_of s.text.layout t) ≡ true) (sym type.element)
            (subst (λ q. is_true store.shapes store.blocks (record { element = t; size = size_of s.text.layout t; terminated = q }) m m (m + size_of s.text.layout t) ≡ true) (sym type.bare) true_there);
      })) None (λ k. constant_form (pos 1)) (constant_counts s store.locals None (pos 0) (pos 1)) own v fits at tt)
      (λ ones one. absurd (type.several one))
    where
      x : Value
      x = record { number = m; range = Within m (m + size_of s.text.layout t) }

  -- `&p->m` and `&x.m`
  pub member_claims : (u : CType) (n : Name) (c : IsScalarMember s u t n) → is_run (members_of s.text.layout c.tag) c.member ≡ true → (q : Place) → IsStructurePlace store u q
      → IsNotStuck (NodeClaims s store entry here h r made) (evaluated store (address_at s.text.layout t (member_place s.text.layout (tag_of u) n q)))
  member_claims u n c free q place =
      member_address store s.text.layout u q place (tag_of u) n (NodeClaims s store entry here h r made) t
      (λ a w. subst (λ o. IsNotStuck (NodeClaims s store entry here h r made) (spanned (place_in a o) (size_of s.text.layout t))) (sym (offset_is s store next ready u t n c free a w.0 w.1))
      (subst (λ m. IsNotStuck (NodeClaims s store entry here h r made) (spanned m (size_of s.text.layout t))) (sym (member_at s store next ready u t n c free a w.0 w.1))
      (one_claims (a + offset_of s.text.layout c.tag c.member.name) (member_small s store next ready u t n c free a w.0 w.1) (member_true s store next ready u t n c free a w.0 w.1))))

  -- `&x` of a static object
  pub object_claims : (k : ℕ) → IsFreeObject s t k → IsNotStuck (NodeClaims s store entry here h r made) (spanned (place_in (address_of s.text k) 0) (size_of s.text.layout t))
  object_claims k c =
      subst (λ m. IsNotStuck (NodeClaims s store entry here h r made) (spanned m (size_of s.text.layout t))) (sym at)
      (one_claims (address_of s.text k) small (subst (IsTrueOne s store next ready t) base_is (subst (λ u. IsTrueOne s store next ready u b.base) element_is
      (first_true s store next ready k b block.1 (ap (λ (x : Block). x.is_run) block.2) (ap (λ (x : Block). x.terminated) block.2 ∙ c.plain) count))))
    where
      block : (b : Block) × (slice_get store.blocks k ≡ Some b) × (b ≡ record (block_of (object_elaborated s.text.layout (Some true) c.object)) { bytes = b.bytes })
      block = object_at (objects_elaborated s.text) store.blocks ready.sound.memory.objects k (object_elaborated s.text.layout (Some true) c.object) c.free

      b : Block
      b = block.0

      base_is : b.base ≡ address_of s.text k
      base_is = ap (λ (x : Block). x.base) block.2 ∙ sym (ap address_in c.there)

      element_is : b.element ≡ t
      element_is = ap (λ (x : Block). x.element) block.2 ∙ c.element

      count : 0 < b.count
      count = subst (λ n. 0 < n) (sym (ap (λ (x : Block). x.count) block.2)) c.some

      placed : IsPlaced s.text b
      placed = placed_at s.text store.blocks ready.sound.memory.placed k b block.1

      small : address_of s.text k < 2 ^ 32
      small = subst (λ n. n < 2 ^ 32) base_is (let below = placed.below in omega arith)

      at : place_in (address_of s.text k) 0 ≡ address_of s.text k
      at = mod-eq_of_lt (none (address_of s.text k) small) ∙ nothing (address_of s.text k)
        where
          none : (n : ℕ) → n < 2 ^ 32 → n + 0 < 2 ^ 32
          none n h = omega arith

          nothing : (n : ℕ) → n + 0 ≡ n
          nothing n = omega arith

-- The pointers in an element may be read after assignments to its members.
use Rattle.std.proofs.Common.{◌≡◌, ◌≢◌, ◌⊎◌, ⊎_elim, inl, inr, ℕ, ◌+◌, ◌*◌, ◌==◌, refl, sym, ◌∙◌, ap, subst, List, ℤ, ◌+ℤ◌, arith}
use Rattle.std.specs.Prelude.{Bool, true, false, pos, Option, None, Some, Ok, IsOk}
use Rattle.std.specs.List.{Contains, flat_map}
use Rattle.std.proofs.lemmas.Bool.{and_parts, eq-eqb, eqb-true}
use Rattle.std.proofs.lemmas.List.Elements.{All-contains}
use Rattle.ckc_base.specs.declared.arithmetic.Width.{Width}
use Rattle.ckc_base.specs.declared.arithmetic.Width.TheVariants.{Word}
use Rattle.ckc_base.specs.Memory.{kept_part}
use Rattle.ckc_types.specs.declared.types.CType.{CType}
use Rattle.ckc_types.specs.declared.types.Kind.{Kind}
use Rattle.ckc_types.specs.declared.types.Kind.TheVariants as kind
use Rattle.ckc_types.specs.declared.types.MemberBounds.{MemberBounds}
use Rattle.ckc_types.specs.declared.types.MemberBounds.TheVariants as written
use Rattle.ckc_types.specs.declared.types.MemberShape.{MemberShape}
use Rattle.ckc_types.specs.declared.types.Structs.{Structs}
use Rattle.ckc_types.specs.Layout.{members_of}
use Rattle.ckc_syntax.specs.declared.tree.Name.TheVariants as name
use Rattle.ckc_typed.specs.Types.{kind_of}
use Rattle.ckc_bounds.specs.ckc_bounds_points.specs.declared.frame.Bounds.{Bounds}
use Rattle.ckc_bounds.specs.ckc_bounds_points.specs.declared.frame.Bounds.TheVariants as bounds
use Rattle.ckc_bounds.specs.ckc_bounds_points.specs.Flow.{State}
use Rattle.ckc_bounds.specs.ckc_bounds_declared.specs.Written.{is_integer_member}
use Rattle.ckc_bounds.specs.ckc_bounds_ranges.specs.Members.{names_member, is_target, is_covered, is_touched}
use Rattle.ckc_bounds.specs.ckc_bounds_views.specs.Fresh.{shape_of, bounds_of_shape, member_bounds}
use Rattle.ckc_bounds.specs.ckc_bounds_views.specs.Views.{view}
use Rattle.ckc_bounds.specs.ckc_bounds_stores.specs.Targets.{member_variable, memory_bounds, bounds_by, bounds_by_member}
use Rattle.ckc_bounds.specs.ckc_bounds_stores.specs.Stores.{Placed, members_assigned, stored_placed}
use Rattle.ckc_source.specs.declared.expr.Count.{Count}
use Rattle.ckc_source.specs.declared.expr.Count.TheVariants as count
use Rattle.ckc_source.specs.declared.outcome.Place.TheVariants as place
use Rattle.ckc_source.specs.declared.program.Shape.{Shape}
use Rattle.ckc_source.specs.Blocks.{Block, loaded}
use Rattle.ckc_source.specs.Eval.{Store, given_some, place_in, counted, reads}
use Rattle.ckc_source.specs.States as states
use Rattle.ckc_source.specs.Steps.{Write, all_written}
use Rattle.ckc_source.specs.Words as words
use Rattle.ckc_build_values.specs.Kinds.{integer_of, width_of, pointee_of, count_of_kind}
use Rattle.ckc_build_values.specs.Members.{offset_of, count_by, integer_in_member, member_named}
use Rattle.ckc_blame_sound.specs.Settings.{Setting}
use Rattle.ckc_blame_sound.specs.Slots.{Slot, slots_in, slots_of, slot_of_member, IsFilled}
use Rattle.ckc_blame_sound.specs.Valuations.{Valuation, AreFacts}
use Rattle.ckc_blame_sound.specs.Cells.{AreSound, HaveOwnNames, IsPartIn}
use Rattle.ckc_blame_sound.specs.Limited.{AreSlotParts, IsSlotPart, IsCountPart, IsCountSpared, IsSpared, store_with}
use Rattle.ckc_blame_sound.specs.Writes.{AreCellWrites, AreElsewhere}
use Rattle.ckc_blame_sound.proofs.Filled.{filled_by}
use Rattle.ckc_blame_sound.proofs.Objects.{element_at}
use Rattle.ckc_blame_sound.proofs.Ranges.{contains_at}
use Rattle.ckc_blame_sound.specs.Containment.{IsReadBetween}
use Rattle.ckc_blame_sound.specs.GivenValues.{memory_of}
use Rattle.ckc_blame_sound.specs.Memory.{IsCountedBy}
use Rattle.ckc_blame_sound.specs.Elements.{NameIntegerMembers, IsStructure, AreTargetsWritten, AreWrittenOnce}
use Rattle.ckc_blame_sound.proofs.Tests.{left_of, right_of}
use Rattle.ckc_blame_sound.proofs.Faults.{good}
use Rattle.ckc_blame_sound.proofs.Memory.{memory_read, member_counted}
use Rattle.ckc_blame_sound.proofs.ContainedMembers.{assigned_covered}
use Rattle.ckc_blame_sound.proofs.Targets.{IsFound, targets_given, target_found, targets_elsewhere}
use Rattle.ckc_blame_sound.proofs.Shapes.{HasMember, member_there, named_there, same_member, found_shape, found_member, IsSlotOf, member_slots, HasOwnBounds, counted_bounds, integer_width}
use Rattle.ckc_blame_sound.proofs.Placed.{member_part, members_differ, keeps, count_there, member_read}

cancel : (n a b : ℕ) → n + a ≡ n + b → a ≡ b
cancel n a b e = omega arith

covered_itself : (targets : List ℕ) (m : MemberShape) (b : MemberBounds) → is_covered targets m b ≡ true → is_target targets m.name ≡ true
covered_itself targets m written.Nothing e = e
covered_itself targets m written.Unknown e = e
covered_itself targets m written.NoForm e = e
covered_itself targets m (written.Fixed c) e = e
covered_itself targets m (written.Named k c) e = (and_parts (is_target targets m.name) (is_target targets k) e).0

module _ (s : Setting) (same_structs : s.frame.structs ≡ s.text.layout) (own : HaveOwnNames s.text.layout) (names : NameIntegerMembers s.text.layout) (parts : AreSlotParts s.text)
    (next : ℕ) (ws : List Write) (before after : states.State) (sound : AreSound s.text before.blocks next) (cells : AreCellWrites s.text.layout before.blocks ws)
    (done : all_written ws before ≡ Ok after) (number i tag : ℕ) (b : Block) (structure : IsStructure before.blocks number i tag b) (shapes : List Shape) (locals : List ℕ)
    (v w : Valuation) (zero_is : v.number 0 ≡ pos 0) (zero_too : w.number 0 ≡ pos 0) (at : State) (known : AreFacts v at.facts) (ps : List Placed)
    (seen : List ℕ) (result : Bounds) (there : State) (stored : stored_placed s.frame result seen ps at ≡ Ok there)
    (are : AreTargetsWritten s (store_with shapes after.blocks locals) v w at tag (b.base + i * b.size) ps ws) (once : AreWrittenOnce ws) where
  abbrev begin : ℕ
  begin = b.base + i * b.size

  abbrev layout : Structs
  layout = s.text.layout

  abbrev store : Store
  store = store_with shapes after.blocks locals

  abbrev targets : List ℕ
  targets = members_assigned s.frame ps

  abbrev Found : ℕ → Type 0
  Found j = IsFound s store v w at tag begin ps ws j

  find_target : (j : ℕ) → is_target targets j ≡ true → Found j
  find_target j e = target_found s store v w at tag begin ps ws are once j e

  -- ---- what is read of a target

  same_shape : (j : ℕ) (h : HasMember layout tag j) (f : Found j) → f.written.shape ≡ h.shape
  same_shape j h f =
      let g = member_there layout own tag f.written.shape f.written.there in
      same_member layout own tag g.front h.front f.written.shape h.shape g.stands h.stands (f.written.named ∙ f.named ∙ sym h.named)

  read_at : (j : ℕ) (h : HasMember layout tag j) (f : Found j) (width : Width) → width ≡ width_of h.shape.ctype
      → loaded width (place_in begin (offset_of layout tag j)) after.blocks ≡ Some (kept_part width f.to.1)
  read_at j h f width e =
      member_read s own next ws before after sound cells done number i tag b structure shapes locals j h width
      (member_part s own next before.blocks sound number i tag b structure j h width e) f.front f.to f.back f.written.zero_alone f.split
      (f.written.goes
      ∙ ap (λ k. place.Memory (begin + offset_of layout tag k) (width_of f.written.shape.ctype) f.written.zero_alone) f.named
      ∙ ap (λ u. place.Memory (begin + offset_of layout tag j) u f.written.zero_alone) (ap (λ (m : MemberShape). width_of m.ctype) (same_shape j h f) ∙ sym e))
      f.last

  -- the address of a pointer is its own value
  abbrev own_value : ℕ → Valuation
  own_value n = record w { address = λ a. pos n }

  abbrev HasCount : ℕ → MemberBounds → Count → Type 0
  HasCount n bn many = (z : ℤ) × (counted store begin many ≡ Ok z) × IsCountedBy (own_value n) bn many z

  -- the number of elements that bounds say, if the member that they name is a target too
  count_after : (n : ℕ) (t : CType) (bn : MemberBounds) (many : Count) → count_by layout tag t bn ≡ Some many
      → ((j : ℕ) (c : ℤ) → bn ≡ written.Named j c → (is_integer_member layout tag j ≡ true) × (is_target targets j ≡ true)) → HasCount n bn many
  count_after n t written.Nothing many e k = by (kind_of t) e
    where
      by : (o : Option Kind) → count_of_kind o ≡ Some many → HasCount n written.Nothing many
      by (Some kind.One) f = let same : count.Fixed (pos 1) ≡ many = cc in subst (HasCount n written.Nothing) same (pos 1, refl, refl)
      by (Some kind.Nt) f = let same : count.Fixed (pos 0) ≡ many = cc in subst (HasCount n written.Nothing) same (pos 0, refl, refl)
      by (Some kind.Arr) f = absurd cc
      by (Some kind.Raw) f = absurd cc
      by None f = absurd cc
  count_after n t written.Unknown many e k = absurd cc
  count_after n t written.NoForm many e k = absurd cc
  count_after n t (written.Fixed c) many e k = let same : count.Fixed c ≡ many = cc in subst (HasCount n (written.Fixed c)) same (c, refl, refl)
  count_after n t (written.Named j c) many e k =
      let h = named_there layout own tag j (k j c refl).0 in
      let f = find_target j (k j c refl).1 in
      let form = integer_in_member (member_named layout tag (name.Member j)) in
      let form_is : form ≡ integer_of h.shape.ctype = ap integer_in_member (found_member layout tag h.front h.shape h.stands j h.named) in
      let wide : words.width_of form ≡ width_of h.shape.ctype = ap words.width_of form_is ∙ integer_width h.shape.ctype in
      let read = read_at j h f (words.width_of form) wide in
      let is : w.number (member_variable j) ≡ words.exact form (kept_part (words.width_of form) f.to.1) =
      sym (ap (λ x. w.number (member_variable x)) f.named) ∙ f.written.number
      ∙ ap (λ (m : MemberShape). words.exact (integer_of m.ctype) (kept_part (width_of m.ctype) f.to.1)) (same_shape j h f)
      ∙ ap (λ x. words.exact x (kept_part (width_of h.shape.ctype) f.to.1)) (sym form_is)
      ∙ ap (λ u. words.exact form (kept_part u f.to.1)) (sym wide) in
      let same : count.Member (offset_of layout tag j) form c ≡ many = cc in
      subst (HasCount n (written.Named j c)) same
      (words.exact form (kept_part (words.width_of form) f.to.1) +ℤ c, ap (λ o. given_some o (λ m. Ok (words.exact form m +ℤ c))) read, ap (λ x. x +ℤ c) (sym is))

  -- ---- a slot

  abbrev OneSlot : Slot → Type 0
  OneSlot slot = IsSlotOf layout tag (members_of layout tag) slot

  module _ (slot : Slot) (h : OneSlot slot) (part : IsSlotPart layout b.element slot) where
    abbrev it : HasMember layout tag h.shape.name
    it = member_there layout own tag h.shape h.there

    -- a slot is a pointer
    word_wide : Word ≡ width_of h.shape.ctype
    word_wide =
        let q = subst (λ f. IsPartIn layout b.element f slot.offset Word) structure.form part.pointer in
        let other : HasMember layout tag q.member.name = record { shape = q.member; front = q.front; stands = q.stands; named = refl } in
        let lies : offset_of layout tag q.member.name ≡ offset_of layout tag h.shape.name = sym q.there ∙ ap (λ (x : Slot). x.offset) h.is in
        by q.member.name other lies q.wide (q.member.name == h.shape.name) refl
      where
        by : (j : ℕ) (g : HasMember layout tag j) → offset_of layout tag j ≡ offset_of layout tag h.shape.name → Word ≡ width_of g.shape.ctype
            → (c : Bool) → (j == h.shape.name) ≡ c → Word ≡ width_of h.shape.ctype
        by j g lies wide true e =
            let same = same_member layout own tag g.front it.front g.shape h.shape g.stands it.stands (g.named ∙ eqb-true j h.shape.name e) in
            wide ∙ ap (λ (m : MemberShape). width_of m.ctype) same
        by j g lies wide false e =
            let new : j ≢ h.shape.name = λ is. (let no : (j == h.shape.name) ≡ true = eq-eqb j h.shape.name is in absurd cc) in
            absurd (members_differ s own next before.blocks sound number i tag b structure j h.shape.name g it new lies)

    -- an assignment to it
    type_is : (f : Found h.shape.name) → f.assignment.target.note.ctype ≡ h.shape.ctype
    type_is f = f.written.same ∙ ap (λ (m : MemberShape). m.ctype) (same_shape h.shape.name it f)

    -- the bounds of an assignment to it
    bounds_known : (f : Found h.shape.name) → (o : HasOwnBounds (bounds_by_member h.shape.ctype h.shape.bounds)) → memory_bounds s.frame f.assignment.target ≡ bounds.Known o.low o.high
    bounds_known f o =
        let e = f.assignment.target in
        let there : member_bounds s.frame.structs f.member ≡ h.shape.bounds =
        ap (λ structs. member_bounds structs f.member) same_structs
        ∙ ap (λ k. bounds_of_shape (shape_of layout k f.member.number)) f.written.tagged
        ∙ ap bounds_of_shape (found_shape layout tag it.front h.shape it.stands f.member.number (sym f.named)) in
        ap (bounds_by s.frame e) f.is
        ∙ ap (bounds_by_member e.note.ctype) there
        ∙ ap (λ t. bounds_by_member t h.shape.bounds) (type_is f)
        ∙ o.known

    -- where a pointer n with its count may be read within its bounds, it is in the slot
    slot_filled : (n : ℕ) (z : ℤ) → loaded Word (place_in begin (offset_of layout tag h.shape.name)) after.blocks ≡ Some n → counted store begin h.many ≡ Ok z
        → IsOk (reads shapes after.blocks (pointee_of layout h.shape.ctype) n (pos n) (words.elements_behind n (pointee_of layout h.shape.ctype).size z))
        → IsFilled store begin slot
    slot_filled n z read counts ok =
        subst (IsFilled store begin) (sym h.is)
        (filled_by store (record { offset = offset_of layout tag h.shape.name; to = pointee_of layout h.shape.ctype; count = h.many }) begin n z read counts ok)

    -- a pointer that is assigned with the member that its bounds name
    covered_filled : is_covered targets h.shape h.shape.bounds ≡ true → IsFilled store begin slot
    covered_filled covered =
        let f = find_target h.shape.name (covered_itself targets h.shape h.shape.bounds covered) in
        let o = counted_bounds layout tag h.shape.ctype h.shape.bounds h.many h.counts in
        let is = bounds_known f o in
        let n = f.to.1 in
        let from = f.written.pointer o.low o.high is in
        let given = targets_given s store v w at tag begin n ps ws are in
        let placed = (keeps s own next ws before after sound cells done number i tag b structure shapes locals).sound.memory.placed in
        let fine = (good s.frame result seen ps at there stored).targets f.assignment (contains_at ps f.index f.assignment f.there) in
        let read = memory_read s store v (own_value n) at ps f.assignment n o.low o.high zero_is zero_too refl known placed from given o.own result f.written.local is fine in
        let z = count_after n h.shape.ctype h.shape.bounds h.many h.counts (λ j c e. (
          names tag j c h.shape h.there e,
          (and_parts (is_target targets h.shape.name) (is_target targets j) (sym (ap (is_covered targets h.shape) e) ∙ covered)).1,
        )) in
        slot_filled n z.0 (read_at h.shape.name it f Word word_wide) z.1
        (member_counted layout tag h.shape.ctype (memory_of s store h.shape.ctype) (own_value n) n zero_too refl h.shape.bounds h.many z.0 o.low o.high o.known h.counts z.2
        (subst (λ t. IsReadBetween (memory_of s store t) (own_value n) n o.low o.high) (type_is f) read))

    -- a pointer that gets null
    null_filled : (f : Found h.shape.name) → (view s.frame f.assignment.right).null ≡ true → IsFilled store begin slot
    null_filled f null =
        let o = counted_bounds layout tag h.shape.ctype h.shape.bounds h.many h.counts in
        let zero : f.to.1 ≡ 0 = (f.written.pointer o.low o.high (bounds_known f o)).value.null null in
        let z = count_there s own next ws before after sound cells done number i tag b structure shapes locals h.many
        (subst (λ (x : Slot). IsCountPart layout b.element x.count) h.is part.counted) in
        slot_filled 0 z.0 (read_at h.shape.name it f Word word_wide ∙ ap (λ n. Some n) zero) z.1 refl

  -- ---- which members are touched

  -- a member that a target touches
  touched_covered : (j : ℕ) (f : Found j) (shape : MemberShape) → Contains (members_of layout tag) shape → is_touched f.member.number shape ≡ true
      → (is_covered targets shape shape.bounds ≡ true) ⊎ ((shape.name ≡ f.member.number) × ((view s.frame f.assignment.right).null ≡ true))
  touched_covered j f shape c touched =
      let among = contains_at ps f.index f.assignment f.there in
      assigned_covered s.frame result ps at f.assignment f.member shape among f.written.local f.is ((good s.frame result seen ps at there stored).targets f.assignment among)
      (subst (λ (structs : Structs). Contains (members_of structs f.member.tag) shape) (sym same_structs) (subst (λ k. Contains (members_of layout k) shape) (sym f.written.tagged) c)) touched

  -- nothing is written to a member that is no target
  member_spared : (j : ℕ) → HasMember layout tag j → is_target targets j ≡ false → AreElsewhere (begin + offset_of layout tag j) ws
  member_spared j h new =
      targets_elsewhere s store v w at tag begin ps ws are (begin + offset_of layout tag j)
      (λ shape c t same.
      members_differ s own next before.blocks sound number i tag b structure shape.name j (member_there layout own tag shape c) h
      (λ e. (let no : true ≡ false = sym t ∙ ap (is_target targets) e ∙ new in absurd cc))
      (cancel begin (offset_of layout tag shape.name) (offset_of layout tag j) same))

  -- nothing is written to what the bounds of a member read that is no target
  count_spared : (shape : MemberShape) → Contains (members_of layout tag) shape → is_target targets shape.name ≡ false → (bn : MemberBounds) → shape.bounds ≡ bn → (many : Count)
      → count_by layout tag shape.ctype bn ≡ Some many → IsCountSpared ws begin many
  count_spared shape c new written.Nothing is many e = by (kind_of shape.ctype) e
    where
      by : (o : Option Kind) → count_of_kind o ≡ Some many → IsCountSpared ws begin many
      by (Some kind.One) f = let same : count.Fixed (pos 1) ≡ many = cc in subst (IsCountSpared ws begin) same tt
      by (Some kind.Nt) f = let same : count.Fixed (pos 0) ≡ many = cc in subst (IsCountSpared ws begin) same tt
      by (Some kind.Arr) f = absurd cc
      by (Some kind.Raw) f = absurd cc
      by None f = absurd cc
  count_spared shape c new written.Unknown is many e = absurd cc
  count_spared shape c new written.NoForm is many e = absurd cc
  count_spared shape c new (written.Fixed k) is many e = let same : count.Fixed k ≡ many = cc in subst (IsCountSpared ws begin) same tt
  count_spared shape c new (written.Named j k) is many e =
      let same : count.Member (offset_of layout tag j) (integer_in_member (member_named layout tag (name.Member j))) k ≡ many = cc in
      subst (IsCountSpared ws begin) same (member_spared j (named_there layout own tag j (names tag j k shape c is)) (by (is_target targets j) refl))
    where
      by : (a : Bool) → is_target targets j ≡ a → a ≡ false
      by false t = refl
      by true t =
          let f = find_target j t in
          let touched = right_of (shape.name == f.member.number) (names_member f.member.number shape.bounds)
          (ap (names_member f.member.number) is ∙ eq-eqb j f.member.number (sym f.named)) in
          ⊎_elim
          (λ covered. (let no : true ≡ false = sym (covered_itself targets shape shape.bounds covered) ∙ new in absurd cc))
          (λ n. (let no : true ≡ false = sym t ∙ ap (is_target targets) (sym f.named ∙ sym n.0) ∙ new in absurd cc))
          (touched_covered j f shape c touched)

  -- ---- the slots of the element

  one_slot : (slot : Slot) → Contains (slots_of s.text number b.element) slot → OneSlot slot
  one_slot slot c =
      All-contains OneSlot (flat_map (slot_of_member layout tag) (members_of layout tag)) slot (member_slots layout tag (members_of layout tag))
      (subst (λ f. Contains (slots_in s.text number b.element f) slot) structure.form c)

  pub slot_stays : (slot : Slot) → Contains (slots_of s.text number b.element) slot → IsSpared ws begin slot ⊎ IsFilled store begin slot
  slot_stays slot c =
      let h = one_slot slot c in
      let part = parts number b.element slot (element_at s.text before.blocks sound.memory.objects number b structure.there) c in
      by h part (is_target targets h.shape.name) refl
    where
      by : (h : OneSlot slot) → IsSlotPart layout b.element slot → (a : Bool) → is_target targets h.shape.name ≡ a → IsSpared ws begin slot ⊎ IsFilled store begin slot
      by h part true t =
          let f = find_target h.shape.name t in
          let touched = left_of (h.shape.name == f.member.number) (names_member f.member.number h.shape.bounds) (eq-eqb h.shape.name f.member.number (sym f.named)) in
          ⊎_elim (λ covered. inr (covered_filled slot h part covered)) (λ n. inr (null_filled slot h part f n.1)) (touched_covered h.shape.name f h.shape h.there touched)
      by h part false t =
          inl (subst (IsSpared ws begin) (sym h.is) (record {
            pointer = member_spared h.shape.name (member_there layout own tag h.shape h.there) t;
            counted = count_spared h.shape h.there t h.shape.bounds refl h.many h.counts;
          }))

-- The pointers in memory may be read after planned writes.
use Rattle.std.proofs.Common.{◌≡◌, ⊎_elim, inl, inr, refl, sym, ap, subst, ◌∙◌, ℕ, ◌+◌, ◌*◌, List, [], ◌∷◌, ◌++◌, length, arith}
use Rattle.std.specs.Prelude.{false, ◌<◌, pos, slice_get, Option, None, Some, Ok, IsSome}
use Rattle.std.specs.List.{Contains}
use Rattle.std.proofs.Math.Nat.{mul_comm}
use Rattle.ckc_types.specs.declared.types.CType.{CType-F, out-CType}
use Rattle.ckc_syntax.specs.declared.tree.Name.{Name}
use Rattle.ckc_syntax.specs.declared.tree.Node.{Node-F, out-Node}
use Rattle.ckc_typed.specs.declared.typed.Note.{Note}
use Rattle.ckc_typed.specs.declared.typed.Typed.{Typed}
use Rattle.ckc_typed.specs.Trees.{NotedLayer}
use Rattle.ckc_blame_sound.specs.ckc_bounds_points.specs.declared.frame.Bounds.{Bounds}
use Rattle.ckc_blame_sound.specs.ckc_bounds_points.specs.Flow.{State}
use Rattle.ckc_blame_sound.specs.ckc_bounds_views.specs.declared.variables.Member.{Member}
use Rattle.ckc_blame_sound.specs.ckc_bounds_views.specs.Views.{view}
use Rattle.ckc_blame_sound.specs.ckc_bounds_ranges.specs.Members.{is_target}
use Rattle.ckc_blame_sound.specs.ckc_bounds_stores.specs.Stores.{Placed, stored_placed, members_assigned}
use Rattle.ckc_types.specs.Layout.{members_of}
use Rattle.ckc_blame_sound.specs.ckc_bounds_stores.specs.Targets.{local_in, local_of}
use Rattle.ckc_source.specs.declared.expr.Count.{Count}
use Rattle.ckc_source.specs.declared.expr.Count.TheVariants as count
use Rattle.ckc_source.specs.declared.outcome.Place.{Place}
use Rattle.ckc_source.specs.declared.outcome.Place.TheVariants as place
use Rattle.ckc_source.specs.Blocks.{Block}
use Rattle.ckc_source.specs.Eval.{Store}
use Rattle.ckc_source.specs.Runs.{is_true}
use Rattle.ckc_source.specs.States as states
use Rattle.ckc_source.specs.Steps.{Write, all_written}
use Rattle.ckc_build_values.specs.Kinds.{width_of, pointee_of}
use Rattle.ckc_build_values.specs.Members.{offset_of}
use Rattle.ckc_blame_sound.specs.Settings.{Setting}
use Rattle.ckc_blame_sound.specs.Slots.{AreFilled}
use Rattle.ckc_blame_sound.specs.Cells.{AreSound, HaveOwnNames}
use Rattle.ckc_blame_sound.specs.Limited.{AreSlotParts, IsCountSpared, store_with}
use Rattle.ckc_blame_sound.specs.Writes.{AreCellWrites, IsCellWrite, AreElsewhere, IsElsewhere}
use Rattle.ckc_blame_sound.proofs.Apart.{AreLaid, behind, placed_at, three}
use Rattle.ckc_blame_sound.proofs.Filled.{filled_after}
use Rattle.ckc_blame_sound.proofs.Fresh.{get_before}
use Rattle.ckc_blame_sound.proofs.Places.{element_between}
use Rattle.ckc_blame_sound.proofs.Written.{KeepsAll, all_keep, laid}
use Rattle.ckc_blame_sound.specs.Elements.{IsStructure, NameIntegerMembers}
use Rattle.ckc_blame_sound.specs.GivenValues.{memory_of, IsFrom}
use Rattle.ckc_blame_sound.specs.Valuations.{Valuation, AreFacts}
use Rattle.ckc_blame_sound.proofs.Alone.{element_filled}
use Rattle.ckc_blame_sound.proofs.Spared.{members_filled}
use Rattle.ckc_blame_given.specs.Planned.{IsPartTarget, IsMemberTarget, IsMemoryTarget, IsTarget, IsLocalTarget, IsPlanned, ArePlanned}
use Rattle.ckc_blame_given.specs.Targets.{begin_in, begin_of, LiesIn}
use Rattle.ckc_blame_given.specs.Together.{HaveSmallNames, AreMembersAt, AreLocals, AreTogether, AreIn}
use Rattle.ckc_blame_given.proofs.Kept.{from_kept}
use Rattle.ckc_blame_given.proofs.Later.{written_later}
use Rattle.ckc_blame_given.proofs.Members.{IsOf, AreOf, number_after, zero_after, are_written, are_once}
use Rattle.ckc_blame_given.proofs.Runs.{run_filled}

-- ---- elements of blocks

-- elements that begin at one address lie in one block
one_block : (p : Typed) (bs : List Block) → AreLaid p bs → (k j i i2 : ℕ) (b c : Block) → slice_get bs k ≡ Some b → slice_get bs j ≡ Some c → i < b.count → i2 < c.count
    → b.base + i * b.size ≡ c.base + i2 * c.size → b ≡ c
one_block p bs laid k j i i2 b c e f h l same =
    let x = placed_at p bs laid.placed k b e in
    let y = placed_at p bs laid.placed j c f in
    let x1 = x.sized in
    let y1 = y.sized in
    let x2 = x.whole in
    let y2 = y.whole in
    let x3 = element_between b.size i b.count h in
    let y3 = element_between c.size i2 c.count l in
    let x4 = mul_comm b.size b.count in
    let y4 = mul_comm c.size c.count in
    ⊎_elim
    (λ less. let room = behind laid.low bs laid.place k j b c laid.apart e f less in absurd (omega arith))
    (λ m. ⊎_elim
    (λ even. let again : Some b ≡ Some c = sym e ∙ ap (slice_get bs) even ∙ f in cc)
    (λ less. let room = behind laid.low bs laid.place j k c b laid.apart f e less in absurd (omega arith))
    m)
    (three k j)

-- ---- targets

-- what lies in a structure that is known is no local
begin_local : (text : Typed) (locals : List ℕ) (x : NotedLayer) (b : ℕ) → begin_in text locals x ≡ Some b → local_in x ≡ None
begin_local text locals (Node-F.Arrow e n at) b h = refl
begin_local text locals (Node-F.Dot e n at) b h = refl
begin_local text locals x b h = absurd (cc)

cancel_right : (a b o : ℕ) → a + o ≡ b + o → a ≡ b
cancel_right a b o e = omega arith

module _ (s : Setting) (same_structs : s.frame.structs ≡ s.text.layout) (own : HaveOwnNames s.text.layout) (names : NameIntegerMembers s.text.layout) (little : HaveSmallNames s.text.layout) (parts : AreSlotParts s.text)
    (next : ℕ) (before after : Store) (more : List Block) (state done : states.State) (sound : AreSound s.text state.blocks next) (same : state.blocks ≡ after.blocks) (kept : after.blocks ≡ before.blocks ++ more)
    (v : Valuation) (zero_is : v.number 0 ≡ pos 0) (at : State) (known : AreFacts v at.facts) (result : Bounds) (seen : List ℕ) (locals : List ℕ) where
  more_there : state.blocks ≡ before.blocks ++ more
  more_there = same ∙ kept

  -- ---- what is written is a number of an element

  cell_there : (to : Place) (n : ℕ) → IsCellWrite s.text.layout before.blocks to n → IsCellWrite s.text.layout state.blocks to n
  cell_there to n h = subst (λ bs. IsCellWrite s.text.layout bs to n) (sym more_there) (written_later s.text.layout before.blocks more to n h)

  pub cells_there : (ps : List Placed) (ws : List Write) → ArePlanned s before after v at ps ws → AreCellWrites s.text.layout state.blocks ws
  unfolding ArePlanned AreCellWrites
  cells_there [] [] h = tt
  cells_there [] (w ∷ ws) h = absurd h
  cells_there (p ∷ ps) [] h = absurd h
  cells_there (p ∷ ps) (w ∷ ws) h = (cell_there w.0 w.1 h.0.written, cells_there ps ws h.1)

  -- ---- a target in memory

  memory_target : (p : Placed) (to : Write) → IsPlanned s before after v at p to → local_of p.target ≡ None → IsMemoryTarget s before p to.0
  memory_target p to h none = subst (λ o. IsTarget s before p o to.0) none h.target

  there_too : (p : Placed) (to : Place) (t : IsMemoryTarget s before p to) → slice_get state.blocks t.number ≡ Some t.block
  there_too p to t = subst (λ bs. slice_get bs t.number ≡ Some t.block) (sym more_there) (get_before before.blocks more t.number t.block t.there)

  as_member : (p : Placed) (to : Place) (t : IsMemoryTarget s before p to) (m : Member) → (view s.frame p.target).member ≡ Some m → IsMemberTarget s p t.block (t.block.base + t.index * t.block.size) m to
  as_member p to t m is = subst (IsPartTarget s p t.number t.block (t.block.base + t.index * t.block.size) to) is t.part

  module _ (ps : List Placed) (ws : List Write) (written : all_written ws state ≡ Ok done) (cells : AreCellWrites s.text.layout state.blocks ws) where
    keeps : KeepsAll s.text next ws state done
    keeps = all_keep s.text next ws state done sound cells written

    abbrev end_store : Store
    end_store = store_with after.shapes done.blocks locals

    from_there : (p : Placed) (n : ℕ) → IsFrom s.frame (memory_of s after p.target.note.ctype) v p.target.note.ctype p.right p.from at n
        → IsFrom s.frame (memory_of s end_store p.target.note.ctype) v p.target.note.ctype p.right p.from at n
    from_there p n h =
        from_kept after.shapes after.blocks done.blocks (λ to i low high. keeps.truths after.shapes to i low high ∙ ap (λ bs. is_true after.shapes bs to i low high) same) s.frame (pointee_of s.text.layout p.target.note.ctype) v n
        p.target.note.ctype p.right p.from at h

    -- ---- members of one structure

    module _ (number i tag : ℕ) (b : Block) (structure : IsStructure state.blocks number i tag b) where
      abbrev begin : ℕ
      begin = b.base + i * b.size

      -- a member that begins where the structure does
      one_of_it : (p : Placed) (rest : List Placed) (to : Write) → IsPlanned s before after v at p to → (none : local_of p.target ≡ None) (m : Member) → (view s.frame p.target).member ≡ Some m
          → (t : IsMemoryTarget s before p to.0) → t.block.base + t.index * t.block.size ≡ begin
          → is_target (members_assigned s.frame rest) m.number ≡ false → IsOf s end_store v at tag begin p rest to
      one_of_it p rest to h none m is t first new =
          let q = as_member p to.0 t m is in
          let one : t.block ≡ b =
          one_block s.text state.blocks (laid s.text state.blocks next sound) t.number number t.index i t.block b (there_too p to.0 t) structure.there t.below structure.below first in
          let again : CType-F.Struct m.tag ≡ CType-F.Struct tag = sym q.form ∙ ap (λ (c : Block). out-CType c.element) one ∙ structure.form in
          let tagged : m.tag ≡ tag = cc in
          record {
            member = m;
            is = is;
            local = none;
            tagged = tagged;
            shape = q.shape;
            there = subst (λ k. Contains (members_of s.text.layout k) q.shape) tagged q.there;
            named = q.named;
            same = q.same;
            zero_alone = q.zero_alone;
            goes = q.goes ∙ ap (λ x. place.Memory (x + offset_of s.text.layout m.tag m.number) (width_of q.shape.ctype) q.zero_alone) first
                ∙ ap (λ k. place.Memory (begin + offset_of s.text.layout k m.number) (width_of q.shape.ctype) q.zero_alone) tagged;
            form = h.form;
            from = from_there p to.1 h.from;
            new = new;
          }

      filled_members : AreOf s end_store v at tag begin ps ws → (there : State) → stored_placed s.frame result seen ps at ≡ Ok there → (old : List ℕ) → AreFilled s.text (store_with after.shapes state.blocks old) → AreFilled s.text end_store
      filled_members are there stored old filled =
          let w : Valuation = record { number = number_after s end_store v at tag begin ps ws; address = v.address } in
          members_filled s same_structs own names parts next ws state done sound cells written number i tag b structure after.shapes locals v w zero_is (zero_after s end_store v at tag begin ps ws) at known ps seen result there
          stored (are_written s end_store v at tag begin own little ps ws are w (λ j t l. refl)) (are_once s end_store v at tag begin own little next state.blocks sound number i b structure ps ws are) old filled

      -- where a member begins that is in the structure
      begins_there : (locals_before : List ℕ) (p : Placed) (to : Place) (start : ℕ) → begin_of s.text locals_before p.target ≡ Some start → (m : Member) → (view s.frame p.target).member ≡ Some m
          → LiesIn s (begin_of s.text locals_before p.target) (view s.frame p.target).member to → (t : IsMemoryTarget s before p to) → t.block.base + t.index * t.block.size ≡ start
      begins_there locals_before p to start e m is lies t =
          let q = as_member p to t m is in
          cancel_right (t.block.base + t.index * t.block.size) start (offset_of s.text.layout m.tag m.number)
          (subst (LiesIn s (Some start) (Some m)) q.goes (subst (λ o. LiesIn s (Some start) o to) is (subst (λ o. LiesIn s o (view s.frame p.target).member to) e lies)))

    -- the targets of some assignments are members of it
    are_of : (number i tag : ℕ) (b : Block) (structure : IsStructure state.blocks number i tag b) (start : ℕ) → start ≡ b.base + i * b.size
        → (qs : List Placed) (us : List Write) → ArePlanned s before after v at qs us → AreMembersAt s before.locals start qs → AreIn s before.locals qs us
        → AreOf s end_store v at tag (b.base + i * b.size) qs us
    unfolding ArePlanned AreMembersAt AreIn AreOf
    are_of number i tag b structure start e [] [] h members lies = tt
    are_of number i tag b structure start e [] (u ∷ us) h members lies = absurd h
    are_of number i tag b structure start e (q ∷ qs) [] h members lies = absurd h
    are_of number i tag b structure start e (q ∷ qs) (u ∷ us) h members lies =
        let none = begin_local s.text before.locals (out-Node Name Note q.target.node) start members.0.begins in
        let t = memory_target q u h.0 none in (
          one_of_it number i tag b structure q qs u h.0 none members.0.member members.0.is t
              (begins_there number i tag b structure before.locals q u.0 start members.0.begins members.0.member members.0.is lies.0 t ∙ e) members.0.new,
          are_of number i tag b structure start e qs us h.1 members.1 lies.1,
        )

    -- ---- no target in memory

    locals_elsewhere : (qs : List Placed) (us : List Write) → AreLocals qs → ArePlanned s before after v at qs us → (c : ℕ) → AreElsewhere c us
    unfolding ArePlanned AreLocals AreElsewhere
    locals_elsewhere [] [] are h c = tt
    locals_elsewhere [] (u ∷ us) are h c = absurd h
    locals_elsewhere (q ∷ qs) [] are h c = absurd h
    locals_elsewhere (q ∷ qs) (u ∷ us) are h c = (by (local_of q.target) are.0 h.0.target, locals_elsewhere qs us are.1 h.1 c)
      where
        by : (o : Option ℕ) → IsSome o → IsTarget s before q o u.0 → IsElsewhere c u.0
        by None some t = absurd (cc)
        by (Some k) some t = subst (IsElsewhere c) (sym t.goes) tt

    filled_elsewhere : ((c : ℕ) → AreElsewhere c ws) → (old : List ℕ) → AreFilled s.text (store_with after.shapes state.blocks old) → AreFilled s.text end_store
    filled_elsewhere new old filled =
        filled_after s.text parts after.shapes old locals next ws state done sound keeps filled
        (λ number i b slot e h in_it. inl (record { pointer = new (b.base + i * b.size + slot.offset); counted = by (b.base + i * b.size) slot.count }))
      where
        by : (a : ℕ) (many : Count) → IsCountSpared ws a many
        by a (count.Fixed n) = tt
        by a (count.Member offset form add) = new (a + offset)

    -- ---- one assignment

    module _ (p : Placed) (to : Write) (whole : ps ≡ p ∷ []) (one : ws ≡ to ∷ []) (h : IsPlanned s before after v at p to) (there : State) (stored : stored_placed s.frame result seen ps at ≡ Ok there)
        (old : List ℕ) (filled : AreFilled s.text (store_with after.shapes state.blocks old)) where
      stored_one : stored_placed s.frame result seen (p ∷ []) at ≡ Ok there
      stored_one = sym (ap (λ qs. stored_placed s.frame result seen qs at) whole) ∙ stored

      written_one : all_written (to ∷ []) state ≡ Ok done
      written_one = sym (ap (λ us. all_written us state) one) ∙ written

      cells_one : AreCellWrites s.text.layout state.blocks (to ∷ [])
      cells_one = subst (AreCellWrites s.text.layout state.blocks) one cells

      memory_filled : (none : local_of p.target ≡ None) (t : IsMemoryTarget s before p to.0) → AreFilled s.text end_store
      unfolding AreOf
      memory_filled none t = by (view s.frame p.target).member refl t.part
        where
          by : (o : Option Member) → (view s.frame p.target).member ≡ o → IsPartTarget s p t.number t.block (t.block.base + t.index * t.block.size) to.0 o → AreFilled s.text end_store
          by (Some m) is q =
              let structure : IsStructure state.blocks t.number t.index m.tag t.block = record { there = there_too p to.0 t; below = t.below; form = q.form } in
              filled_members t.number t.index m.tag t.block structure
              (subst (λ qs. AreOf s end_store v at m.tag (t.block.base + t.index * t.block.size) qs ws) (sym whole)
              (subst (AreOf s end_store v at m.tag (t.block.base + t.index * t.block.size) (p ∷ [])) (sym one)
              (one_of_it t.number t.index m.tag t.block structure p [] to h none m is t refl refl, tt))) there stored old filled
          by None is (inl q) =
              element_filled s parts next to state done sound cells_one written_one t.number t.index t.block (there_too p to.0 t) t.below q.scalar after.shapes locals v zero_is at known p seen result there stored_one
              (record {
                local = none;
                alone = is;
                same = q.same;
                zero_alone = q.zero_alone;
                goes = q.goes;
                counts = q.counts;
                pointer = λ n e. from_there p to.1 h.from;
              }) old filled
          by None is (inr q) =
              run_filled s own names parts next to state done sound cells_one written_one t.number t.index t.block (there_too p to.0 t) t.below after.shapes locals v zero_is at known p seen result there stored_one none is q
              (from_there p to.1 h.from) old filled

      filled_alone : AreFilled s.text end_store
      unfolding ArePlanned AreLocals AreElsewhere
      filled_alone = by (local_of p.target) refl
        where
          by : (o : Option ℕ) → local_of p.target ≡ o → AreFilled s.text end_store
          by None e = memory_filled e (memory_target p to h e)
          by (Some k) e =
              let t : IsLocalTarget s p k to.0 = subst (λ o. IsTarget s before p o to.0) e h.target in
              filled_elsewhere (λ c. subst (AreElsewhere c) (sym one) (subst (IsElsewhere c) (sym t.goes) tt, tt)) old filled

    -- ---- any of these

    filled_together : AreTogether s before.locals ps → AreIn s before.locals ps ws → ArePlanned s before after v at ps ws → (there : State) → stored_placed s.frame result seen ps at ≡ Ok there
        → (old : List ℕ) → AreFilled s.text (store_with after.shapes state.blocks old) → AreFilled s.text end_store
    unfolding ArePlanned AreMembersAt AreIn AreElsewhere
    filled_together (inl e) lies h there stored old filled = by ps ws refl refl e h
      where
        by : (qs : List Placed) (us : List Write) → ps ≡ qs → ws ≡ us → length qs ≡ 1 → ArePlanned s before after v at qs us → AreFilled s.text end_store
        by [] us whole one e h = absurd (omega arith)
        by (q ∷ []) [] whole one e h = absurd h
        by (q ∷ []) (u ∷ []) whole one e h = filled_alone q u whole one h.0 there stored old filled
        by (q ∷ []) (u ∷ w ∷ us) whole one e h = absurd h.1
        by (q ∷ r ∷ qs) us whole one e h = absurd (omega arith)
    filled_together (inr (inl are)) lies h there stored old filled = filled_elsewhere (locals_elsewhere ps ws are h) old filled
    filled_together (inr (inr (start, members))) lies h there stored old filled = by ps ws refl refl members lies h
      where
        by : (qs : List Placed) (us : List Write) → ps ≡ qs → ws ≡ us → AreMembersAt s before.locals start qs → AreIn s before.locals qs us → ArePlanned s before after v at qs us → AreFilled s.text end_store
        by [] [] whole one members lies h = filled_elsewhere (λ c. subst (AreElsewhere c) (sym one) tt) old filled
        by [] (u ∷ us) whole one members lies h = absurd h
        by (q ∷ qs) [] whole one members lies h = absurd h
        by (q ∷ qs) (u ∷ us) whole one members lies h =
            let none = begin_local s.text before.locals (out-Node Name Note q.target.node) start members.0.begins in
            let t = memory_target q u h.0 none in
            let m = members.0.member in
            let structure : IsStructure state.blocks t.number t.index m.tag t.block = record { there = there_too q u.0 t; below = t.below; form = (as_member q u.0 t m members.0.is).form } in
            let e = begins_there t.number t.index m.tag t.block structure before.locals q u.0 start members.0.begins m members.0.is lies.0 t in
            filled_members t.number t.index m.tag t.block structure
            (subst (λ rs. AreOf s end_store v at m.tag (t.block.base + t.index * t.block.size) rs ws) (sym whole)
            (subst (AreOf s end_store v at m.tag (t.block.base + t.index * t.block.size) (q ∷ qs)) (sym one)
            (are_of t.number t.index m.tag t.block structure start (sym e) (q ∷ qs) (u ∷ us) h members lies))) there stored old filled

  -- what holds after the writes
  pub stays_filled : (ps : List Placed) (ws : List Write) (there : State) (old : List ℕ) → stored_placed s.frame result seen ps at ≡ Ok there → ArePlanned s before after v at ps ws → AreTogether s before.locals ps → AreIn s before.locals ps ws
      → all_written ws state ≡ Ok done → AreFilled s.text (store_with after.shapes state.blocks old)
      → AreCellWrites s.text.layout state.blocks ws × AreSound s.text done.blocks next × AreFilled s.text (store_with after.shapes done.blocks locals)
  stays_filled ps ws there old stored h together lies written filled =
      let cells = cells_there ps ws h in
      (cells, (keeps ps ws written cells).sound, filled_together ps ws written cells together lies h there stored old filled)

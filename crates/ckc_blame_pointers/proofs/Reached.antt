-- An integer or a pointer that a true range reaches is an element of a block, or a member that takes part in no bounds.
use Rattle.std.proofs.Common.{◌≡◌, ◌⊎◌, ⊎_elim, inl, inr, refl, sym, ap, subst, ◌∙◌, ℕ, zero, suc, ◌+◌, Bool, true, false, List, [], ◌∷◌, ◌++◌, arith}
use Rattle.std.specs.Prelude.{◌*◌, ◌==◌, ◌<◌, ◌&&◌, ◌||◌, not, nat_le, slice_get, Option, None, Some}
use Rattle.std.specs.List.{All, Contains, list_any}
use Rattle.std.proofs.lemmas.Bool.{and_parts}
use Rattle.std.proofs.lemmas.List.Elements.{All-nil, All-cons, All-contains, Contains-append_right}
use Rattle.ckc_types.specs.declared.types.CType.{CType, CType-F, out-CType}
use Rattle.ckc_types.specs.declared.types.MemberShape.{MemberShape}
use Rattle.ckc_types.specs.declared.types.StructShape.{StructShape}
use Rattle.ckc_types.specs.declared.types.Structs.{Structs}
use Rattle.ckc_types.specs.Layout.{members_of, members_in}
use Rattle.ckc_types.specs.Same.{same_type}
use Rattle.ckc_typed.specs.declared.typed.Typed.{Typed}
use Rattle.ckc_typed.specs.Constants.{size_of}
use Rattle.ckc_typed.specs.Types.{is_scalar}
use Rattle.ckc_source.specs.declared.expr.Pointee.{Pointee}
use Rattle.ckc_source.specs.declared.program.MemberRun.{MemberRun}
use Rattle.ckc_source.specs.Blocks.{Block, end_of}
use Rattle.ckc_source.specs.Runs.{is_within, is_in_block, is_at, is_in_some_element, is_in_member, runs_of, runs_in, member_runs, is_in, is_true}
use Rattle.ckc_build_values.specs.Kinds.{width_of}
use Rattle.ckc_build_values.specs.Members.{offset_of}
use Rattle.ckc_build_elaborate.specs.Shapes.{is_run, shapes_elaborated}
use Rattle.ckc_blame_sound.specs.Sound.{IsPlaced}
use Rattle.ckc_blame_sound.specs.Cells.{AreMembers, IsCell, IsReached}
use Rattle.ckc_blame_sound.proofs.Objects.{made_shape, shapes_at, no_shapes, run_among}
use Rattle.ckc_blame_sound.proofs.Places.{elements_between, fewer}
use Rattle.ckc_blame_sound.proofs.Ranges.{Within, within, some_below, some_of, contains_at, scalar_part, true_cell}
use Rattle.ckc_blame_sound.proofs.Same.{same_equal}
use Rattle.ckc_blame_sound.proofs.Accesses as accesses
use Rattle.ckc_blame_pointers.proofs.Truths.{either}

-- ---- the members that pointers with known limits may point to

-- a run is a member that takes part in no bounds
pub record IsFreeRun (structs : Structs) (tag : ℕ) (run : MemberRun) : Type 0 where
  pub member : MemberShape
  pub contained : Contains (members_of structs tag) member
  pub free : is_run (members_of structs tag) member ≡ true
  pub there : run.offset ≡ offset_of structs tag member.name
  pub same : run.ctype ≡ member.ctype

in_front : {X : Type 0} (front back : List X) (x : X) → Contains (front ++ x ∷ back) x
in_front front back x = Contains-append_right front (x ∷ back) x (contains_at (x ∷ back) 0 x refl)

run_is : (structs : Structs) (tag k : ℕ) (run : MemberRun) → slice_get (runs_of (slice_get (shapes_elaborated structs) tag)) k ≡ Some run → IsFreeRun structs tag run
run_is structs tag k run e = by (slice_get structs.shapes tag) refl
  where
    by : (s : Option StructShape) → slice_get structs.shapes tag ≡ s → IsFreeRun structs tag run
    by None f =
        let none = no_shapes structs 0 structs.shapes tag f in
        absurd (nothing (sym (ap (λ o. slice_get (runs_of o) k) none) ∙ e))
      where
        nothing : None ≡ Some run → ⊥
        nothing h = absurd cc
    by (Some s) f =
        let first : 0 + tag ≡ tag = omega arith in
        let there = shapes_at structs 0 structs.shapes tag s f ∙ ap (λ n. Some (made_shape structs n s)) first in
        let r = run_among structs tag s.members s.members k run (sym (ap (λ o. slice_get (runs_of o) k) there) ∙ e) in
        let all : members_of structs tag ≡ s.members = ap members_in f in
        record {
          member = r.1;
          contained = subst (λ ms. Contains ms r.1) (sym (all ∙ r.3)) (in_front r.0 r.2 r.1);
          free = subst (λ ms. is_run ms r.1 ≡ true) (sym all) r.5;
          there = ap (λ (x : MemberRun). x.offset) r.4;
          same = ap (λ (x : MemberRun). x.ctype) r.4;
        }

-- ---- what is reached

pub record IsElementReached (blocks : List Block) (u : CType) (a : ℕ) : Type 0 where
  pub number : ℕ
  pub block : Block
  pub there : slice_get blocks number ≡ Some block
  pub index : ℕ
  pub below : index < block.count
  pub address : a ≡ block.base + index * block.size
  pub element : block.element ≡ u
  pub reachable : block.is_run ≡ true

pub record IsRunReached (structs : Structs) (blocks : List Block) (u : CType) (a : ℕ) : Type 0 where
  pub number : ℕ
  pub block : Block
  pub there : slice_get blocks number ≡ Some block
  pub index : ℕ
  pub below : index < block.count
  pub tag : ℕ
  pub form : out-CType block.element ≡ CType-F.Struct tag
  pub shape : MemberShape
  pub contained : Contains (members_of structs tag) shape
  pub free : is_run (members_of structs tag) shape ≡ true
  pub same : u ≡ shape.ctype
  pub address : a ≡ block.base + index * block.size + offset_of structs tag shape.name

no_members : (structs : Structs) → AreMembers structs []
no_members structs tag k run e = absurd (cc)

only : (b c : Block) (k : ℕ) → slice_get (b ∷ []) k ≡ Some c → b ≡ c
only b c zero e = cc
only b c (suc k) e = absurd (cc)

or_left : (a b : Bool) → a ≡ true → (a || b) ≡ true
or_left true b h = refl
or_left false b h = absurd (cc)

both : (a b : Bool) → a ≡ true → b ≡ true → (a && b) ≡ true
both true b h k = k
both false b h k = h

at_begin : (a base index size offset : ℕ) → a + 0 ≡ base + index * size + offset → offset ≡ 0 → a ≡ base + index * size
at_begin a base index size offset e z = omega arith

module _ (p : Typed) (blocks : List Block) (to : Pointee) (sized : to.size ≡ size_of p.layout to.element) (scalar : is_scalar to.element ≡ true)
    (n low high a : ℕ) (r : IsReached to n low high a) where
  at_block : (k : ℕ) (b : Block) → slice_get blocks k ≡ Some b → IsPlaced p b → b.is_run ≡ true → is_in_block to n low high b ≡ true → IsElementReached blocks to.element a
  at_block k b there placed reachable e =
      let same = same_equal to.element b.element (and_parts (same_type to.element b.element) _ e).0 in
      let in_it : is_in [] to n low high b ≡ true =
      both b.is_run (is_in_block to n low high b || (not to.terminated && list_any (is_in_member to n low high b) (member_runs [] b))) reachable
      (or_left (is_in_block to n low high b) (not to.terminated && list_any (is_in_member to n low high b) (member_runs [] b)) e) in
      let cell : IsCell p.layout (b ∷ []) (a + 0) (width_of to.element) (a == high) =
      true_cell p [] (b ∷ []) to n low high a 0 (width_of to.element) (All-cons (IsPlaced p) b [] placed (All-nil (IsPlaced p))) (no_members p.layout) sized
      (or_left (is_in [] to n low high b) false in_it) r (accesses.scalar_part p.layout to.element scalar) in
      let it : b ≡ cell.block = only b cell.block cell.number cell.there in
      let zero_is = (scalar_part p.layout cell.block.element cell.offset (width_of to.element) (ap is_scalar (ap (λ (x : Block). x.element) (sym it) ∙ sym same) ∙ scalar) cell.part).0 in
      record {
        number = k;
        block = b;
        there = there;
        index = cell.index;
        below = subst (λ (x : Block). cell.index < x.count) (sym it) cell.below;
        address = at_begin a cell.block.base cell.index cell.block.size cell.offset cell.address zero_is ∙ ap (λ (x : Block). x.base + cell.index * x.size) (sym it);
        element = sym same;
        reachable = reachable;
      }

  at_member : (k : ℕ) (b : Block) → slice_get blocks k ≡ Some b → (tag : ℕ) → out-CType b.element ≡ CType-F.Struct tag → (run : MemberRun) → IsFreeRun p.layout tag run → to.terminated ≡ false
      → is_in_member to n low high b run ≡ true → IsRunReached p.layout blocks to.element a
  at_member k b there tag form run m bare e =
      let q = and_parts (same_type to.element run.ctype && nat_le (run.offset + to.size) b.size) (is_in_some_element b run.offset to.size n low high) e in
      let s = and_parts (same_type to.element run.ctype) (nat_le (run.offset + to.size) b.size) q.0 in
      let i = some_below b.count (λ i. is_at b (b.base + (i * b.size + run.offset)) to.size n low high) q.1 in
      let begin = b.base + (i.0 * b.size + run.offset) in
      let t = and_parts (nat_le (begin + to.size) (end_of b)) (is_within begin (begin + to.size) to.size n low high) i.2 in
      let at : a ≡ begin = begins_there begin (within begin (begin + to.size) to.size n low high t.1) in
      record {
        number = k;
        block = b;
        there = there;
        index = i.0;
        below = i.1;
        tag = tag;
        form = form;
        shape = m.member;
        contained = m.contained;
        free = m.free;
        same = same_equal to.element run.ctype s.0 ∙ m.same;
        address = regroup a b.base (i.0 * b.size) run.offset at ∙ ap (λ o. b.base + i.0 * b.size + o) m.there;
      }
    where
      regroup : (a base many offset : ℕ) → a ≡ base + (many + offset) → a ≡ base + many + offset
      regroup a base many offset e = omega arith

      inside : a < high
      inside = ⊎_elim (λ h. h) (λ h. let ends = h.1 in let open_end = bare in absurd (cc)) r.before

      begins_there : (begin : ℕ) → Within begin (begin + to.size) to.size n low high → a ≡ begin
      begins_there begin w =
          let above = w.begins in
          let from = r.behind in
          let top = w.ends in
          let less = inside in
          let j = elements_between to.size begin a (omega arith) (r.away ∙ w.even) in
          let at = j.1 in
          let few : j.0 < 1 = fewer to.size j.0 1 (omega arith) in
          let none : j.0 ≡ 0 = omega arith in
          at ∙ ap (λ k. begin + k * to.size) none ∙ nothing begin to.size
        where
          nothing : (begin size : ℕ) → begin + 0 * size ≡ begin
          nothing begin size = omega arith

  -- what a true range reaches
  pub scalar_reached : All (IsPlaced p) blocks → is_true (shapes_elaborated p.layout) blocks to n low high ≡ true → IsElementReached blocks to.element a ⊎ IsRunReached p.layout blocks to.element a
  scalar_reached placed e =
      let q = some_of (is_in (shapes_elaborated p.layout) to n low high) blocks e in
      let b = q.1 in
      let at = All-contains (IsPlaced p) blocks b placed (contains_at blocks q.0 b q.2) in
      let runs = list_any (is_in_member to n low high b) (member_runs (shapes_elaborated p.layout) b) in
      let s = and_parts b.is_run (is_in_block to n low high b || (not to.terminated && runs)) q.3 in
      ⊎_elim (λ h. inl (at_block q.0 b q.2 at s.0 h))
      (λ h. let t = and_parts (not to.terminated) runs h in inr (by q.0 b q.2 (not_true to.terminated t.0) (out-CType b.element) refl t.1))
      (either (is_in_block to n low high b) (not to.terminated && runs) s.1)
    where
      not_true : (c : Bool) → not c ≡ true → c ≡ false
      not_true true e = absurd cc
      not_true false e = refl

      by : (k : ℕ) (b : Block) → slice_get blocks k ≡ Some b → to.terminated ≡ false → (f : CType-F CType) → out-CType b.element ≡ f
          → list_any (is_in_member to n low high b) (runs_in (shapes_elaborated p.layout) f) ≡ true → IsRunReached p.layout blocks to.element a
      by k b there bare (CType-F.Struct tag) form e =
          let q = some_of (is_in_member to n low high b) (runs_of (slice_get (shapes_elaborated p.layout) tag)) e in
          at_member k b there tag form q.1 (run_is p.layout tag q.0 q.1 q.2) bare q.3
      by k b there bare CType-F.Int form e = absurd cc
      by k b there bare CType-F.Unsigned form e = absurd cc
      by k b there bare CType-F.Char form e = absurd cc
      by k b there bare CType-F.Void form e = absurd cc
      by k b there bare (CType-F.Pointer q u) form e = absurd cc

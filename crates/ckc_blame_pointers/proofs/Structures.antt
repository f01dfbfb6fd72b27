-- A structure that a true range reaches is an element of a block.
use Rattle.std.proofs.Common.{◌≡◌, ⊎_elim, refl, sym, ap, subst, ◌∙◌, ℕ, ◌+◌, ◌-◌, Bool, true, false, List, arith}
use Rattle.std.specs.Prelude.{◌*◌, ◌<◌, ◌&&◌, ◌||◌, not, if◌then◌else◌, slice_get, nat_le, Some}
use Rattle.std.specs.List.{list_any, All}
use Rattle.std.proofs.lemmas.Bool.{and_parts}
use Rattle.std.proofs.lemmas.List.Elements.{All-contains}
use Rattle.std.proofs.Math.Nat.{mul_comm}
use Rattle.ckc_types.specs.declared.types.CType.{CType, CType-F, out-CType}
use Rattle.ckc_types.specs.Same.{same_type}
use Rattle.ckc_typed.specs.declared.typed.Typed.{Typed}
use Rattle.ckc_typed.specs.Constants.{size_of}
use Rattle.ckc_typed.specs.Types.{is_integer, is_integer_form, is_pointer_form, is_scalar}
use Rattle.ckc_source.specs.declared.expr.Pointee.{Pointee}
use Rattle.ckc_source.specs.declared.program.Shape.{Shape}
use Rattle.ckc_source.specs.Blocks.{Block, end_of}
use Rattle.ckc_source.specs.Runs.{is_within, is_in_block, is_in_some_element, is_in_member, runs_of, runs_in, member_runs, is_in, is_true}
use Rattle.ckc_blame_sound.specs.Sound.{IsPlaced}
use Rattle.ckc_blame_sound.specs.Cells.{AreMembers, IsReached}
use Rattle.ckc_blame_sound.proofs.Parts.{HasSize, sized_form, scalar_member}
use Rattle.ckc_blame_sound.proofs.Places.{elements_between, fewer}
use Rattle.ckc_blame_sound.proofs.Ranges.{Within, within, some_of, contains_at}
use Rattle.ckc_blame_sound.proofs.Same.{same_equal}
use Rattle.ckc_blame_pointers.proofs.Truths.{either}

-- the element of a block of a type at an address
pub record IsWholeElement (blocks : List Block) (u : CType) (a : ℕ) : Type 0 where
  pub number : ℕ
  pub block : Block
  pub there : slice_get blocks number ≡ Some block
  pub index : ℕ
  pub below : index < block.count
  pub address : a ≡ block.base + index * block.size
  pub element : block.element ≡ u

-- one that checked pointers with known limits may point to
abbrev pub IsStructureAt : List Block → CType → ℕ → Type 0
IsStructureAt blocks u a = (w : IsWholeElement blocks u a) × (w.block.is_run ≡ true)

module _ (p : Typed) (blocks : List Block) (to : Pointee) (sized : to.size ≡ size_of p.layout to.element) (tag : ℕ) (form : out-CType to.element ≡ CType-F.Struct tag) (bare : to.terminated ≡ false)
    (n low high a : ℕ) (r : IsReached to n low high a) where
  no_integer : is_integer to.element ≡ true → ⊥
  no_integer e = let other : is_integer to.element ≡ false = ap is_integer_form form in absurd (cc)

  no_scalar : is_scalar to.element ≡ true → ⊥
  no_scalar e = let other : is_scalar to.element ≡ false = ap (λ f. is_integer_form f || is_pointer_form f) form in absurd (cc)

  inside : a < high
  inside = ⊎_elim (λ h. h) (λ h. let ends = h.1 in let open_end = bare in absurd (cc)) r.before

  at_element : (k : ℕ) (b : Block) → slice_get blocks k ≡ Some b → IsPlaced p b → to.element ≡ b.element → to.size ≡ b.size → Within b.base (end_of b) to.size n low high → b.is_run ≡ true → IsStructureAt blocks to.element a
  at_element k b there placed same size w run =
      let above = w.begins in
      let from = r.behind in
      let top = w.ends in
      let less = inside in
      let whole = placed.whole in
      let i = elements_between to.size b.base a (omega arith) (r.away ∙ w.even) in
      let at : a ≡ b.base + i.0 * b.size = i.1 ∙ ap (λ s. b.base + i.0 * s) size in
      let turned = mul_comm b.size b.count in (
        record {
          number = k;
          block = b;
          there = there;
          index = i.0;
          below = fewer b.size i.0 b.count (omega arith);
          address = at;
          element = sym same;
        },
        run,
      )

  in_block : (k : ℕ) (b : Block) → slice_get blocks k ≡ Some b → IsPlaced p b → b.is_run ≡ true → is_in_block to n low high b ≡ true → IsStructureAt blocks to.element a
  in_block k b there placed run e =
      let q = and_parts (same_type to.element b.element) (if b.terminated then is_within b.base (end_of b - b.size) to.size n low high else not to.terminated && is_within b.base (end_of b) to.size n low high) e in
      by (same_equal to.element b.element q.0) b.terminated refl q.1
    where
      by : to.element ≡ b.element → (c : Bool) → b.terminated ≡ c → (if c then is_within b.base (end_of b - b.size) to.size n low high else not to.terminated && is_within b.base (end_of b) to.size n low high) ≡ true
          → IsStructureAt blocks to.element a
      by same true t e = absurd (no_integer (subst (λ u. is_integer u ≡ true) (sym same) (placed.terminated t).integers))
      by same false t e =
          at_element k b there placed same (sized ∙ ap (size_of p.layout) same ∙ sym placed.size)
          (within b.base (end_of b) to.size n low high (and_parts (not to.terminated) (is_within b.base (end_of b) to.size n low high) e).1) run

  not_in_member : (shapes : List Shape) → AreMembers p.layout shapes → (b : Block) → IsPlaced p b → list_any (is_in_member to n low high b) (member_runs shapes b) ≡ true → ⊥
  not_in_member shapes are b placed e = by (out-CType b.element) refl e
    where
      by : (f : CType-F CType) → out-CType b.element ≡ f → list_any (is_in_member to n low high b) (runs_in shapes f) ≡ true → ⊥
      by (CType-F.Struct tag2) g e =
          let q = some_of (is_in_member to n low high b) (runs_of (slice_get shapes tag2)) e in
          let run = q.1 in
          let m = are tag2 q.0 run q.2 in
          let t = and_parts (same_type to.element run.ctype && nat_le (run.offset + to.size) b.size) (is_in_some_element b run.offset to.size n low high) q.3 in
          let u = and_parts (same_type to.element run.ctype) (nat_le (run.offset + to.size) b.size) t.0 in
          no_scalar (ap is_scalar (same_equal to.element run.ctype u.0 ∙ m.same) ∙ scalar_member p.layout tag2 m.front m.member m.stands (has_size tag2 g))
        where
          has_size : (tag2 : ℕ) → out-CType b.element ≡ CType-F.Struct tag2 → HasSize p.layout tag2
          has_size tag2 g = subst (λ f. 0 < sized_form p.layout f) g (subst (λ n. 0 < n) placed.size placed.sized)
      by CType-F.Int g e = absurd cc
      by CType-F.Unsigned g e = absurd cc
      by CType-F.Char g e = absurd cc
      by CType-F.Void g e = absurd cc
      by (CType-F.Pointer q u) g e = absurd cc

  pub structure_at : (shapes : List Shape) → AreMembers p.layout shapes → All (IsPlaced p) blocks → is_true shapes blocks to n low high ≡ true → IsStructureAt blocks to.element a
  structure_at shapes are placed e =
      let q = some_of (is_in shapes to n low high) blocks e in
      let b = q.1 in
      let at = All-contains (IsPlaced p) blocks b placed (contains_at blocks q.0 b q.2) in
      let runs = list_any (is_in_member to n low high b) (member_runs shapes b) in
      let s = and_parts b.is_run (is_in_block to n low high b || (not to.terminated && runs)) q.3 in
      ⊎_elim (λ h. in_block q.0 b q.2 at s.0 h) (λ h. absurd (not_in_member shapes are b at (and_parts (not to.terminated) runs h).1))
      (either (is_in_block to n low high b) (not to.terminated && runs) s.1)

  pub whole_element : (shapes : List Shape) → AreMembers p.layout shapes → All (IsPlaced p) blocks → is_true shapes blocks to n low high ≡ true → IsWholeElement blocks to.element a
  whole_element shapes are placed e = (structure_at shapes are placed e).0

-- If a range is true, it lies within the block that has it.
use Rattle.std.proofs.Common.{◌≡◌, inl, inr, ℕ, ◌-◌, ◌<◌, ◌≤◌, Bool, true, false, not, ◌&&◌, if◌then◌else◌, List, [], ◌∷◌, map, get_or, length, refl, subst, arith}
use Rattle.std.proofs.lemmas.Bool.{and_parts, or_cases}
use Rattle.std.proofs.lemmas.Bool.Decides.{nat_tests}
use Rattle.std.specs.List.{list_any}
use Rattle.ckc_source.specs.declared.expr.Pointee.{Pointee}
use Rattle.ckc_source.specs.declared.program.Shape.{Shape}
use Rattle.ckc_source.specs.declared.program.MemberRun.{MemberRun}
use Rattle.ckc_types.specs.Same.{same_type}
use Rattle.ckc_source.specs.Blocks.{Block, end_of}
use Rattle.ckc_source.specs.Runs.{is_within, is_in_block, is_in_member, is_in_some_element, member_runs, is_in, is_true}
use Rattle.ckc_interp_blocks.specs.declared.block.Block as held_by
use Rattle.ckc_interp_blocks.specs.Held.{view, are_apart}
use Rattle.ckc_interp_blocks.specs.code.Held.{BeginsBehind, IsLast}
use Rattle.ckc_interp_blocks.proofs.Elements.{element_lies}
use Rattle.ckc_interp_blocks.proofs.Places.{apart_true, none_past, none_behind, last_decides}
use Rattle.ckc_interp_blocks.proofs.Found.{read_at}

-- the range lies in the block
record Lies (b : Block) (low high : ℕ) : Type 0 where
  begins : b.base ≤ low
  rises : low ≤ high
  ends : high ≤ end_of b

within_lies : (begin end size n low high : ℕ) → is_within begin end size n low high ≡ true → (begin ≤ low) × (low ≤ high) × (high ≤ end)
within_lies begin end size n low high t = grind (arith, nat_tests)

module _ (shapes : List Shape) (to : Pointee) (n low high : ℕ) where
  whole_lies : (b : Block) (ends : Bool)
      → (if ends then is_within b.base (end_of b - b.size) to.size n low high else not to.terminated && is_within b.base (end_of b) to.size n low high) ≡ true
      → Lies b low high
  whole_lies b true t = let p = within_lies b.base (end_of b - b.size) to.size n low high t in record { begins = p.0; rises = p.1; ends = omega arith }
  whole_lies b false t =
      let q = and_parts (not to.terminated) (is_within b.base (end_of b) to.size n low high) t in
      let p = within_lies b.base (end_of b) to.size n low high q.1 in
      record { begins = p.0; rises = p.1; ends = p.2 }

  member_lies : (b : Block) (m : MemberRun) → is_in_member to n low high b m ≡ true → Lies b low high
  member_lies b m t =
      let q = and_parts _ (is_in_some_element b m.offset to.size n low high) t in
      let p = element_lies b m.offset to.size n low high q.1 in
      record { begins = p.0; rises = p.1; ends = p.2 }

  members_lie : (b : Block) (ms : List MemberRun) → list_any (is_in_member to n low high b) ms ≡ true → Lies b low high
  members_lie b [] t = absurd cc
  members_lie b (m ∷ ms) t = elim (or_cases (is_in_member to n low high b m) (list_any (is_in_member to n low high b) ms) t) [
    | inl here ↦ member_lies b m here
    | inr there ↦ members_lie b ms there
  ]

  in_lies : (b : Block) → is_in shapes to n low high b ≡ true → Lies b low high
  in_lies b t =
      let p = and_parts b.is_run _ t in
      elim (or_cases (is_in_block to n low high b) _ p.1) [
        | inl here ↦ let q = and_parts (same_type to.element b.element) _ here in whole_lies b b.terminated q.1
        | inr there ↦ let q = and_parts (not to.terminated) _ there in members_lie b (member_runs shapes b) q.1
      ]

  near_low : (b : Block) → is_in shapes to n low high b ≡ true → (b.base ≤ low) × (low ≤ end_of b)
  near_low b t = let l = in_lies b t in (l.begins, omega arith)

  near_high : (b : Block) → is_in shapes to n low high b ≡ true → (b.base ≤ high) × (high ≤ end_of b)
  near_high b t = let l = in_lies b t in (omega arith, l.ends)

  module _ (bs : List held_by.Block) (place : ℕ) (apart : are_apart 0 (map view bs) place ≡ true) where
    pub not_past_low : place ≤ low → is_true shapes (map view bs) to n low high ≡ false
    not_past_low h = none_past (is_in shapes to n low high) low near_low 0 (map view bs) place (apart_true 0 (map view bs) place apart) h

    pub not_past_high : place ≤ high → is_true shapes (map view bs) to n low high ≡ false
    not_past_high h = none_past (is_in shapes to n low high) high near_high 0 (map view bs) place (apart_true 0 (map view bs) place apart) h

    module _ (slice : List held_by.Block) (e : slice ≡ bs) where
      pub not_behind : BeginsBehind low (map view slice) → is_true shapes (map view bs) to n low high ≡ false
      not_behind h = none_behind (is_in shapes to n low high) low near_low 0 (map view bs) place (apart_true 0 (map view bs) place apart)
          (subst (λ (l : List held_by.Block). BeginsBehind low (map view l)) e h)

      pub true_at : (i : ℕ) (b : held_by.Block) → (i < length slice) × IsLast low (map view slice) i → b ≡ get_or bs i b
          → is_true shapes (map view bs) to n low high ≡ is_in shapes to n low high (view b)
      true_at i b p read =
          let less : i < length bs = subst (λ (l : List held_by.Block). i < length l) e p.0 in
          last_decides (is_in shapes to n low high) low near_low 0 (map view bs) place i (view b) (apart_true 0 (map view bs) place apart)
          (subst (λ (l : List held_by.Block). IsLast low (map view l) i) e p.1) (read_at bs (length bs) i b refl less read)

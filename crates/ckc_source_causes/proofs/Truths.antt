-- A range that is true has elements of its type: it lies in a block of them, or in a member of an element of one.
use Rattle.std.proofs.Common.{◌≡◌, ◌⊎◌, ⊎_elim, inl, inr, ℕ, zero, suc, ◌+◌, ◌-◌, ◌*◌, ◌%◌, ◌≤◌, ◌<◌, List, [], ◌∷◌, refl, sym, ◌∙◌, ap, subst, arith}
use Rattle.std.specs.Prelude.{Bool, true, false, ◌==◌, ◌&&◌, ◌||◌, not, if◌then◌else◌, nat_le, nat_lt, All}
use Rattle.std.specs.List.{list_any, Contains}
use Rattle.std.proofs.lemmas.Bool.{and_parts, not-true, leb-true, ltb-true, eqb-true}
use Rattle.std.proofs.lemmas.List.Elements.{All-contains}
use Rattle.ckc_types.specs.declared.types.CType.{CType, out-CType}
use Rattle.ckc_types.specs.Same.{same_type}
use Rattle.ckc_source.specs.declared.expr.Pointee.{Pointee}
use Rattle.ckc_source.specs.declared.program.MemberRun.{MemberRun}
use Rattle.ckc_source.specs.Blocks.{Block, end_of}
use Rattle.ckc_source.specs.Code.{Program}
use Rattle.ckc_source.specs.Runs.{is_within, is_in_block, any_below, is_at, is_in_some_element, is_in_member, runs_in, member_runs, is_in, is_true}
use Rattle.ckc_source_causes.specs.Layouts.{Layout, PointsTo, IsLaidOutBy}
use Rattle.ckc_source_causes.specs.Causes.{LiesInData}
use Rattle.ckc_source_causes.proofs.Elements.{IsElement, IsBefore, HasElements, block_element}
use Rattle.ckc_source_causes.proofs.Numbers.{elements_even, element_even, whole_before}
use Rattle.ckc_source_causes.proofs.Same.{same_equal}

-- ---- tests

record IsWithin (begin end size n low high : ℕ) : Type 0 where
  pub sized : 0 < size
  pub begins : begin ≤ low
  pub ordered : low ≤ high
  pub ends : high ≤ end
  pub high_even : high % size ≡ begin % size
  pub even : n % size ≡ begin % size

within : (begin end size n low high : ℕ) → is_within begin end size n low high ≡ true → IsWithin begin end size n low high
within begin end size n low high e =
    let t0 = nat_lt 0 size in
    let t1 = nat_le begin low in
    let t2 = nat_le low high in
    let t3 = nat_le high end in
    let t4 = low % size == begin % size in
    let t5 = high % size == begin % size in
    let t6 = n % size == begin % size in
    let a = and_parts (t0 && t1 && t2 && t3 && t4 && t5) t6 e in
    let b = and_parts (t0 && t1 && t2 && t3 && t4) t5 a.0 in
    let c = and_parts (t0 && t1 && t2 && t3) t4 b.0 in
    let d = and_parts (t0 && t1 && t2) t3 c.0 in
    let f = and_parts (t0 && t1) t2 d.0 in
    let g = and_parts t0 t1 f.0 in
    record {
      sized = ltb-true 0 size g.0;
      begins = leb-true begin low g.1;
      ordered = leb-true low high f.1;
      ends = leb-true high end d.1;
      high_even = eqb-true (high % size) (begin % size) b.1;
      even = eqb-true (n % size) (begin % size) a.1;
    }

either : (a b : Bool) → (a || b) ≡ true → (a ≡ true) ⊎ (b ≡ true)
either true b h = inl refl
either false b h = inr h

some_below : (k : ℕ) (test : ℕ → Bool) → any_below k test ≡ true → (i : ℕ) × (test i ≡ true)
unfolding any_below
some_below zero test h = absurd cc
some_below (suc k) test h = ⊎_elim (λ e. (k, e)) (λ e. some_below k test e) (either (test k) (any_below k test) h)

-- an element of a list that passes a test
some_of : {X : Type 0} (p : X → Bool) (xs : List X) → list_any p xs ≡ true → (x : X) × Contains xs x × (p x ≡ true)
some_of p [] h = absurd cc
some_of p (x ∷ xs) h = ⊎_elim
    (λ e. (x, (0, omega arith, refl), e))
    (λ e. let r = some_of p xs e in let at = r.1 in (r.0, (suc at.0, omega (arith, at.1), at.2), r.2))
    (either (p x) (list_any p xs) h)

-- an element that begins within a range is whole in it
whole_in : (begin end size n low high a : ℕ) → IsWithin begin end size n low high → a % size ≡ n % size → low ≤ a → a < high → a + size ≤ high
whole_in begin end size n low high a w e l less =
    let above = w.begins in
    let up = w.ordered in
    whole_before size begin a high (omega arith) (omega arith) (e ∙ w.even) w.high_even less

module _ (p : Program) (l : Layout) (laid : IsLaidOutBy p l) (bs : List Block) (all : All (LiesInData l) bs) (t : CType) (to : Pointee) (n low high : ℕ) where
  -- ---- a range in a whole block

  in_block : (b : Block) → Contains bs b → (end : ℕ) → IsWithin b.base end (l.size t) n low high → (a : ℕ) → a % l.size t ≡ n % l.size t → low ≤ a → a + l.size t ≤ end_of b
      → IsElement l bs t a
  in_block b there end w a e from top =
      let at = All-contains (LiesInData l) bs b all there in
      let above = w.begins in
      let begins : b.base ≤ a = omega arith in
      block_element l bs b t a all there begins top (λ wide. element_even (l.size t) b.base a begins (e ∙ w.even) (laid.sizes t wide) at.at)

  before_end : (b : Block) → (w : IsWithin b.base (end_of b) (l.size t) n low high) → (a : ℕ) → a % l.size t ≡ n % l.size t → low ≤ a → a < high → a + l.size t ≤ end_of b
  before_end b w a e from less =
      let top = w.ends in
      let room = whole_in b.base (end_of b) (l.size t) n low high a w e from less in
      omega arith

  before_last : (b : Block) → Contains bs b → t ≡ b.element → (w : IsWithin b.base (end_of b - b.size) (l.size t) n low high) → (a : ℕ) → low ≤ a → a ≤ high → a + l.size t ≤ end_of b
  before_last b there same w a from upto =
      let at = All-contains (LiesInData l) bs b all there in
      let size : b.size ≡ l.size t = at.size ∙ ap l.size (sym same) in
      let first = at.first in
      let above = w.begins in
      let top = w.ends in
      omega arith

  no_more : (last : Bool) (a : ℕ) → IsBefore last a high → a ≤ high
  no_more true a h = h
  no_more false a h = omega arith

  whole_elements : (last : Bool) → (last ≡ true → to.terminated ≡ true) → to.size ≡ l.size t → (b : Block) → Contains bs b → t ≡ b.element → (ends : Bool)
      → (if ends then is_within b.base (end_of b - b.size) to.size n low high else not to.terminated && is_within b.base (end_of b) to.size n low high) ≡ true → HasElements l bs t last n low high
  whole_elements last ends size b there same true e a away from before =
      let w = within b.base (end_of b - b.size) (l.size t) n low high (subst (λ s. is_within b.base (end_of b - b.size) s n low high ≡ true) size e) in
      in_block b there (end_of b - b.size) w a away from (before_last b there same w a from (no_more last a before))
  whole_elements true ends size b there same false e a away from before =
      let open_end = not-true to.terminated (and_parts (not to.terminated) (is_within b.base (end_of b) to.size n low high) e).0 in
      let closed = ends refl in
      absurd cc
  whole_elements false ends size b there same false e a away from before =
      let q = and_parts (not to.terminated) (is_within b.base (end_of b) to.size n low high) e in
      let w = within b.base (end_of b) (l.size t) n low high (subst (λ s. is_within b.base (end_of b) s n low high ≡ true) size q.1) in
      in_block b there (end_of b) w a away from (before_end b w a away from before)

  -- ---- a range in a member

  member_elements : to.size ≡ l.size t → to.element ≡ t → (b : Block) → Contains bs b → (m : MemberRun) → Contains (runs_in p.shapes (out-CType b.element)) m → is_in_member to n low high b m ≡ true
      → HasElements l bs t false n low high
  member_elements size element b there m among e a away from before =
      let at = All-contains (LiesInData l) bs b all there in
      let q = and_parts (same_type to.element m.ctype && nat_le (m.offset + to.size) b.size) (is_in_some_element b m.offset to.size n low high) e in
      let s = and_parts (same_type to.element m.ctype) (nat_le (m.offset + to.size) b.size) q.0 in
      let same : t ≡ m.ctype = sym element ∙ same_equal to.element m.ctype s.0 in
      let i = some_below b.count (λ i. is_at b (b.base + (i * b.size + m.offset)) to.size n low high) q.1 in
      let begin = b.base + (i.0 * b.size + m.offset) in
      let r = and_parts (nat_le (begin + to.size) (end_of b)) (is_within begin (begin + to.size) to.size n low high) i.1 in
      let w = within begin (begin + l.size t) (l.size t) n low high (subst (λ s. is_within begin (begin + s) s n low high ≡ true) size r.1) in
      let room = whole_in begin (begin + l.size t) (l.size t) n low high a w away from before in
      let fits = subst (λ s. begin + s ≤ end_of b) size (leb-true (begin + to.size) (end_of b) r.0) in
      let is : a ≡ begin = begins begin w room in
      block_element l bs b t a all there (omega arith) (omega arith)
      (λ wide. let c = laid.members b.element m among (subst (λ u. l.is_wide u ≡ true) same wide) in
      subst (λ x. x % 4 ≡ 0) (sym is)
      (sum_even b.base (i.0 * b.size) m.offset (elements_even b.size b.base i.0 (subst (λ s. s % 4 ≡ 0) (sym at.size) (laid.sizes b.element c.0)) at.at) c.1))
    where
      begins : (begin : ℕ) → IsWithin begin (begin + l.size t) (l.size t) n low high → a + l.size t ≤ high → a ≡ begin
      begins begin w room =
          let above = w.begins in
          let top = w.ends in
          omega arith

      sum_even : (base k offset : ℕ) → (base + k) % 4 ≡ 0 → offset % 4 ≡ 0 → (base + (k + offset)) % 4 ≡ 0
      sum_even base k offset e f = omega arith

  -- ---- true ranges

  pub true_elements : (last : Bool) → PointsTo l t last to → is_true p.shapes bs to n low high ≡ true → HasElements l bs t last n low high
  true_elements last points e =
      let q = some_of (is_in p.shapes to n low high) bs e in
      let b = q.0 in
      let runs = list_any (is_in_member to n low high b) (member_runs p.shapes b) in
      let s = and_parts b.is_run (is_in_block to n low high b || (not to.terminated && runs)) q.2 in
      ⊎_elim
      (λ h. let c = and_parts (same_type to.element b.element) (if b.terminated then is_within b.base (end_of b - b.size) to.size n low high else not to.terminated && is_within b.base (end_of b) to.size n low high) h in
      whole_elements last points.ends points.size b q.1 (sym points.element ∙ same_equal to.element b.element c.0) b.terminated c.1)
      (λ h. let c = and_parts (not to.terminated) runs h in
      let m = some_of (is_in_member to n low high b) (member_runs p.shapes b) c.1 in
      by last points.ends (not-true to.terminated c.0) (member_elements points.size points.element b q.1 m.0 m.1 m.2))
      (either (is_in_block to n low high b) (not to.terminated && runs) s.1)
    where
      by : (last : Bool) → (last ≡ true → to.terminated ≡ true) → to.terminated ≡ false → HasElements l bs t false n low high → HasElements l bs t last n low high
      by true ends open_end h = let closed = ends refl in absurd cc
      by false ends open_end h = h

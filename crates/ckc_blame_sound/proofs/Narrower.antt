-- A range that lies in a true one, a number of elements from its ends, is true.
use Rattle.std.proofs.Common.{◌≡◌, ⊎_elim, ℕ, zero, suc, ◌+◌, ◌*◌, ◌%◌, ◌≤◌, ◌<◌, List, [], ◌∷◌, ◌∙◌, arith}
use Rattle.std.specs.Prelude.{Bool, true, false, not, ◌==◌, ◌-◌, nat_le, nat_lt, ◌&&◌, ◌||◌, if◌then◌else◌}
use Rattle.std.specs.List.{list_any, All}
use Rattle.std.proofs.lemmas.List.Elements.{All-head, All-tail}
use Rattle.std.proofs.lemmas.Bool.{and_parts, leb-true, le-leb, eq-eqb, lt-ltb}
use Rattle.ckc_base.specs.Memory.{data_end}
use Rattle.ckc_types.specs.Same.{same_type}
use Rattle.ckc_typed.specs.declared.typed.Typed.{Typed}
use Rattle.ckc_source.specs.declared.expr.Pointee.{Pointee}
use Rattle.ckc_source.specs.declared.program.MemberRun.{MemberRun}
use Rattle.ckc_source.specs.declared.program.Shape.{Shape}
use Rattle.ckc_source.specs.Blocks.{Block, end_of, first_place}
use Rattle.ckc_source.specs.Runs.{is_within, is_in_block, any_below, is_at, is_in_some_element, is_in_member, member_runs, is_in, is_true}
use Rattle.ckc_blame_sound.specs.Sound.{IsPlaced}
use Rattle.ckc_blame_sound.proofs.Facts.{one_of}
use Rattle.ckc_blame_sound.proofs.Ranges.{Within, within}
use Rattle.ckc_blame_sound.proofs.Tests.{left_of, right_of, and_of}

-- ---- tests

and_more : (a b c : Bool) → (b ≡ true → c ≡ true) → (a && b) ≡ true → (a && c) ≡ true
and_more a b c h e = let p = and_parts a b e in and_of a c p.0 (h p.1)

or_more : (a b c d : Bool) → (a ≡ true → c ≡ true) → (b ≡ true → d ≡ true) → (a || b) ≡ true → (c || d) ≡ true
or_more a b c d h k e = ⊎_elim (λ p. left_of c d (h p)) (λ p. right_of c d (k p)) (one_of a b e)

any_more : {X : Type 0} (p q : X → Bool) → ((x : X) → p x ≡ true → q x ≡ true) → (xs : List X) → list_any p xs ≡ true → list_any q xs ≡ true
any_more p q h [] e = e
any_more p q h (x ∷ xs) e = or_more (p x) (list_any p xs) (q x) (list_any q xs) (h x) (any_more p q h xs) e

below_more : (p q : ℕ → Bool) → ((i : ℕ) → p i ≡ true → q i ≡ true) → (k : ℕ) → any_below k p ≡ true → any_below k q ≡ true
unfolding any_below
below_more p q h zero e = e
below_more p q h (suc k) e = or_more (p k) (any_below k p) (q k) (any_below k q) (h k) (below_more p q h k) e

-- ---- what is within

is_within_of : (begin end size n low high : ℕ) → Within begin end size n low high → is_within begin end size n low high ≡ true
is_within_of begin end size n low high w =
    and_of _ (n % size == begin % size)
    (and_of _ (high % size == begin % size)
    (and_of _ (low % size == begin % size)
    (and_of _ (nat_le high end)
    (and_of _ (nat_le low high)
    (and_of (nat_lt 0 size) (nat_le begin low) (lt-ltb 0 size w.sized) (le-leb begin low w.begins))
    (le-leb low high w.ordered))
    (le-leb high end w.ends))
    (eq-eqb (low % size) (begin % size) w.low_even))
    (eq-eqb (high % size) (begin % size) w.high_even))
    (eq-eqb (n % size) (begin % size) w.even)

-- ---- a range in a true one

module _ (shapes : List Shape) (to : Pointee) (n low high from upto : ℕ) (above : low ≤ from) (ordered : from ≤ upto) (below : upto ≤ high)
    (first : from % to.size ≡ low % to.size) (last : upto % to.size ≡ high % to.size) where
  closer : (begin end : ℕ) → is_within begin end to.size n low high ≡ true → is_within begin end to.size n from upto ≡ true
  closer begin end e =
      let w = within begin end to.size n low high e in
      let a = w.begins in
      let b = w.ends in
      is_within_of begin end to.size n from upto (record {
        sized = w.sized;
        begins = omega arith;
        ordered = ordered;
        ends = omega arith;
        low_even = first ∙ w.low_even;
        high_even = last ∙ w.high_even;
        even = w.even;
      })

  in_block : (b : Block) → is_in_block to n low high b ≡ true → is_in_block to n from upto b ≡ true
  in_block b e = and_more (same_type to.element b.element) _ _ (by b.terminated) e
    where
      by : (t : Bool) → (if t then is_within b.base (end_of b - b.size) to.size n low high else not to.terminated && is_within b.base (end_of b) to.size n low high) ≡ true
          → (if t then is_within b.base (end_of b - b.size) to.size n from upto else not to.terminated && is_within b.base (end_of b) to.size n from upto) ≡ true
      by true e = closer b.base (end_of b - b.size) e
      by false e = and_more (not to.terminated) _ _ (closer b.base (end_of b)) e

  in_member : (b : Block) (m : MemberRun) → is_in_member to n low high b m ≡ true → is_in_member to n from upto b m ≡ true
  in_member b m e =
      and_more (same_type to.element m.ctype && nat_le (m.offset + to.size) b.size) _ _
      (below_more (λ i. is_at b (b.base + (i * b.size + m.offset)) to.size n low high) (λ i. is_at b (b.base + (i * b.size + m.offset)) to.size n from upto)
      (λ i h. and_more (nat_le ((b.base + (i * b.size + m.offset)) + to.size) (end_of b)) _ _ (closer (b.base + (i * b.size + m.offset)) ((b.base + (i * b.size + m.offset)) + to.size)) h)
      b.count) e

  in_one : (b : Block) → is_in shapes to n low high b ≡ true → is_in shapes to n from upto b ≡ true
  in_one b e =
      and_more b.is_run _ _
      (or_more (is_in_block to n low high b) (not to.terminated && list_any (is_in_member to n low high b) (member_runs shapes b))
      (is_in_block to n from upto b) (not to.terminated && list_any (is_in_member to n from upto b) (member_runs shapes b))
      (in_block b)
      (and_more (not to.terminated) _ _ (any_more (is_in_member to n low high b) (is_in_member to n from upto b) (in_member b) (member_runs shapes b)))) e

  pub closer_true : (blocks : List Block) → is_true shapes blocks to n low high ≡ true → is_true shapes blocks to n from upto ≡ true
  closer_true blocks e = any_more (is_in shapes to n low high) (is_in shapes to n from upto) in_one blocks e

-- ---- what a true range tells

-- elements have a size, the range is in order, and it lies in the data region
pub record Lies (size low high : ℕ) : Type 0 where
  pub sized : 0 < size
  pub ordered : low ≤ high
  pub above : first_place ≤ low
  pub below : high ≤ data_end

module _ (p : Typed) (shapes : List Shape) (to : Pointee) (n low high : ℕ) where
  lies_at : (b : Block) (begin end : ℕ) → IsPlaced p b → b.base ≤ begin → end ≤ end_of b → Within begin end to.size n low high → Lies to.size low high
  lies_at b begin end placed h k w =
      let a = w.begins in
      let c = w.ends in
      let d = placed.above in
      let e = placed.below in
      record { sized = w.sized; ordered = w.ordered; above = omega arith; below = omega arith }

  block_lies : (b : Block) → IsPlaced p b → is_in_block to n low high b ≡ true → Lies to.size low high
  block_lies b placed e = by b.terminated (and_parts (same_type to.element b.element) _ e).1
    where
      by : (t : Bool) → (if t then is_within b.base (end_of b - b.size) to.size n low high else not to.terminated && is_within b.base (end_of b) to.size n low high) ≡ true
          → Lies to.size low high
      by true e = lies_at b b.base (end_of b - b.size) placed (omega arith) (omega arith) (within b.base (end_of b - b.size) to.size n low high e)
      by false e = lies_at b b.base (end_of b) placed (omega arith) (omega arith) (within b.base (end_of b) to.size n low high (and_parts (not to.terminated) _ e).1)

  below_lies : (b : Block) → IsPlaced p b → (offset k : ℕ) → any_below k (λ i. is_at b (b.base + (i * b.size + offset)) to.size n low high) ≡ true → Lies to.size low high
  unfolding any_below
  below_lies b placed offset zero e = absurd cc
  below_lies b placed offset (suc k) e = ⊎_elim
      (λ h. let begin = b.base + (k * b.size + offset) in
      let q = and_parts (nat_le (begin + to.size) (end_of b)) (is_within begin (begin + to.size) to.size n low high) h in
      lies_at b begin (begin + to.size) placed (omega arith) (leb-true (begin + to.size) (end_of b) q.0) (within begin (begin + to.size) to.size n low high q.1))
      (λ h. below_lies b placed offset k h)
      (one_of (is_at b (b.base + (k * b.size + offset)) to.size n low high) (any_below k (λ i. is_at b (b.base + (i * b.size + offset)) to.size n low high)) e)

  members_lie : (b : Block) → IsPlaced p b → (ms : List MemberRun) → list_any (is_in_member to n low high b) ms ≡ true → Lies to.size low high
  members_lie b placed [] e = absurd cc
  members_lie b placed (m ∷ ms) e = ⊎_elim
      (λ h. below_lies b placed m.offset b.count (and_parts (same_type to.element m.ctype && nat_le (m.offset + to.size) b.size) (is_in_some_element b m.offset to.size n low high) h).1)
      (λ h. members_lie b placed ms h)
      (one_of (is_in_member to n low high b m) (list_any (is_in_member to n low high b) ms) e)

  one_lies : (b : Block) → IsPlaced p b → is_in shapes to n low high b ≡ true → Lies to.size low high
  one_lies b placed e =
      let runs = list_any (is_in_member to n low high b) (member_runs shapes b) in
      ⊎_elim
      (λ h. block_lies b placed h)
      (λ h. members_lie b placed (member_runs shapes b) (and_parts (not to.terminated) runs h).1)
      (one_of (is_in_block to n low high b) (not to.terminated && runs) (and_parts b.is_run (is_in_block to n low high b || (not to.terminated && runs)) e).1)

  pub true_lies : (blocks : List Block) → All (IsPlaced p) blocks → is_true shapes blocks to n low high ≡ true → Lies to.size low high
  true_lies [] placed e = absurd cc
  true_lies (b ∷ bs) placed e = ⊎_elim
      (λ h. one_lies b (All-head (IsPlaced p) b bs placed) h)
      (λ h. true_lies bs (All-tail (IsPlaced p) b bs placed) h)
      (one_of (is_in shapes to n low high b) (is_true shapes bs to n low high) e)

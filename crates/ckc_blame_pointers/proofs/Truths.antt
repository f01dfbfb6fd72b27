-- What a true range says.
use Rattle.std.proofs.Common.{◌≡◌, ◌⊎◌, ⊎_elim, inl, inr, refl, ℕ, ◌+◌, ◌-◌, Bool, true, false, List, [], ◌∷◌, arith}
use Rattle.std.specs.Prelude.{◌*◌, ◌<◌, ◌≤◌, ◌&&◌, ◌||◌, not, if◌then◌else◌, nat_le}
use Rattle.std.specs.List.{list_any}
use Rattle.ckc_types.specs.declared.types.CType.{CType}
use Rattle.ckc_types.specs.Same.{same_type}
use Rattle.ckc_source.specs.declared.expr.Pointee.{Pointee}
use Rattle.ckc_source.specs.declared.program.MemberRun.{MemberRun}
use Rattle.ckc_source.specs.declared.program.Shape.{Shape}
use Rattle.ckc_source.specs.Blocks.{Block, end_of}
use Rattle.ckc_source.specs.Runs.{is_within, is_in_block, is_at, is_in_some_element, is_in_member, member_runs, is_in, is_true}
use Rattle.ckc_blame_sound.specs.Cells.{IsReached}
use Rattle.ckc_blame_sound.proofs.Reached.{itself_reached}
use Rattle.ckc_blame_sound.proofs.Ranges.{within, some_below, some_of}
use Rattle.std.proofs.lemmas.Bool.{and_parts}

pub either : (a b : Bool) → (a || b) ≡ true → (a ≡ true) ⊎ (b ≡ true)
either true b h = inl refl
either false b h = inr h

or_left : (a b : Bool) → a ≡ true → (a || b) ≡ true
or_left true b h = refl
or_left false b h = absurd (cc)

or_right : (a b : Bool) → b ≡ true → (a || b) ≡ true
or_right true b h = refl
or_right false b h = h

both : (a b : Bool) → a ≡ true → b ≡ true → (a && b) ≡ true
both true b h k = k
both false b h k = h

any_more : {X : Type 0} (p q : X → Bool) (xs : List X) → ((x : X) → p x ≡ true → q x ≡ true) → list_any p xs ≡ true → list_any q xs ≡ true
any_more p q [] h e = e
any_more p q (x ∷ xs) h e = ⊎_elim (λ t. or_left (q x) (list_any q xs) (h x t)) (λ t. or_right (q x) (list_any q xs) (any_more p q xs h t)) (either (p x) (list_any p xs) e)

-- a range that ends before a terminator may be used without one
pub true_bare : (element : CType) (size : ℕ) (c : Bool) (n low high : ℕ) (shapes : List Shape) (blocks : List Block) → is_true shapes blocks (record { element = element; size = size; terminated = c }) n low high ≡ true
    → is_true shapes blocks (record { element = element; size = size; terminated = false }) n low high ≡ true
true_bare element size false n low high shapes blocks e = e
true_bare element size true n low high shapes blocks e = any_more (is_in shapes ended n low high) (is_in shapes bare n low high) blocks more e
  where
    ended : Pointee
    ended = record { element = element; size = size; terminated = true }

    bare : Pointee
    bare = record { element = element; size = size; terminated = false }

    more : (b : Block) → is_in shapes ended n low high b ≡ true → is_in shapes bare n low high b ≡ true
    more b e =
        let q = and_parts b.is_run (is_in_block ended n low high b || (not true && list_any (is_in_member ended n low high b) (member_runs shapes b))) e in
        let inside : is_in_block ended n low high b ≡ true =
        ⊎_elim (λ h. h) (λ h. absurd (cc)) (either (is_in_block ended n low high b) (not true && list_any (is_in_member ended n low high b) (member_runs shapes b)) q.1) in
        let p = and_parts (same_type element b.element) (if b.terminated then is_within b.base (end_of b - b.size) size n low high else not true && is_within b.base (end_of b) size n low high) inside in
        both b.is_run (is_in_block bare n low high b || (not false && list_any (is_in_member bare n low high b) (member_runs shapes b))) q.0
        (or_left (is_in_block bare n low high b) (not false && list_any (is_in_member bare n low high b) (member_runs shapes b))
        (both (same_type element b.element) (if b.terminated then is_within b.base (end_of b - b.size) size n low high else not false && is_within b.base (end_of b) size n low high) p.0 (by b.terminated p.1)))
      where
        by : (c : Bool) → (if c then is_within b.base (end_of b - b.size) size n low high else not true && is_within b.base (end_of b) size n low high) ≡ true
            → (if c then is_within b.base (end_of b - b.size) size n low high else not false && is_within b.base (end_of b) size n low high) ≡ true
        by true e = e
        by false e = absurd (cc)

module _ (to : Pointee) (n low high : ℕ) where
  block_sized : (b : Block) → is_in_block to n low high b ≡ true → 0 < to.size
  block_sized b e =
      let q = and_parts (same_type to.element b.element) (if b.terminated then is_within b.base (end_of b - b.size) to.size n low high else not to.terminated && is_within b.base (end_of b) to.size n low high) e in
      by b.terminated q.1
    where
      by : (c : Bool) → (if c then is_within b.base (end_of b - b.size) to.size n low high else not to.terminated && is_within b.base (end_of b) to.size n low high) ≡ true → 0 < to.size
      by true e = (within b.base (end_of b - b.size) to.size n low high e).sized
      by false e = (within b.base (end_of b) to.size n low high (and_parts (not to.terminated) (is_within b.base (end_of b) to.size n low high) e).1).sized

  member_sized : (b : Block) (run : MemberRun) → is_in_member to n low high b run ≡ true → 0 < to.size
  member_sized b run e =
      let q = and_parts (same_type to.element run.ctype && nat_le (run.offset + to.size) b.size) (is_in_some_element b run.offset to.size n low high) e in
      let i = some_below b.count (λ i. is_at b (b.base + (i * b.size + run.offset)) to.size n low high) q.1 in
      let begin = b.base + (i.0 * b.size + run.offset) in
      let t = and_parts (nat_le (begin + to.size) (end_of b)) (is_within begin (begin + to.size) to.size n low high) i.2 in
      (within begin (begin + to.size) to.size n low high t.1).sized

  -- An element of a range that is true has a size.
  pub true_sized : (shapes : List Shape) (blocks : List Block) → is_true shapes blocks to n low high ≡ true → 0 < to.size
  true_sized shapes blocks e =
      let q = some_of (is_in shapes to n low high) blocks e in
      let b = q.1 in
      let runs = list_any (is_in_member to n low high b) (member_runs shapes b) in
      let s = and_parts b.is_run (is_in_block to n low high b || (not to.terminated && runs)) q.3 in
      ⊎_elim
      (λ h. block_sized b h)
      (λ h. let m = some_of (is_in_member to n low high b) (member_runs shapes b) (and_parts (not to.terminated) runs h).1 in member_sized b m.1 m.3)
      (either (is_in_block to n low high b) (not to.terminated && runs) s.1)

-- The element at the begin of a true range is reached.
pub first_reached : (shapes : List Shape) (blocks : List Block) (to : Pointee) (n : ℕ) → is_true shapes blocks to n n (n + to.size) ≡ true → IsReached to n n (n + to.size) n
first_reached shapes blocks to n e = itself_reached to n n (n + to.size) (least n) (larger n to.size (true_sized to n n (n + to.size) shapes blocks e))
  where
    least : (n : ℕ) → n ≤ n
    least n = omega arith

    larger : (n size : ℕ) → 0 < size → n < n + size
    larger n size h = omega arith

-- A true range of a pointer is one of words.
use Rattle.std.proofs.Common.{◌≡◌, ℕ, zero, suc, ◌+◌, ◌-◌, ◌*◌, ◌%◌, ◌≤◌, ◌==◌, List, [], ◌∷◌, refl, arith}
use Rattle.std.specs.Prelude.{nat_lt, nat_le, Bool, true, false, not, ◌&&◌, ◌||◌, if◌then◌else◌}
use Rattle.std.specs.List.{list_any}
use Rattle.std.proofs.lemmas.Bool.{leb-true}
use Rattle.ckc_source.specs.declared.expr.Pointee.{Pointee}
use Rattle.ckc_source.specs.declared.program.MemberRun.{MemberRun}
use Rattle.ckc_source.specs.declared.program.Shape.{Shape}
use Rattle.ckc_source.specs.LaidOut.{AreApart}
use Rattle.ckc_source.specs.Blocks.{Block, end_of}
use Rattle.ckc_source.specs.Same.{same_type}
use Rattle.ckc_source.specs.Runs.{is_within, is_in_block, any_below, is_at, is_in_some_element, is_in_member, member_runs, is_in, is_true}
use Rattle.ckc_checks_follow.proofs.Bytes.{and_true, apart_ordered}

-- the range is in order and ends up to an address
abbrev pub EndsBy : (low high end : ℕ) → Type 0
EndsBy low high end = (low ≤ high) × (high ≤ end)

middle : (a b c d e f g : Bool) → (a && b && c && d && e && f && g) ≡ true → (c ≡ true) × (d ≡ true)
middle true true true true e f g h = (refl, refl)
middle true true true false e f g h = absurd cc
middle true true false d e f g h = absurd cc
middle true false c d e f g h = absurd cc
middle false b c d e f g h = absurd cc

or_true : (a b : Bool) (P : Type 0) → (a ≡ true → P) → (b ≡ true → P) → (a || b) ≡ true → P
or_true true b P f g h = f refl
or_true false b P f g h = g h

within_ends : (begin end size n low high : ℕ) → is_within begin end size n low high ≡ true → EndsBy low high end
within_ends begin end size n low high e =
    let p = middle (nat_lt 0 size) (nat_le begin low) (nat_le low high) (nat_le high end) (low % size == begin % size) (high % size == begin % size) (n % size == begin % size) e in
    (leb-true low high p.0, leb-true high end p.1)

ends_later : (low high end later : ℕ) → end ≤ later → EndsBy low high end → EndsBy low high later
ends_later low high end later more h = (h.0, omega (arith, h.1))

in_block : (to : Pointee) (n low high : ℕ) (b : Block) → is_in_block to n low high b ≡ true → EndsBy low high (end_of b)
in_block to n low high b e =
    let p = and_true (same_type to.element b.element) (if b.terminated then is_within b.base (end_of b - b.size) to.size n low high else not to.terminated && is_within b.base (end_of b) to.size n low high) e in
    by b.terminated p.1
  where
    by : (last : Bool) → (if last then is_within b.base (end_of b - b.size) to.size n low high else not to.terminated && is_within b.base (end_of b) to.size n low high) ≡ true
        → EndsBy low high (end_of b)
    by true h = ends_later low high (end_of b - b.size) (end_of b) (omega arith) (within_ends b.base (end_of b - b.size) to.size n low high h)
    by false h =
        let q = and_true (not to.terminated) (is_within b.base (end_of b) to.size n low high) h in
        within_ends b.base (end_of b) to.size n low high q.1

some_below : (k : ℕ) (test : ℕ → Bool) (P : Type 0) → ((i : ℕ) → test i ≡ true → P) → any_below k test ≡ true → P
unfolding any_below
some_below zero test P f h = absurd cc
some_below (suc k) test P f h = or_true (test k) (any_below k test) P (f k) (some_below k test P f) h

some_of : {X : Type 0} (p : X → Bool) (xs : List X) (P : Type 0) → ((x : X) → p x ≡ true → P) → list_any p xs ≡ true → P
some_of p [] P f h = absurd cc
some_of p (x ∷ xs) P f h = or_true (p x) (list_any p xs) P (f x) (some_of p xs P f) h

at_ends : (b : Block) (begin size n low high : ℕ) → is_at b begin size n low high ≡ true → EndsBy low high (end_of b)
at_ends b begin size n low high e =
    let p = and_true (nat_le (begin + size) (end_of b)) (is_within begin (begin + size) size n low high) e in
    ends_later low high (begin + size) (end_of b) (leb-true (begin + size) (end_of b) p.0) (within_ends begin (begin + size) size n low high p.1)

in_member : (to : Pointee) (n low high : ℕ) (b : Block) (m : MemberRun) → is_in_member to n low high b m ≡ true → EndsBy low high (end_of b)
in_member to n low high b m e =
    let p = and_true (same_type to.element m.ctype && nat_le (m.offset + to.size) b.size) (is_in_some_element b m.offset to.size n low high) e in
    some_below b.count (λ i. is_at b (b.base + (i * b.size + m.offset)) to.size n low high) (EndsBy low high (end_of b))
    (λ i h. at_ends b (b.base + (i * b.size + m.offset)) to.size n low high h) p.1

in_ends : (shapes : List Shape) (to : Pointee) (n low high : ℕ) (b : Block) → is_in shapes to n low high b ≡ true → EndsBy low high (end_of b)
in_ends shapes to n low high b e =
    let p = and_true b.is_run (is_in_block to n low high b || (not to.terminated && list_any (is_in_member to n low high b) (member_runs shapes b))) e in
    or_true (is_in_block to n low high b) (not to.terminated && list_any (is_in_member to n low high b) (member_runs shapes b)) (EndsBy low high (end_of b))
    (in_block to n low high b)
    (λ h.
    let q = and_true (not to.terminated) (list_any (is_in_member to n low high b) (member_runs shapes b)) h in
    some_of (is_in_member to n low high b) (member_runs shapes b) (EndsBy low high (end_of b)) (in_member to n low high b) q.1) p.1

-- A true range ends below what the blocks end below.
pub true_ends : (shapes : List Shape) (to : Pointee) (n low high begin limit : ℕ) (blocks : List Block) → AreApart begin blocks limit → is_true shapes blocks to n low high ≡ true → EndsBy low high limit
true_ends shapes to n low high begin limit [] apart e = absurd cc
true_ends shapes to n low high begin limit (b ∷ blocks) apart e =
    let behind : end_of b + 1 ≤ limit = apart_ordered (end_of b + 1) limit blocks apart.1 in
    or_true (is_in shapes to n low high b) (list_any (is_in shapes to n low high) blocks) (EndsBy low high limit)
    (λ h. ends_later low high (end_of b) limit (omega arith) (in_ends shapes to n low high b h))
    (true_ends shapes to n low high (end_of b + 1) limit blocks apart.1) e

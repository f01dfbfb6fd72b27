-- Addresses some elements away, and ranges that are true of each pointer that is a number of elements away.
use Rattle.std.proofs.Common.{◌≡◌, sym, ap, ◌∙◌, ℕ, zero, suc, ◌+◌, ◌-◌, ◌*◌, ◌%◌, ◌==◌, List, Bool, arith}
use Rattle.std.proofs.Math.Path.{fun_ext}
use Rattle.std.proofs.Math.IntN.{neg_ℤ, pos-*ℤ-pos, pos-*ℤ-negsuc, suc_ℤ-*ℤ}
use Rattle.std.proofs.Math.Nat.{add-mul-mod_self_left}
use Rattle.std.proofs.lemmas.Int.{ints}
use Rattle.std.specs.Prelude.{◌&&◌, ◌||◌, not, nat_lt, nat_le, if◌then◌else◌, ℤ, pos, negsuc, ◌+ℤ◌, ◌*ℤ◌}
use Rattle.std.specs.List.{list_any}
use Rattle.ckc_types.specs.Same.{same_type}
use Rattle.ckc_source.specs.declared.expr.Pointee.{Pointee}
use Rattle.ckc_source.specs.declared.program.MemberRun.{MemberRun}
use Rattle.ckc_source.specs.declared.program.Shape.{Shape}
use Rattle.ckc_source.specs.Blocks.{Block, end_of}
use Rattle.ckc_source.specs.Runs.{is_within, is_in_block, any_below, is_in_member, member_runs, is_in, is_true}
use Rattle.ckc_source.specs.Words.{elements_behind}

-- ---- products of a size

zero_times : (x : ℤ) → pos 0 *ℤ x ≡ pos 0
zero_times (pos n) = pos-*ℤ-pos 0 n ∙ ap pos none
  where
    none : 0 * n ≡ 0
    none = omega arith
zero_times (negsuc n) = pos-*ℤ-negsuc 0 n ∙ ap (λ m. neg_ℤ (pos m)) none
  where
    none : 0 * suc n ≡ 0
    none = omega arith

pub times_sum : (s : ℕ) (x y : ℤ) → pos s *ℤ (x +ℤ y) ≡ (pos s *ℤ x) +ℤ (pos s *ℤ y)
times_sum zero x y =
    let a : pos 0 *ℤ (x +ℤ y) ≡ pos 0 = zero_times (x +ℤ y) in
    let b : pos 0 *ℤ x ≡ pos 0 = zero_times x in
    let c : pos 0 *ℤ y ≡ pos 0 = zero_times y in
    omega (arith, ints)
times_sum (suc s) x y =
    let a : pos (suc s) *ℤ (x +ℤ y) ≡ (pos s *ℤ (x +ℤ y)) +ℤ (x +ℤ y) = suc_ℤ-*ℤ (pos s) (x +ℤ y) in
    let b : pos (suc s) *ℤ x ≡ (pos s *ℤ x) +ℤ x = suc_ℤ-*ℤ (pos s) x in
    let c : pos (suc s) *ℤ y ≡ (pos s *ℤ y) +ℤ y = suc_ℤ-*ℤ (pos s) y in
    let d : pos s *ℤ (x +ℤ y) ≡ (pos s *ℤ x) +ℤ (pos s *ℤ y) = times_sum s x y in
    omega (arith, ints)

pub times_negative : (s : ℕ) (x : ℤ) → pos s *ℤ neg_ℤ x ≡ neg_ℤ (pos s *ℤ x)
times_negative s x =
    let a : pos s *ℤ (x +ℤ neg_ℤ x) ≡ (pos s *ℤ x) +ℤ (pos s *ℤ neg_ℤ x) = times_sum s x (neg_ℤ x) in
    let b : pos s *ℤ (x +ℤ neg_ℤ x) ≡ pos s *ℤ pos 0 = ap (λ z. pos s *ℤ z) none in
    let c : pos s *ℤ pos 0 ≡ pos (s * 0) = pos-*ℤ-pos s 0 in
    let d : s * 0 ≡ 0 = omega arith in
    omega (arith, ints)
  where
    none : x +ℤ neg_ℤ x ≡ pos 0
    none = omega (arith, ints)

-- some elements behind an address that is some elements behind another one
pub elements_twice : (base size : ℕ) (x y : ℤ) (n : ℕ) → pos n ≡ elements_behind base size x → elements_behind n size y ≡ elements_behind base size (x +ℤ y)
elements_twice base size x y n e =
    let d : pos size *ℤ (x +ℤ y) ≡ (pos size *ℤ x) +ℤ (pos size *ℤ y) = times_sum size x y in
    let p : ℤ = pos size *ℤ x in
    let q : ℤ = pos size *ℤ y in
    omega (arith, ints)

-- ---- remainders

steps_on : (a n k : ℕ) → pos a ≡ pos n +ℤ pos k → a ≡ n + k
steps_on a n k e = omega (arith, ints)

-- so many elements away, the remainder is the same
pub away : (a n s : ℕ) (z : ℤ) → pos a ≡ elements_behind n s z → a % s ≡ n % s
away a n s (pos m) e =
    let on = steps_on a n (s * m) (e ∙ ap (λ y. pos n +ℤ y) (pos-*ℤ-pos s m)) in
    ap (λ x. x % s) on ∙ add-mul-mod_self_left n s m
away a n s (negsuc m) e =
    let back = steps_back a n (s * suc m) (e ∙ ap (λ y. pos n +ℤ y) (pos-*ℤ-negsuc s m)) in
    sym (add-mul-mod_self_left a s (suc m)) ∙ ap (λ x. x % s) (sym back)
  where
    steps_back : (a n k : ℕ) → pos a ≡ pos n +ℤ neg_ℤ (pos k) → n ≡ a + k
    steps_back a n k e = omega (arith, ints)

-- ---- true ranges

-- of a pointer only its remainder counts
abbrev within_by : (begin end size r low high : ℕ) → Bool
within_by begin end size r low high =
    nat_lt 0 size && nat_le begin low && nat_le low high && nat_le high end
    && (low % size == begin % size) && (high % size == begin % size) && (r == begin % size)

module _ (shapes : List Shape) (to : Pointee) (n m low high : ℕ) (same : m % to.size ≡ n % to.size) where
  within_same : (begin end : ℕ) → is_within begin end to.size m low high ≡ is_within begin end to.size n low high
  within_same begin end = ap (λ r. within_by begin end to.size r low high) same

  block_same : (b : Block) → is_in_block to m low high b ≡ is_in_block to n low high b
  block_same b =
      ap (λ (w : Bool × Bool). same_type to.element b.element && (if b.terminated then w.0 else not to.terminated && w.1))
      (both (within_same b.base (end_of b - b.size)) (within_same b.base (end_of b)))
    where
      both : {a c d e : Bool} → a ≡ c → d ≡ e → ◌≡◌ {A = Bool × Bool} (a, d) (c, e)
      both {a} {c} {d} {e} p q = ap (λ (x : Bool). (x, d)) p ∙ ap (λ (y : Bool). (c, y)) q

  member_same : (b : Block) (r : MemberRun) → is_in_member to m low high b r ≡ is_in_member to n low high b r
  member_same b r =
      ap (λ test. same_type to.element r.ctype && nat_le (r.offset + to.size) b.size && any_below b.count test)
      (fun_ext (λ i. ap (λ w. nat_le (b.base + (i * b.size + r.offset) + to.size) (end_of b) && w)
      (within_same (b.base + (i * b.size + r.offset)) (b.base + (i * b.size + r.offset) + to.size))))

  in_same : (b : Block) → is_in shapes to m low high b ≡ is_in shapes to n low high b
  in_same b =
      ap (λ x. b.is_run && (x || (not to.terminated && list_any (is_in_member to m low high b) (member_runs shapes b)))) (block_same b)
      ∙ ap (λ test. b.is_run && (is_in_block to n low high b || (not to.terminated && list_any test (member_runs shapes b)))) (fun_ext (member_same b))

  pub true_same : (blocks : List Block) → is_true shapes blocks to m low high ≡ is_true shapes blocks to n low high
  true_same blocks = ap (λ test. list_any test blocks) (fun_ext in_same)

-- ---- elements behind an address

pub same_number : (m n : ℕ) → pos m ≡ pos n → m ≡ n
same_number m n e = omega (arith, ints)

pub nothing_behind : (n size : ℕ) → elements_behind n size (pos 0) ≡ pos n
nothing_behind n size =
    let product : pos size *ℤ pos 0 ≡ pos (size * 0) = pos-*ℤ-pos size 0 in
    let none : size * 0 ≡ 0 = omega arith in
    let product_is : pos size *ℤ pos 0 ≡ pos 0 = product ∙ ap pos none in
    omega (arith, ints)

pub one_behind : (n size : ℕ) → elements_behind n size (pos 1) ≡ pos (n + size)
one_behind n size =
    let product : pos size *ℤ pos 1 ≡ pos (size * 1) = pos-*ℤ-pos size 1 in
    let same : size * 1 ≡ size = omega arith in
    let product_is : pos size *ℤ pos 1 ≡ pos size = product ∙ ap pos same in
    omega (arith, ints)

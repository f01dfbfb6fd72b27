-- Addresses that are so many elements apart.
use Rattle.std.proofs.Common.{◌≡◌, ℕ, suc, ◌+◌, ◌-◌, ◌*◌, ◌/◌, ◌%◌, ◌≤◌, ◌<◌, sym, ◌∙◌, ap, subst, arith}
use Rattle.std.specs.Prelude.{Bool, true, false, if◌then◌else◌, ℤ, pos, negsuc, ◌+ℤ◌, ◌-ℤ◌, ◌*ℤ◌}
use Rattle.std.proofs.lemmas.Int.{ints}
use Rattle.std.proofs.Math.IntN.{neg_ℤ, pos-*ℤ-pos, pos-*ℤ-negsuc}
use Rattle.std.proofs.Math.Nat.{lt_of_mul-lt-mul_right, mod-add-div, mul_comm, mul-sub, mul-le-mul_right, suc-mul, mul-mod_left, add-mul-mod_self_left}
use Rattle.ckc_source.specs.declared.expr.Shift.{Shift}
use Rattle.ckc_source.specs.Eval.{moved_exactly, place_in}
use Rattle.ckc_source.specs.Words.{elements_behind}

-- ---- so many elements behind

-- an address as far behind another as some elements
elements_between : (s base a : ℕ) → base ≤ a → a % s ≡ base % s → (i : ℕ) × (a ≡ base + i * s)
elements_between s base a h e =
    let x = mod-add-div a s in
    let y = mod-add-div base s in
    let q = a / s - base / s in
    let less = mul-sub s (a / s) (base / s) in
    let turned = mul_comm q s in
    (q, omega arith)

-- a whole element lies between
element_between : (s i j : ℕ) → i < j → i * s + s ≤ j * s
element_between s i j h =
    let more = suc-mul i s in
    let up : suc i * s ≤ j * s = mul-le-mul_right s (omega arith) in
    omega arith

-- An element that begins before another one is whole in front of it.
pub whole_before : (s base a top : ℕ) → base ≤ a → base ≤ top → a % s ≡ base % s → top % s ≡ base % s → a < top → a + s ≤ top
whole_before s base a top l up e f less =
    let i = elements_between s base a l e in
    let j = elements_between s base top up f in
    let at = i.1 in
    let last = j.1 in
    let fewer : i.0 < j.0 = lt_of_mul-lt-mul_right s (omega arith) in
    let room = element_between s i.0 j.0 fewer in
    omega arith

product_even : (i s : ℕ) → s % 4 ≡ 0 → (i * s) % 4 ≡ 0
product_even i s e =
    let x = mod-add-div s 4 in
    let is : s ≡ 4 * (s / 4) = omega arith in
    let again : i * s ≡ i * (s / 4) * 4 = ap (λ k. i * k) is ∙ turn i (s / 4) in
    ap (λ k. k % 4) again ∙ mul-mod_left (i * (s / 4)) 4
  where
    turn : (i k : ℕ) → i * (4 * k) ≡ i * k * 4
    turn i k = grind arith

-- Elements whose size is a multiple of 4 lie at multiples of 4 where the first one does.
pub elements_even : (s base i : ℕ) → s % 4 ≡ 0 → base % 4 ≡ 0 → (base + i * s) % 4 ≡ 0
elements_even s base i e f = let p = product_even i s e in omega arith

pub element_even : (s base a : ℕ) → base ≤ a → a % s ≡ base % s → s % 4 ≡ 0 → base % 4 ≡ 0 → a % 4 ≡ 0
element_even s base a l e even at =
    let i = elements_between s base a l e in
    subst (λ n. n % 4 ≡ 0) (sym i.1) (elements_even s base i.0 even at)

-- ---- the same remainder

steps_on : (a n k : ℕ) → pos a ≡ pos n +ℤ pos k → a ≡ n + k
steps_on a n k e = omega (arith, ints)

steps_back : (a n k : ℕ) → pos a ≡ pos n +ℤ neg_ℤ (pos k) → n ≡ a + k
steps_back a n k e = omega (arith, ints)

-- so many elements away, the remainder is the same
pub away : (a n s : ℕ) (z : ℤ) → pos a ≡ elements_behind n s z → a % s ≡ n % s
away a n s (pos m) e =
    let on = steps_on a n (s * m) (e ∙ ap (λ y. pos n +ℤ y) (pos-*ℤ-pos s m)) in
    ap (λ x. x % s) on ∙ add-mul-mod_self_left n s m
away a n s (negsuc m) e =
    let back = steps_back a n (s * suc m) (e ∙ ap (λ y. pos n +ℤ y) (pos-*ℤ-negsuc s m)) in
    sym (add-mul-mod_self_left a s (suc m)) ∙ ap (λ x. x % s) (sym back)

away_back : (a n s : ℕ) (z : ℤ) → pos a ≡ pos n -ℤ (pos s *ℤ z) → a % s ≡ n % s
away_back a n s (pos m) e =
    let back = less a n (s * m) (e ∙ ap (λ y. pos n -ℤ y) (pos-*ℤ-pos s m)) in
    sym (add-mul-mod_self_left a s m) ∙ ap (λ x. x % s) (sym back)
  where
    less : (a n k : ℕ) → pos a ≡ pos n -ℤ pos k → n ≡ a + k
    less a n k e = omega (arith, ints)
away_back a n s (negsuc m) e =
    let on = more a n (s * suc m) (e ∙ ap (λ y. pos n -ℤ y) (pos-*ℤ-negsuc s m)) in
    ap (λ x. x % s) on ∙ add-mul-mod_self_left n s (suc m)
  where
    more : (a n k : ℕ) → pos a ≡ pos n -ℤ neg_ℤ (pos k) → a ≡ n + k
    more a n k e = omega (arith, ints)

-- a pointer that is moved has the same remainder
pub moved_away : (shift : Shift) (a n : ℕ) (z : ℤ) → pos a ≡ moved_exactly shift n z → a % shift.size ≡ n % shift.size
moved_away shift a n z e = by shift.back e
  where
    by : (b : Bool) → pos a ≡ (if b then pos n -ℤ (pos shift.size *ℤ z) else elements_behind n shift.size z) → a % shift.size ≡ n % shift.size
    by true e = away_back a n shift.size z e
    by false e = away a n shift.size z e

-- ---- places

-- a part of a part
pub place_again : (a x y : ℕ) → place_in (place_in a x) y ≡ place_in a (x + y)
place_again a x y = omega arith

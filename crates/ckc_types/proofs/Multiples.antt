-- The next multiple of a number.
use Rattle.std.proofs.Common.{◌≡◌, ◌⊎◌, ⊎_elim, inl, inr, ℕ, ◌+◌, ◌-◌, ◌*◌, ◌/◌, ◌%◌, ◌<◌, ◌≤◌, suc, ap, ◌∙◌, arith}
use Rattle.std.proofs.Math.Nat.{eq-zero-or-pos, lt_of_mul-lt-mul_right, mod-add-div, mod-eq_of_lt, mod-lt, mod_self, mul_comm, mul-le-mul_right, suc-mul}
use Rattle.std.specs.Int.{next_multiple_of}
use Rattle.ckc_types.specs.Multiples.{IsLeastMultiple}

-- a multiple that is less than one step further is the least
least_at : (x y m q : ℕ) → m ≡ q * y → x ≤ m → m < x + y → IsLeastMultiple x y m
least_at x y m q is reaches near = record {
  multiple = (q, is);
  reaches = reaches;
  least = λ k h.
      let more = suc-mul k y in
      let below : q * y < suc k * y = omega arith in
      let few : q < suc k = lt_of_mul-lt-mul_right y below in
      let fewer : q ≤ k = omega arith in
      let up : q * y ≤ k * y = mul-le-mul_right y fewer in
      omega arith;
}

-- how far x is from the next multiple, by what it is over the one before
gap_is : (y r : ℕ) → 0 < y → r < y → ((r ≡ 0) × ((y - r) % y ≡ 0)) ⊎ ((y - r) % y + r ≡ y)
gap_is y r h within = ⊎_elim
    (λ z. let e : y - r ≡ y = omega arith in inl (z, ap (λ d. d % y) e ∙ mod_self y))
    (λ p. let less : y - r < y = omega arith in let e = mod-eq_of_lt less in inr (omega arith))
    (eq-zero-or-pos r)

pub next_is_least : (x y : ℕ) → 0 < y → IsLeastMultiple x y (next_multiple_of x y)
next_is_least x y h =
    let whole : x % y + y * (x / y) ≡ x = mod-add-div x y in
    let turned : y * (x / y) ≡ x / y * y = mul_comm y (x / y) in
    let within : x % y < y = mod-lt x h in
    let near : (y - x % y) % y < y = mod-lt (y - x % y) h in
    let more = suc-mul (x / y) y in
    ⊎_elim
    (λ w. let r = w.0 in let e = w.1 in least_at x y (next_multiple_of x y) (x / y) (omega arith) (omega arith) (omega arith))
    (λ e. least_at x y (next_multiple_of x y) (suc (x / y)) (omega arith) (omega arith) (omega arith))
    (gap_is y (x % y) h within)

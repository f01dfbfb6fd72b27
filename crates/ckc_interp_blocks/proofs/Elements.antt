-- A range lies in a member of an element of a block exactly when it does so at one of two elements.
use Rattle.std.proofs.Common.{◌≡◌, ◌⊎◌, inl, inr, ℕ, zero, suc, ◌+◌, ◌-◌, ◌*◌, ◌/◌, ◌<◌, ◌≤◌, Bool, true, false, nat_lt, refl, sym, ◌∙◌, subst, arith}
use Rattle.std.proofs.lemmas.Bool.{cases_Bool, cases_eq, cases_order, and_parts, ltb-true, lt-ltb, true≢false}
use Rattle.std.proofs.lemmas.Bool.Decides.{nat_tests}
use Rattle.std.proofs.Math.Nat.{mul-le-mul_right, div-mul-le_self, lt-div-mul-add}
use Rattle.ckc_source.specs.Blocks.{Block, end_of}
use Rattle.ckc_source.specs.Runs.{is_at, any_below, is_in_some_element}
use Rattle.ckc_interp_blocks.specs.code.Held.{is_at_element}

below_false : (n : ℕ) (f : ℕ → Bool) → ((i : ℕ) → i < n → f i ≡ false) → any_below n f ≡ false
unfolding any_below
below_false zero f h = refl
below_false (suc n) f h =
    let here = h n (omega arith) in let there = below_false n f (λ i k. h i (omega arith)) in rw (here, there) refl

below_true : (n : ℕ) (f : ℕ → Bool) (i : ℕ) → i < n → f i ≡ true → any_below n f ≡ true
unfolding any_below
below_true zero f i k e = absurd (omega arith)
below_true (suc n) f i k e = elim (cases_eq i n) [
  | inl same ↦ let here : f n ≡ true = subst (λ j. f j ≡ true) same e in rw here refl
  | inr other ↦ elim (cases_Bool (f n)) [
    | inl t ↦ rw t refl
    | inr t ↦ rw t (below_true n f i (omega arith) e)
  ]
]

-- a test fails at all numbers below a bound, or passes at some number
cases_below : (n : ℕ) (f : ℕ → Bool) → ((i : ℕ) → i < n → f i ≡ false) ⊎ ((i : ℕ) × (f i ≡ true))
cases_below zero f = inl (λ i h. absurd (omega arith))
cases_below (suc n) f = elim (cases_Bool (f n)) [
  | inl t ↦ inr (n, t)
  | inr t ↦ elim (cases_below n f) [
    | inl none ↦ inl (λ i h. elim (cases_eq i n) [
      | inl same ↦ subst (λ j. f j ≡ false) (sym same) t
      | inr other ↦ none i (omega arith)
    ])
    | inr one ↦ inr one
  ]
]

module _ (b : Block) (offset size n low high : ℕ) where
  abbrev at : ℕ → Bool
  at i = is_at_element b offset size n low high i

  abbrev within : ℕ → Bool
  within i = is_at b (b.base + (i * b.size + offset)) size n low high

  pub hit : (i : ℕ) → is_at_element b offset size n low high i ≡ true → is_in_some_element b offset size n low high ≡ true
  hit i e = let p = and_parts (nat_lt i b.count) (within i) e in below_true b.count within i (ltb-true i b.count p.0) p.1

  within_near : (i : ℕ) → within i ≡ true → (b.base + (i * b.size + offset) ≤ low) × (low ≤ b.base + (i * b.size + offset) + size)
  within_near i e = grind (arith, nat_tests)

  miss : ((i : ℕ) → within i ≡ true → ⊥) → is_in_some_element b offset size n low high ≡ false
  miss h = below_false b.count within (λ i k. elim (cases_Bool (within i)) [ inl t ↦ absurd (h i t) | inr t ↦ t ])

  pub none_of_size : size ≡ 0 → is_in_some_element b offset size n low high ≡ false
  none_of_size e = miss (λ i t. grind (arith, nat_tests))

  pub none_before : low < b.base + offset → is_in_some_element b offset size n low high ≡ false
  none_before h = miss (λ i t. let p = within_near i t in omega arith)

  quotient : (s i d : ℕ) → 0 < s → i * s ≤ d → d ≤ i * s + s → (i ≡ d / s) ⊎ (i + 1 ≡ d / s)
  quotient s i d h below above =
      let floor : d / s * s ≤ d = div-mul-le_self d s in
      let ceiling : d < d / s * s + s = lt-div-mul-add h in
      elim (cases_order i (d / s)) [
        | inl same ↦ inl same
        | inr (inl less) ↦ elim (cases_eq (i + 1) (d / s)) [
          | inl same ↦ inr same
          | inr other ↦
              let step : (i + 2) * s ≤ d / s * s = mul-le-mul_right s (omega arith) in
              let split : (i + 2) * s ≡ i * s + s + s = omega arith in
              absurd (omega arith)
        ]
        | inr (inr more) ↦
            let step : (d / s + 1) * s ≤ i * s = mul-le-mul_right s (omega arith) in
            let split : (d / s + 1) * s ≡ d / s * s + s = omega arith in
            absurd (omega arith)
      ]

  module _ (h : b.base + offset ≤ low) (fits : offset + size ≤ b.size) (some : 0 < size) (last : ℕ) (e : last ≡ (low - (b.base + offset)) / b.size) where
    near : (i : ℕ) → within i ≡ true → (i ≡ last) ⊎ (i + 1 ≡ last)
    near i t =
        let p = within_near i t in
        subst (λ (q : ℕ). (i ≡ q) ⊎ (i + 1 ≡ q)) (sym e) (quotient b.size i (low - (b.base + offset)) (omega arith) (omega arith) (omega arith))

    -- the element before the last one begins before the span, too
    pub begins : (i : ℕ) → i ≤ last → b.base + (i * b.size + offset) ≤ low
    begins i k =
        let floor : (low - (b.base + offset)) / b.size * b.size ≤ low - (b.base + offset) = div-mul-le_self (low - (b.base + offset)) b.size in
        let less : i * b.size ≤ (low - (b.base + offset)) / b.size * b.size = mul-le-mul_right b.size (omega arith) in
        omega arith

    -- what is not at two neighbours is nowhere
    pub miss_both : is_at_element b offset size n low high last ≡ false
        → (0 < last → is_at_element b offset size n low high (last - 1) ≡ false)
        → is_in_some_element b offset size n low high ≡ false
    miss_both here before = below_false b.count within (λ i k. elim (cases_Bool (within i)) [
      | inl t ↦ elim (near i t) [
        | inl same ↦
            let found : at i ≡ true = rw (lt-ltb i b.count k, t) refl in
            let there : at last ≡ true = subst (λ j. at j ≡ true) same found in
            absurd (true≢false (sym there ∙ here))
        | inr next ↦
            let found : at i ≡ true = rw (lt-ltb i b.count k, t) refl in
            let is : i ≡ last - 1 = omega arith in
            let there : at (last - 1) ≡ true = subst (λ j. at j ≡ true) is found in
            absurd (true≢false (sym there ∙ before (omega arith)))
      ]
      | inr t ↦ t
    ])

    pub last_or_none : (r : Bool) → is_at_element b offset size n low high last ≡ false → r ≡ is_at_element b offset size n low high (last - 1)
        → r ≡ is_in_some_element b offset size n low high
    last_or_none true here e = sym (hit (last - 1) (sym e))
    last_or_none false here e = sym (miss_both here (λ _. sym e))

  -- what lies at some element lies in the block
  pub element_lies : is_in_some_element b offset size n low high ≡ true → (b.base ≤ low) × (low ≤ high) × (high ≤ end_of b)
  element_lies e = elim (cases_below b.count within) [
    | inl none ↦ absurd (true≢false (sym e ∙ below_false b.count within none))
    | inr one ↦ let t = one.1 in grind (arith, nat_tests)
  ]

-- The test of a bounds cast says whether the new bounds lie in the old ones.
use Rattle.std.proofs.Common.{◌≡◌, ℕ, suc, ◌+◌, ◌-◌, ◌*◌, ◌/◌, ◌^◌, ◌≤◌, ◌<◌, ◌==◌, refl, sym, ◌∙◌, ap, arith}
use Rattle.std.specs.Prelude.{ℤ, pos, negsuc, ◌+ℤ◌, ◌<ℤ◌, nat_lt, nat_le, bit_and, bit_or, ◌&&◌, ◌||◌, Bool, true, false, if◌then◌else◌, Option, Some, ◌↔◌}
use Rattle.std.proofs.lemmas.Bool.Decides.{nat_tests}
use Rattle.std.proofs.lemmas.Int.{ints}
use Rattle.std.proofs.Math.IntN.{pos-*ℤ-pos}
use Rattle.std.proofs.Math.Nat.{mul-le-mul_left, le-div_iff_mul-le}
use Rattle.ckc_base.specs.declared.arithmetic.BinOp.TheVariants as binary
use Rattle.ckc_base.specs.declared.places.Pos.{Pos}
use Rattle.ckc_base.specs.declared.runtime_checks.Check.TheVariants.{Cast}
use Rattle.ckc_base.specs.Words.{signed, flag, applied}
use Rattle.ckc_base.specs.Memory.{Memory}
use Rattle.ckc_base.specs.Activations.{Values}
use Rattle.ckc_source.specs.declared.expr.Integer.{Integer}
use Rattle.ckc_source.specs.declared.expr.Integer.TheVariants as integer
use Rattle.ckc_source.specs.declared.outcome.Range.TheVariants.{Within}
use Rattle.ckc_source.specs.Words.{exact, elements_behind}
use Rattle.ckc_source.specs.Eval.{ranged, stops, tests_within}
use Rattle.ckc_core.specs.Code.{Expr, Const, Local, Bin}
use Rattle.ckc_core.specs.Meaning.{value_of, both}
use Rattle.ckc_checks_operands.specs.code.Pointers.{below_or_at, held_test, bytes_left, bytes_fit, elements_fit, cast_test}
use Rattle.ckc_checks_follow.proofs.Exact.{low_signed, product_high}
use Rattle.ckc_checks_follow.proofs.Ranges.{at_most_word, held_value_of}

-- ---- flags

and_flags : (a b : Bool) → bit_and (flag a) (flag b) ≡ flag (a && b)
and_flags true true = refl
and_flags true false = refl
and_flags false true = refl
and_flags false false = refl

or_flags : (a b : Bool) → bit_or (flag a) (flag b) ≡ flag (a || b)
or_flags true true = refl
or_flags true false = refl
or_flags false true = refl
or_flags false false = refl

-- ---- the test as a word

abbrev pub is_small : Integer → ℕ → Bool
is_small integer.Int k = nat_lt k (2 ^ 31)
is_small integer.Unsigned k = true
is_small integer.Char k = true

-- so many elements from q on fit, in a range of so many bytes
abbrev pub fits_in : ℕ → Integer → (k q low length : ℕ) → Bool
fits_in size form k q low length =
    (nat_le low q && nat_le (applied binary.Sub q low) length)
    && (is_small form k && nat_le k (applied binary.Sub length (applied binary.Sub q low) / size))

divided_by : (size d : ℕ) → 1 ≤ size → applied binary.DivU d size ≡ d / size
divided_by size d h =
    let some : (size == 0) ≡ false = grind arith in
    ap (λ b. if b then 2 ^ 32 - 1 else d / size) some

fits_product : (size k d : ℕ) → 1 ≤ size → nat_le k (d / size) ≡ nat_le (k * size) d
fits_product size k d some = by (nat_le (k * size) d) refl
  where
    law : (k ≤ d / size) ↔ (k * size ≤ d)
    law = le-div_iff_mul-le some

    by : (b : Bool) → nat_le (k * size) d ≡ b → nat_le k (d / size) ≡ b
    by true e =
        let le : k * size ≤ d = grind (arith, nat_tests) in
        let fits : k ≤ d / size = law.1 le in
        grind (arith, nat_tests)
    by false e = at_most (nat_le k (d / size)) refl
      where
        at_most : (c : Bool) → nat_le k (d / size) ≡ c → c ≡ false
        at_most false f = refl
        at_most true f =
            let fits : k ≤ d / size = grind (arith, nat_tests) in
            let le : k * size ≤ d = law.0 fits in
            absurd (let wrong : nat_le (k * size) d ≡ true = grind (arith, nat_tests) in let no : true ≡ false = sym wrong ∙ e in cc)

-- so many elements of two bytes or more have a count that is not negative, if they fit in some bytes
wide_small : (size : ℕ) (form : Integer) (k d : ℕ) → 2 ≤ size → d < 2 ^ 32 → nat_le k (d / size) ≡ (is_small form k && nat_le k (d / size))
wide_small size integer.Unsigned k d wide few = refl
wide_small size integer.Char k d wide few = refl
wide_small size integer.Int k d wide few = by (nat_lt k (2 ^ 31)) refl
  where
    by : (natural : Bool) → nat_lt k (2 ^ 31) ≡ natural → nat_le k (d / size) ≡ (natural && nat_le k (d / size))
    by true e = refl
    by false e =
        let more : 2 ^ 31 ≤ k = grind (arith, nat_tests) in
        let twice : k * 2 ≤ k * size = mul-le-mul_left k wide in
        fits_product size k d (omega arith) ∙ (let past : nat_le (k * size) d ≡ false = grind (arith, nat_tests) in past)

module _ (l : Values) (memory : Memory) where
  abbrev value : Expr → Option ℕ
  value e = value_of l memory e

  at_most_value : (e a : Expr) (k d : ℕ) → value e ≡ Some k → value a ≡ Some d → value (below_or_at e a) ≡ Some (flag (nat_le k d))
  at_most_value e a k d c h =
      ap (λ o. both (applied binary.Eq) (both (applied binary.LtU) o (value e)) (Some 0)) h
      ∙ ap (λ o. both (applied binary.Eq) (both (applied binary.LtU) (Some d) o) (Some 0)) c
      ∙ ap Some (at_most_word k d)

  left_value : (t q low length : ℕ) → l t ≡ Some q → l (t + 1) ≡ Some low → l (t + 2) ≡ Some length → value (bytes_left t) ≡ Some (applied binary.Sub length (applied binary.Sub q low))
  left_value t q low length h i j =
      ap (λ o. both (applied binary.Sub) o (both (applied binary.Sub) (l t) (l (t + 1)))) j
      ∙ ap (λ o. both (applied binary.Sub) (Some length) (both (applied binary.Sub) o (l (t + 1)))) h
      ∙ ap (λ o. both (applied binary.Sub) (Some length) (both (applied binary.Sub) (Some q) o)) i

  bytes_value : (form : Integer) (e : Expr) (t k d : ℕ) → value e ≡ Some k → value (bytes_left t) ≡ Some d → value (bytes_fit form e t) ≡ Some (flag (is_small form k && nat_le k d))
  bytes_value integer.Int e t k d c h =
      ap (λ o. both (applied binary.And) (both (applied binary.LtU) o (Some 2147483648)) (value (below_or_at e (bytes_left t)))) c
      ∙ ap (λ o. both (applied binary.And) (Some (flag (is_small integer.Int k))) o) (at_most_value e (bytes_left t) k d c h)
      ∙ ap Some (and_flags (is_small integer.Int k) (nat_le k d))
  bytes_value integer.Unsigned e t k d c h = at_most_value e (bytes_left t) k d c h
  bytes_value integer.Char e t k d c h = at_most_value e (bytes_left t) k d c h

  fit_value : (size : ℕ) (form : Integer) (e : Expr) (t k d : ℕ) → 1 ≤ size → d < 2 ^ 32 → value e ≡ Some k → value (bytes_left t) ≡ Some d
      → value (elements_fit size form e t) ≡ Some (flag (is_small form k && nat_le k (d / size)))
  fit_value size form e t k d some few c h = by (size == 1) refl
    where
      by : (one : Bool) → (size == 1) ≡ one → value (if one then bytes_fit form e t else below_or_at e (Bin binary.DivU (bytes_left t) (Const size))) ≡ Some (flag (is_small form k && nat_le k (d / size)))
      by true same =
          let alone : size ≡ 1 = grind arith in
          let whole : d ≡ d / 1 = grind arith in
          bytes_value form e t k d c h ∙ ap (λ m. Some (flag (is_small form k && nat_le k m))) (whole ∙ ap (λ s. d / s) (sym alone))
      by false other =
          let wide : 2 ≤ size = grind arith in
          at_most_value e (Bin binary.DivU (bytes_left t) (Const size)) k (d / size) c (ap (λ o. both (applied binary.DivU) o (Some size)) h ∙ ap Some (divided_by size d some))
          ∙ ap (λ b. Some (flag b)) (wide_small size form k d wide few)

  pub cast_value : (size : ℕ) (form : Integer) (e : Expr) (t k q low length : ℕ) → 1 ≤ size → value e ≡ Some k → l t ≡ Some q → l (t + 1) ≡ Some low → l (t + 2) ≡ Some length
      → value (Bin binary.Or (Bin binary.Eq (Local t) (Const 0)) (cast_test size form e t)) ≡ Some (flag ((q == 0) || fits_in size form k q low length))
  cast_value size form e t k q low length some c h i j =
      let d = applied binary.Sub q low in
      let left = applied binary.Sub length d in
      let few : left < 2 ^ 32 = omega arith in
      let a = value (held_test true t) in
      let fit = value (elements_fit size form e t) in
      ap (λ o. both (applied binary.Or) (both (applied binary.Eq) o (Some 0)) (both (applied binary.And) a fit)) h
      ∙ ap (λ o. both (applied binary.Or) (Some (flag (q == 0))) (both (applied binary.And) o fit)) (held_value_of l memory true t q low length h i j)
      ∙ ap (λ o. both (applied binary.Or) (Some (flag (q == 0))) (both (applied binary.And) (Some (bit_and (flag (nat_le low q)) (flag (nat_le d length)))) o)) (fit_value size form e t k left some few c (left_value t q low length h i j))
      ∙ ap (λ w. Some (bit_or (flag (q == 0)) (bit_and w (flag (is_small form k && nat_le k (left / size)))))) (and_flags (nat_le low q) (nat_le d length))
      ∙ ap (λ w. Some (bit_or (flag (q == 0)) w)) (and_flags (nat_le low q && nat_le d length) (is_small form k && nat_le k (left / size)))
      ∙ ap Some (or_flags (q == 0) (fits_in size form k q low length))

-- ---- what it decides

-- in order, and so many bytes from q on end in the range
ends_within : (q low length s : ℕ) → q < 2 ^ 32 → low < 2 ^ 32 → length < 2 ^ 32
    → ((nat_le low q && nat_le (applied binary.Sub q low) length) && nat_le s (applied binary.Sub length (applied binary.Sub q low))) ≡ (nat_le low q && nat_le q (q + s) && nat_le (q + s) (low + length))
ends_within q low length s small few short = by (nat_le low q) (nat_le (q + s) (low + length)) refl refl
  where
    ahead : nat_le q (q + s) ≡ true
    ahead = grind (arith, nat_tests)

    inner : (fits : Bool) → low ≤ q → nat_le (q + s) (low + length) ≡ fits → (nat_le (applied binary.Sub q low) length && nat_le s (applied binary.Sub length (applied binary.Sub q low))) ≡ fits
    inner true h e =
        let one : nat_le (applied binary.Sub q low) length ≡ true = grind (arith, nat_tests) in
        let two : nat_le s (applied binary.Sub length (applied binary.Sub q low)) ≡ true = grind (arith, nat_tests) in
        ap (λ b. b && nat_le s (applied binary.Sub length (applied binary.Sub q low))) one ∙ two
    inner false h e = from (nat_le (applied binary.Sub q low) length) refl
      where
        from : (b : Bool) → nat_le (applied binary.Sub q low) length ≡ b → (b && nat_le s (applied binary.Sub length (applied binary.Sub q low))) ≡ false
        from true f = grind (arith, nat_tests)
        from false f = refl

    by : (in_order fits : Bool) → nat_le low q ≡ in_order → nat_le (q + s) (low + length) ≡ fits
        → ((in_order && nat_le (applied binary.Sub q low) length) && nat_le s (applied binary.Sub length (applied binary.Sub q low))) ≡ (in_order && nat_le q (q + s) && fits)
    by true fits e f = inner fits (let le : low ≤ q = grind (arith, nat_tests) in le) f ∙ sym (ap (λ b. b && fits) ahead)
    by false fits e f = refl

and_last : (a b : Bool) → (a && (true && b)) ≡ (a && b)
and_last a b = refl

and_never : (a b : Bool) → (a && (false && b)) ≡ false
and_never true b = refl
and_never false b = refl

-- a count that is not negative
within_natural : (size k q low length : ℕ) (at : Pos) → 1 ≤ size → q < 2 ^ 32 → low < 2 ^ 32 → length < 2 ^ 32
    → tests_within (Within low (low + length)) at q (elements_behind q size (pos k))
    ≡ (if (nat_le low q && nat_le (applied binary.Sub q low) length) && (true && nat_le k (applied binary.Sub length (applied binary.Sub q low) / size)) then ranged q q (q + size * k) else stops Cast at)
within_natural size k q low length at some small few short =
    let d = applied binary.Sub length (applied binary.Sub q low) in
    let turned : k * size ≡ size * k = grind arith in
    ap (λ z. tests_within (Within low (low + length)) at q (pos q +ℤ z)) (pos-*ℤ-pos size k)
    ∙ ap (λ b. if b then ranged q q (q + size * k) else stops Cast at)
    (sym (ap (λ b. (nat_le low q && nat_le (applied binary.Sub q low) length) && b) (fits_product size k d some ∙ ap (λ s. nat_le s d) turned) ∙ ends_within q low length (size * k) small few short))

-- bounds that end in front of the pointer
under : (q low high : ℕ) (at : Pos) (z : ℤ) → z <ℤ pos q → tests_within (Within low high) at q z ≡ stops Cast at
under q low high at (pos u) h =
    let less : u < q = grind (arith, ints) in
    let no : nat_le q u ≡ false = grind (arith, nat_tests) in
    ap (λ b. if nat_le low q && b && nat_le u high then ranged q q u else stops Cast at) no ∙ none (nat_le low q)
  where
    none : (b : Bool) → (if b && false && nat_le u high then ranged q q u else stops Cast at) ≡ stops Cast at
    none true = refl
    none false = refl
under q low high at (negsuc u) h = refl

fallen : (q x : ℕ) → (pos q +ℤ negsuc x) <ℤ pos q
fallen q x = grind (arith, ints)

pub cast_decides : (size : ℕ) (form : Integer) (k q low length : ℕ) (at : Pos) → 1 ≤ size → size < 2 ^ 31 → k < 2 ^ 32 → q < 2 ^ 32 → low < 2 ^ 32 → length < 2 ^ 32
    → tests_within (Within low (low + length)) at q (elements_behind q size (exact form k)) ≡ (if fits_in size form k q low length then ranged q q (q + size * k) else stops Cast at)
cast_decides size integer.Unsigned k q low length at some small few word low_word short = within_natural size k q low length at some word low_word short
cast_decides size integer.Char k q low length at some small few word low_word short = within_natural size k q low length at some word low_word short
cast_decides size integer.Int k q low length at some small few word low_word short = by (nat_lt k (2 ^ 31)) refl
  where
    first : Bool
    first = nat_le low q && nat_le (applied binary.Sub q low) length

    last : Bool
    last = nat_le k (applied binary.Sub length (applied binary.Sub q low) / size)

    by : (natural : Bool) → nat_lt k (2 ^ 31) ≡ natural
        → tests_within (Within low (low + length)) at q (elements_behind q size (signed k)) ≡ (if first && (natural && last) then ranged q q (q + size * k) else stops Cast at)
    by true e =
        let less : k < 2 ^ 31 = grind (arith, nat_tests) in
        ap (λ z. tests_within (Within low (low + length)) at q (elements_behind q size z)) (low_signed k less) ∙ within_natural size k q low length at some word low_word short
    by false e =
        let more : 2 ^ 31 ≤ k = grind (arith, nat_tests) in
        let x = size * suc (4294967295 - k) - 1 in
        ap (λ z. tests_within (Within low (low + length)) at q (pos q +ℤ z)) (product_high size k some small more few)
        ∙ under q low (low + length) at (pos q +ℤ negsuc x) (fallen q x)
        ∙ sym (ap (λ b. if b then ranged q q (q + size * k) else stops Cast at) (and_never first last))

-- what fits has so many bytes
pub fits_short : (size : ℕ) (form : Integer) (k q low length : ℕ) → 1 ≤ size → q < 2 ^ 32 → low < 2 ^ 32 → length < 2 ^ 32 → fits_in size form k q low length ≡ true → size * k < 2 ^ 32
fits_short size form k q low length some word low_word short h =
    parts (nat_le low q) (nat_le (applied binary.Sub q low) length) (is_small form k) h
  where
    d : ℕ
    d = applied binary.Sub length (applied binary.Sub q low)

    turned : k * size ≡ size * k
    turned = grind arith

    below : nat_le k (d / size) ≡ true → size * k < 2 ^ 32
    below e =
        let fits : nat_le (k * size) d ≡ true = sym (fits_product size k d some) ∙ e in
        let le : k * size ≤ d = grind (arith, nat_tests) in
        omega (arith, turned)

    parts : (a b c : Bool) → ((a && b) && (c && nat_le k (d / size))) ≡ true → size * k < 2 ^ 32
    parts true true true h = below h
    parts true true false h = absurd cc
    parts true false c h = absurd cc
    parts false b c h = absurd cc

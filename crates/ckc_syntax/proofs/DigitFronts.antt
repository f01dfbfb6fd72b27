-- The value of digits, one digit after another, and fronts of digits.
use Rattle.std.proofs.Common.{◌≡◌, ℕ, ◌+◌, ◌-◌, ◌*◌, ◌<◌, ◌≤◌, ◌⊎◌, true, List, [], ◌∷◌, length, take, drop, get_or, fold, sym, refl, ap, ◌∙◌, subst, ⊎_elim, arith, length-take-le, get_or-take, take-append-drop, length-drop}
use Rattle.std.proofs.Math.Nat.{mul-le-mul_left}
use Rattle.std.proofs.lemmas.Grind.{fold-append}
use Rattle.std.proofs.lemmas.List.{take_more, take-take, drop-take}
use Rattle.std.proofs.lemmas.Bool.{ltb-true, lt-ltb, cases_lt}
use Rattle.ckc_syntax.specs.Digits.{digit_value, is_digit_in, value_in}
use Rattle.ckc_syntax.specs.Literals.{IsDigitsAfter}
use Rattle.ckc_syntax.specs.code.DigitReading.{IsMostDigits}
use Rattle.ckc_syntax.specs.Longest.{Longest}

abbrev next : ℕ → ℕ → ℕ → ℕ
next radix n b = n * radix + digit_value b

-- with one digit more
pub value_step : (radix : ℕ) (ds : List ℕ) (i : ℕ) → i < length ds → value_in radix (take (i + 1) ds) ≡ value_in radix (take i ds) * radix + digit_value (get_or ds i 0)
value_step radix ds i h = ap (λ (l : List ℕ). value_in radix l) (take_more ds i 0 h) ∙ fold-append (next radix) 0 (take i ds) (get_or ds i 0 ∷ [])

-- more digits never make it less
value_from : (radix : ℕ) → 0 < radix → (n : ℕ) (ds : List ℕ) → n ≤ fold (next radix) n ds
value_from radix h n [] = omega arith
value_from radix h n (d ∷ ds) =
    let more = value_from radix h (next radix n d) ds in
    let times : n * 1 ≤ n * radix = mul-le-mul_left n (omega arith) in
    omega (arith, more, times)

pub value_front : (radix : ℕ) → 0 < radix → (k : ℕ) (ds : List ℕ) → value_in radix (take k ds) ≤ value_in radix ds
value_front radix h k ds =
    let e : value_in radix ds ≡ fold (next radix) (value_in radix (take k ds)) (drop k ds) = ap (λ (l : List ℕ). value_in radix l) (sym (take-append-drop k ds)) ∙ fold-append (next radix) 0 (take k ds) (drop k ds) in
    let more = value_from radix h (value_in radix (take k ds)) (drop k ds) in
    omega (arith, e, more)

pub value_grows : (radix : ℕ) → 0 < radix → (k m : ℕ) (ds : List ℕ) → k ≤ m → value_in radix (take k ds) ≤ value_in radix (take m ds)
value_grows radix h k m ds le = subst (λ (l : List ℕ). value_in radix l ≤ value_in radix (take m ds)) (take-take k m ds le) (value_front radix h k (take m ds))

-- digits go on to be digits
pub digits_more : (radix : ℕ) (ds : List ℕ) (n : ℕ) → ((k : ℕ) → k < n → is_digit_in radix (get_or ds k 0) ≡ true) → digit_value (get_or ds n 0) < radix → (k : ℕ) → k < n + 1 → is_digit_in radix (get_or ds k 0) ≡ true
digits_more radix ds n below here k h = ⊎_elim (λ (lt : k < n). below k lt) (λ (e : k ≡ n). ap (λ i. is_digit_in radix (get_or ds i 0)) e ∙ lt-ltb _ _ here) (last_or k n h)
  where
    last_or : (k n : ℕ) → k < n + 1 → (k < n) ⊎ (k ≡ n)
    last_or k n h = grind arith

-- the value so far, and a digit
pub value_next : (radix : ℕ) (ds : List ℕ) (i v d : ℕ) → v ≡ value_in radix (take i ds) → d ≡ digit_value (get_or ds i 0) → i < length ds → v * radix + d ≡ value_in radix (take (i + 1) ds)
value_next radix ds i v d p q h = (λ j. p j * radix + q j) ∙ sym (value_step radix ds i h)

-- If the next digit may not be taken, the digits so far are as many as may be.
pub most_digits : (most radix : ℕ) (text : List ℕ) (n value : ℕ) → 0 < radix → n < length text → n ≤ most → value ≡ value_in radix (take n text) → value < 256 → ((k : ℕ) → k < n → is_digit_in radix (get_or text k 0) ≡ true) → (most ≤ n) ⊎ ((radix ≤ digit_value (get_or text n 0)) ⊎ (255 < value * radix + digit_value (get_or text n 0))) → IsMostDigits most radix text n value
most_digits most radix text n value low within few stands small digits stop = record {
  within = omega arith;
  few = few;
  digits = digits;
  stands_for = stands;
  small = small;
  no_more = λ m lt le at_most all less. ⊎_elim
      (λ (full : most ≤ n). let e : ⊥ = omega arith in e)
      (λ other. ⊎_elim
      (λ (large : radix ≤ digit_value (get_or text n 0)). let here = ltb-true _ _ (all n lt) in omega (arith, here, large))
      (λ (large : 255 < value * radix + digit_value (get_or text n 0)).
      let here = value_next radix text n value _ stands refl within in
      let grows = value_grows radix low (n + 1) m text (omega arith) in
      omega (arith, here, grows, large, less))
      other)
      stop;
}

-- all of the text is digits
pub all_digits : (most radix : ℕ) (text : List ℕ) (value : ℕ) → length text ≤ most → value ≡ value_in radix (take (length text) text) → value < 256 → ((k : ℕ) → k < length text → is_digit_in radix (get_or text k 0) ≡ true) → IsMostDigits most radix text (length text) value
all_digits most radix text value few stands small digits = record {
  within = omega arith;
  few = few;
  digits = digits;
  stands_for = stands;
  small = small;
  no_more = λ m lt le at_most all less. omega (arith, lt, le);
}

-- after the bytes in front, no front has more digits
pub no_more_digits : (lead most radix : ℕ) (text : List ℕ) (n value : ℕ) → lead ≤ length text → IsMostDigits most radix (drop lead text) n value → (m u : ℕ) → m ≤ length text → IsDigitsAfter lead most radix (take m text) u → m ≤ lead + n
no_more_digits lead most radix text n value in_text d m u le s =
    let size = length-take-le m text le in
    let rest = length-drop lead text in
    let parts : lead + (m - lead) ≡ m = omega (arith, s.some) in
    let e : drop lead (take m text) ≡ take (m - lead) (drop lead text) = ap (λ i. drop lead (take i text)) (sym parts) ∙ drop-take lead (m - lead) text in
    let size' = length-take-le (m - lead) (drop lead text) (omega arith) in
    ⊎_elim
    (λ (h : n < m - lead). absurd (d.no_more (m - lead) h (omega arith) (omega (arith, s.few))
    (λ k lt. sym (ap (is_digit_in radix) (get_or-take (m - lead) (drop lead text) k 0 lt)) ∙ (sym (ap (λ (l : List ℕ). is_digit_in radix (get_or l k 0)) e) ∙ s.digits k (omega (arith, ap length e))))
    (let v : value_in radix (take (m - lead) (drop lead text)) ≡ u = sym (ap (λ (l : List ℕ). value_in radix l) e) ∙ sym s.stands_for in omega (arith, v, s.small))))
    (λ (h : m - lead ≤ n). omega arith)
    (cases_lt n (m - lead))

pub digits_longest : (lead most radix : ℕ) (text : List ℕ) (n value : ℕ) → lead ≤ length text → IsMostDigits most radix (drop lead text) n value → 0 < n → Longest (IsDigitsAfter lead most radix) text (lead + n) value
digits_longest lead most radix text n value in_text d some =
    let rest = length-drop lead text in
    let within : lead + n ≤ length text = omega (arith, d.within) in
    let size = length-take-le (lead + n) text within in
    let e : drop lead (take (lead + n) text) ≡ take n (drop lead text) = drop-take lead n text in
    let size' = length-take-le n (drop lead text) d.within in
    record {
      some = omega arith;
      within = within;
      spelled = record {
        some = omega arith;
        few = omega (arith, d.few);
        digits = λ k lt. let lt' : k < n = omega (arith, ap length e) in ap (λ (l : List ℕ). is_digit_in radix (get_or l k 0)) e ∙ (ap (is_digit_in radix) (get_or-take n (drop lead text) k 0 lt') ∙ d.digits k lt');
        stands_for = d.stands_for ∙ sym (ap (λ (l : List ℕ). value_in radix l) e);
        small = d.small;
      };
      longest = λ m u lt le s. omega (arith, no_more_digits lead most radix text n value in_text d m u le s);
    }

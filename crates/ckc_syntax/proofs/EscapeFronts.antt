-- Which fronts of a text are escapes and characters of a literal.
use Rattle.std.proofs.Common.{◌≡◌, ℕ, ◌<◌, ◌≤◌, true, not, ◌||◌, nat_lt, List, length, take, get_or, Option, Some, None, MatchOption, is_none, sym, refl, ap, ◌∙◌, ⊎_elim, arith, length-take-le, get_or-take, get_or-drop, length-drop}
use Rattle.std.proofs.lemmas.Bool.{false≢true, or_cases, and_parts, not-true, agree_below_at, ltb-true, lt-ltb}
use Rattle.ckc_syntax.specs.declared.literals.Piece.{Piece}
use Rattle.ckc_syntax.specs.Longest.{Longest, NoFront}
use Rattle.ckc_syntax.specs.Digits.{digit_value, is_digit_in}
use Rattle.ckc_syntax.specs.Literals.{is_plain, simple_escape, IsDigitsAfter, IsEscape, simple, octal, hexadecimal, IsPiece, plain, escape}

-- no octal digit is a letter of an escape
pub not_octal : (b : ℕ) → b < 256 → digit_value b < 8 → (u : ℕ) → simple_escape b ≡ Some u → ⊥
not_octal b lt small u e = ⊎_elim
    (λ (n : not (nat_lt (digit_value b) 8) ≡ true). false≢true (sym (not-true _ n) ∙ lt-ltb _ _ small))
    (λ (n : is_none (simple_escape b) ≡ true). false≢true (sym (ap is_none e) ∙ n))
    (or_cases (not (nat_lt (digit_value b) 8)) (is_none (simple_escape b)) (agree_below_at (λ b. not (nat_lt (digit_value b) 8) || is_none (simple_escape b)) (λ b. true) 256 b refl lt))

-- the byte after the backslash of digits that follow it at once
pub first_octal : (w : List ℕ) (u : ℕ) → IsDigitsAfter 1 3 8 w u → digit_value (get_or w 1 0) < 8
first_octal w u d =
    let size = length-drop 1 w in
    ltb-true _ _ (sym (ap (is_digit_in 8) (get_or-drop 1 w 0 0)) ∙ d.digits 0 (omega (arith, d.some)))

module _ (text : List ℕ) (m : ℕ) (le : m ≤ length text) where
  second : 1 < m → get_or (take m text) 1 0 ≡ get_or text 1 0
  second lt = get_or-take m text 1 0 lt

  -- an escape with `x` has hexadecimal digits
  pub only_hexadecimal : (u : ℕ) → get_or text 1 0 ≡ 120 → IsEscape (take m text) u → IsDigitsAfter 2 2 16 (take m text) u
  only_hexadecimal u x (simple two b e) =
      let size = length-take-le m text le in
      let at : get_or (take m text) 1 0 ≡ 120 = second (omega arith) ∙ x in
      let none : simple_escape 120 ≡ Some u = sym (ap simple_escape at) ∙ e in
      absurd (false≢true (sym (ap is_none none)))
  only_hexadecimal u x (octal b d) =
      let size = length-take-le m text le in
      let at : get_or (take m text) 1 0 ≡ 120 = second (omega (arith, d.some)) ∙ x in
      let small = first_octal (take m text) u d in
      let large : digit_value (get_or (take m text) 1 0) ≡ 16 = ap digit_value at in
      absurd (omega (arith, small, large))
  only_hexadecimal u x (hexadecimal b at d) = d

  -- an escape with an octal digit has octal digits
  pub only_octal : (u : ℕ) → get_or text 1 0 < 256 → digit_value (get_or text 1 0) < 8 → IsEscape (take m text) u → IsDigitsAfter 1 3 8 (take m text) u
  only_octal u byte small (simple two b e) =
      let size = length-take-le m text le in
      let at = second (omega arith) in
      absurd (not_octal (get_or text 1 0) byte small u (sym (ap simple_escape at) ∙ e))
  only_octal u byte small (octal b d) = d
  only_octal u byte small (hexadecimal b at d) =
      let size = length-take-le m text le in
      let x : get_or text 1 0 ≡ 120 = sym (second (omega (arith, d.some))) ∙ at in
      let large : digit_value (get_or text 1 0) ≡ 16 = ap digit_value x in
      absurd (omega (arith, small, large))

  -- any other escape has two bytes
  pub only_simple : (u : ℕ) → (get_or text 1 0 ≡ 120 → ⊥) → 8 ≤ digit_value (get_or text 1 0) → IsEscape (take m text) u → (m ≡ 2) × (simple_escape (get_or text 1 0) ≡ Some u)
  only_simple u not_x large (simple two b e) =
      let size = length-take-le m text le in
      (omega arith, sym (ap simple_escape (second (omega arith))) ∙ e)
  only_simple u not_x large (octal b d) =
      let size = length-take-le m text le in
      let small = first_octal (take m text) u d in
      let at : digit_value (get_or (take m text) 1 0) ≡ digit_value (get_or text 1 0) = ap digit_value (second (omega (arith, d.some))) in
      absurd (omega (arith, small, at, large))
  only_simple u not_x large (hexadecimal b at d) =
      let size = length-take-le m text le in
      absurd (not_x (sym (second (omega (arith, d.some))) ∙ at))

  -- what begins with a backslash is no plain byte
  pub only_escape : (quote u : ℕ) → 0 < m → get_or text 0 0 ≡ 92 → IsPiece quote (take m text) u → IsEscape (take m text) u
  only_escape quote u some b (plain one p v) =
      let at : get_or (take m text) 0 0 ≡ 92 = get_or-take m text 0 0 some ∙ b in
      absurd (false≢true ((and_parts _ _ (sym (ap (is_plain quote) at) ∙ p)).1))
  only_escape quote u some b (escape e) = e

-- the answer for one way to spell is the answer for another that agrees with it
pub same_answer : (P Q : List ℕ → ℕ → Type 0) (text : List ℕ) (r : Option Piece) → ((m u : ℕ) → 0 < m → m ≤ length text → P (take m text) u → Q (take m text) u) → ((m u : ℕ) → 0 < m → m ≤ length text → Q (take m text) u → P (take m text) u) → MatchOption r (NoFront P text) (λ p. Longest P text p.len p.value) → MatchOption r (NoFront Q text) (λ p. Longest Q text p.len p.value)
same_answer P Q text None to from h = λ m u some le q. h m u some le (from m u some le q)
same_answer P Q text (Some p) to from h = record {
  some = h.some;
  within = h.within;
  spelled = to p.len p.value h.some h.within h.spelled;
  longest = λ m u lt le q. h.longest m u lt le (from m u (let a = h.some in omega arith) le q);
}

-- a letter after the backslash, which begins no digits
pub simple_longest : (text : List ℕ) (value : ℕ) → 1 < length text → get_or text 0 0 ≡ 92 → (get_or text 1 0 ≡ 120 → ⊥) → 8 ≤ digit_value (get_or text 1 0) → simple_escape (get_or text 1 0) ≡ Some value → Longest IsEscape text 2 value
simple_longest text value long b not_x large e =
    let size = length-take-le 2 text (omega arith) in
    record {
      some = omega arith;
      within = omega arith;
      spelled = simple size (get_or-take 2 text 0 0 (omega arith) ∙ b) (ap simple_escape (get_or-take 2 text 1 0 (omega arith)) ∙ e);
      longest = λ m u lt le s. omega (arith, (only_simple text m le u not_x large s).0);
    }

-- no escape if the byte after the backslash is none of those that may come
pub no_escape : (text : List ℕ) → (get_or text 1 0 ≡ 120 → ⊥) → 8 ≤ digit_value (get_or text 1 0) → simple_escape (get_or text 1 0) ≡ None → NoFront IsEscape text
no_escape text not_x large e m u some le s = false≢true (sym (sym (ap is_none e) ∙ ap is_none (only_simple text m le u not_x large s).1))

-- A character of a literal has one value.
use Rattle.std.proofs.Common.{◌≡◌, ℕ, ◌<◌, ◌≤◌, true, Some, is_none, List, get_or, sym, ap, ◌∙◌, ⊎_elim, arith}
use Rattle.std.proofs.lemmas.Bool.Decides.{nat_tests}
use Rattle.std.proofs.lemmas.Bool.{false≢true, and_parts, not-true, cases_lt, eq-eqb}
use Rattle.ckc_syntax.specs.Digits.{digit_value}
use Rattle.ckc_syntax.specs.Literals.{is_plain, simple_escape, IsDigitsAfter, IsEscape, simple, octal, hexadecimal, IsPiece, plain, escape}
use Rattle.ckc_syntax.proofs.EscapeFronts.{first_octal, not_octal}

same_simple : (w : List ℕ) (u v : ℕ) → simple_escape (get_or w 1 0) ≡ Some u → simple_escape (get_or w 1 0) ≡ Some v → u ≡ v
same_simple w u v e f = let k : Some u ≡ Some v = sym e ∙ f in cc

letter_x : (w : List ℕ) (u : ℕ) → get_or w 1 0 ≡ 120 → simple_escape (get_or w 1 0) ≡ Some u → ⊥
letter_x w u x e = let k : simple_escape 120 ≡ Some u = sym (ap simple_escape x) ∙ e in false≢true (sym (ap is_none k))

octal_x : (w : List ℕ) (u : ℕ) → get_or w 1 0 ≡ 120 → IsDigitsAfter 1 3 8 w u → ⊥
octal_x w u x d = let small = first_octal w u d in omega (arith, small, ap digit_value x)

-- the letters of escapes are no octal digits
octal_letter : (b u : ℕ) → digit_value b < 8 → simple_escape b ≡ Some u → ⊥
octal_letter b u small e = ⊎_elim (λ (lt : b < 256). not_octal b lt small u e) (λ (ge : 256 ≤ b). let k : digit_value b ≡ 16 = grind (arith, nat_tests) in omega (arith, small, k)) (cases_lt b 256)

-- an escape has one value
escape_once : (w : List ℕ) (u v : ℕ) → IsEscape w u → IsEscape w v → u ≡ v
escape_once w u v (simple two b e) (simple two' b' e') = same_simple w u v e e'
escape_once w u v (simple two b e) (octal b' d) = absurd (octal_letter (get_or w 1 0) u (first_octal w v d) e)
escape_once w u v (simple two b e) (hexadecimal b' x d) = absurd (letter_x w u x e)
escape_once w u v (octal b d) (simple two b' e) = absurd (octal_letter (get_or w 1 0) v (first_octal w u d) e)
escape_once w u v (octal b d) (octal b' d') = d.stands_for ∙ sym d'.stands_for
escape_once w u v (octal b d) (hexadecimal b' x d') = absurd (octal_x w u x d)
escape_once w u v (hexadecimal b x d) (simple two b' e) = absurd (letter_x w v x e)
escape_once w u v (hexadecimal b x d) (octal b' d') = absurd (octal_x w v x d')
escape_once w u v (hexadecimal b x d) (hexadecimal b' x' d') = d.stands_for ∙ sym d'.stands_for

escape_begins : (w : List ℕ) (u : ℕ) → IsEscape w u → get_or w 0 0 ≡ 92
escape_begins w u (simple two b e) = b
escape_begins w u (octal b d) = b
escape_begins w u (hexadecimal b x d) = b

plain_begins : (q : ℕ) (w : List ℕ) → is_plain q (get_or w 0 0) ≡ true → get_or w 0 0 ≡ 92 → ⊥
plain_begins q w p b = false≢true (sym (not-true _ (and_parts _ _ p).1) ∙ eq-eqb _ _ b)

pub piece_once : (q : ℕ) (w : List ℕ) (u v : ℕ) → IsPiece q w u → IsPiece q w v → u ≡ v
piece_once q w u v (plain one p e) (plain one' p' e') = e ∙ sym e'
piece_once q w u v (plain one p e) (escape f) = absurd (plain_begins q w p (escape_begins w v f))
piece_once q w u v (escape f) (plain one p e) = absurd (plain_begins q w p (escape_begins w u f))
piece_once q w u v (escape f) (escape g) = escape_once w u v f g

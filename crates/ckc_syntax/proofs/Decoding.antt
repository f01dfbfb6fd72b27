-- The bytes of a string as a function are those of the literal that its spelling is.
use Rattle.std.proofs.Common.{◌≡◌, ℕ, zero, suc, ◌+◌, ◌-◌, ◌<◌, ◌≤◌, ◌⊎◌, Bool, true, false, ◌&&◌, ◌==◌, nat_lt, nat_le, if◌then◌else◌, Option, Some, None, is_some, List, [], ◌∷◌, ◌++◌, append_assoc, append-nil, length, take, drop, get_or, sym, refl, ap, ◌∙◌, subst, inl, inr, ⊎_elim, arith}
use Rattle.std.specs.Option.{unwrap_or}
use Rattle.std.specs.List.{list_all}
use Rattle.std.proofs.lemmas.List.{drop-drop}
use Rattle.std.proofs.lemmas.Bool.{false≢true, and_parts, cases_lt, eq-eqb, eqb-true, ltb-true, lt-ltb, leb-true, le-leb}
use Rattle.ckc_syntax.specs.Bytes.{AllBytes}
use Rattle.ckc_syntax.specs.Longest.{Longest, NoFront}
use Rattle.ckc_syntax.specs.Digits.{is_digit_in, value_in}
use Rattle.ckc_syntax.specs.Literals.{is_plain, simple_escape, IsDigitsAfter, simple, octal, hexadecimal, IsPiece, plain, escape, Characters, ends, next, IsLiteral}
use Rattle.ckc_syntax.specs.code.Decoded.{are_digits_after, is_plain_piece, is_simple, is_octal, is_hexadecimal, hexadecimal_value, octal_value, simple_value, piece_value, or_shorter, longest_piece, with_rest, characters_behind, decoded}
use Rattle.ckc_syntax.proofs.Pieces.{piece_once}

all_bytes : (p : ℕ → Bool) (w : List ℕ) → list_all p w ≡ true → AllBytes p w
all_bytes p [] h k lt = absurd (omega (arith, lt))
all_bytes p (b ∷ w) h zero lt = (and_parts (p b) (list_all p w) h).0
all_bytes p (b ∷ w) h (suc k) lt = all_bytes p w (and_parts (p b) (list_all p w) h).1 k (omega arith)

both : (a b : Bool) → a ≡ true → b ≡ true → (a && b) ≡ true
both true b e f = f
both false b e f = absurd (false≢true e)

list_of : (p : ℕ → Bool) (w : List ℕ) → AllBytes p w → list_all p w ≡ true
list_of p [] h = refl
list_of p (b ∷ w) h = both (p b) (list_all p w) (h 0 (omega arith)) (list_of p w (λ k lt. h (suc k) (omega arith)))

digits_true : (lead most radix : ℕ) (w : List ℕ) (u : ℕ) → IsDigitsAfter lead most radix w u → are_digits_after lead most radix w ≡ true
digits_true lead most radix w u d =
    both (nat_lt lead (length w)) _ (lt-ltb _ _ d.some) (both (nat_le (length w) (lead + most)) _ (le-leb _ _ d.few) (both (list_all (is_digit_in radix) (drop lead w)) _ (list_of (is_digit_in radix) (drop lead w) d.digits) (lt-ltb (value_in radix (drop lead w)) 256 (omega (arith, d.stands_for, d.small)))))

true_digits : (lead most radix : ℕ) (w : List ℕ) → are_digits_after lead most radix w ≡ true → IsDigitsAfter lead most radix w (value_in radix (drop lead w))
true_digits lead most radix w h =
    let a = and_parts (nat_lt lead (length w)) _ h in
    let b = and_parts (nat_le (length w) (lead + most)) _ a.1 in
    let c = and_parts (list_all (is_digit_in radix) (drop lead w)) _ b.1 in
    record { some = ltb-true _ _ a.0; few = leb-true _ _ b.0; digits = all_bytes (is_digit_in radix) (drop lead w) c.0; stands_for = refl; small = ltb-true _ _ c.1 }

-- one way to answer, or the ways after it
first_way : (b : Bool) (x u : ℕ) (o : Option ℕ) → (if b then Some x else o) ≡ Some u → ((b ≡ true) × (x ≡ u)) ⊎ (o ≡ Some u)
first_way true x u o h = inl (refl, cc)
first_way false x u o h = inr h

no_way : (b : Bool) (x : ℕ) (o : Option ℕ) → (if b then Some x else o) ≡ None → (b ≡ false) × (o ≡ None)
no_way true x o h = absurd (cc)
no_way false x o h = (refl, h)

is_value : (o : Option ℕ) → is_some o ≡ true → o ≡ Some (unwrap_or o 0)
is_value None h = absurd (false≢true h)
is_value (Some x) h = refl

module _ (q : ℕ) (w : List ℕ) where
  hexadecimal_sound : (u : ℕ) → hexadecimal_value w ≡ Some u → IsPiece q w u
  hexadecimal_sound u h = ⊎_elim
      (λ (p : (is_hexadecimal w ≡ true) × (value_in 16 (drop 2 w) ≡ u)).
      let a = and_parts (get_or w 0 0 == 92) (get_or w 1 0 == 120 && are_digits_after 2 2 16 w) p.0 in
      let b = and_parts (get_or w 1 0 == 120) (are_digits_after 2 2 16 w) a.1 in
      escape (hexadecimal (eqb-true _ _ a.0) (eqb-true _ _ b.0) (subst (λ x. IsDigitsAfter 2 2 16 w x) p.1 (true_digits 2 2 16 w b.1))))
      (λ (e : None ≡ Some u). absurd (cc))
      (first_way (is_hexadecimal w) (value_in 16 (drop 2 w)) u None h)

  octal_sound : (u : ℕ) → octal_value w ≡ Some u → IsPiece q w u
  octal_sound u h = ⊎_elim
      (λ (p : (is_octal w ≡ true) × (value_in 8 (drop 1 w) ≡ u)).
      let a = and_parts (get_or w 0 0 == 92) (are_digits_after 1 3 8 w) p.0 in
      escape (octal (eqb-true _ _ a.0) (subst (λ x. IsDigitsAfter 1 3 8 w x) p.1 (true_digits 1 3 8 w a.1))))
      (hexadecimal_sound u)
      (first_way (is_octal w) (value_in 8 (drop 1 w)) u (hexadecimal_value w) h)

  simple_sound : (u : ℕ) → simple_value w ≡ Some u → IsPiece q w u
  simple_sound u h = ⊎_elim
      (λ (p : (is_simple w ≡ true) × (unwrap_or (simple_escape (get_or w 1 0)) 0 ≡ u)).
      let a = and_parts (length w == 2) (get_or w 0 0 == 92 && is_some (simple_escape (get_or w 1 0))) p.0 in
      let b = and_parts (get_or w 0 0 == 92) (is_some (simple_escape (get_or w 1 0))) a.1 in
      escape (simple (eqb-true _ _ a.0) (eqb-true _ _ b.0) (is_value (simple_escape (get_or w 1 0)) b.1 ∙ ap (λ x. Some x) p.1)))
      (octal_sound u)
      (first_way (is_simple w) (unwrap_or (simple_escape (get_or w 1 0)) 0) u (octal_value w) h)

  value_sound : (u : ℕ) → piece_value q w ≡ Some u → IsPiece q w u
  value_sound u h = ⊎_elim
      (λ (p : (is_plain_piece q w ≡ true) × (get_or w 0 0 ≡ u)).
      let a = and_parts (length w == 1) (is_plain q (get_or w 0 0)) p.0 in
      plain (eqb-true _ _ a.0) a.1 (sym p.1))
      (simple_sound u)
      (first_way (is_plain_piece q w) (get_or w 0 0) u (simple_value w) h)

  one_of : (u : ℕ) → IsPiece q w u → is_plain_piece q w ≡ false → is_simple w ≡ false → is_octal w ≡ false → is_hexadecimal w ≡ false → ⊥
  one_of u (plain one p v) a b c d = false≢true (sym a ∙ both (length w == 1) _ (eq-eqb _ _ one) p)
  one_of u (escape (simple two s e)) a b c d = false≢true (sym b ∙ both (length w == 2) _ (eq-eqb _ _ two) (both (get_or w 0 0 == 92) _ (eq-eqb _ _ s) (ap is_some e)))
  one_of u (escape (octal s e)) a b c d = false≢true (sym c ∙ both (get_or w 0 0 == 92) _ (eq-eqb _ _ s) (digits_true 1 3 8 w u e))
  one_of u (escape (hexadecimal s x e)) a b c d = false≢true (sym d ∙ both (get_or w 0 0 == 92) _ (eq-eqb _ _ s) (both (get_or w 1 0 == 120) _ (eq-eqb _ _ x) (digits_true 2 2 16 w u e)))

  value_some : (u : ℕ) → IsPiece q w u → piece_value q w ≡ None → ⊥
  value_some u p h =
      let a = no_way (is_plain_piece q w) (get_or w 0 0) (simple_value w) h in
      let b = no_way (is_simple w) (unwrap_or (simple_escape (get_or w 1 0)) 0) (octal_value w) a.1 in
      let c = no_way (is_octal w) (value_in 8 (drop 1 w)) (hexadecimal_value w) b.1 in
      let d = no_way (is_hexadecimal w) (value_in 16 (drop 2 w)) None c.1 in
      one_of u p a.0 b.0 c.0 d.0

-- the function agrees with the definition
value_is : (q : ℕ) (w : List ℕ) (u : ℕ) → IsPiece q w u → piece_value q w ≡ Some u
value_is q w u p = by_cases (piece_value q w) refl
  where
    by_cases : (o : Option ℕ) → piece_value q w ≡ o → piece_value q w ≡ Some u
    by_cases None e = absurd (value_some q w u p e)
    by_cases (Some v) e = e ∙ ap (λ x. Some x) (piece_once q w v u (value_sound q w v e) p)

no_value : (q : ℕ) (w : List ℕ) → ((u : ℕ) → IsPiece q w u → ⊥) → piece_value q w ≡ None
no_value q w none = by_cases (piece_value q w) refl
  where
    by_cases : (o : Option ℕ) → piece_value q w ≡ o → piece_value q w ≡ None
    by_cases None e = e
    by_cases (Some v) e = absurd (none v (value_sound q w v e))

piece_here : (q n u : ℕ) (w : List ℕ) → piece_value q (take (suc n) w) ≡ Some u → longest_piece q (suc n) w ≡ Some (suc n, u)
unfolding longest_piece
piece_here q n u w e = ap (λ o. or_shorter (suc n) o (longest_piece q n w)) e

piece_below : (q n : ℕ) (w : List ℕ) → piece_value q (take (suc n) w) ≡ None → longest_piece q (suc n) w ≡ longest_piece q n w
unfolding longest_piece
piece_below q n w e = ap (λ o. or_shorter (suc n) o (longest_piece q n w)) e

no_bytes : (q : ℕ) (w : List ℕ) → longest_piece q 0 w ≡ None
unfolding longest_piece
no_bytes q w = refl

longest_is : (q n u : ℕ) (w : List ℕ) → Longest (IsPiece q) w n u → (k : ℕ) → n ≤ k → k ≤ length w → longest_piece q k w ≡ Some (n, u)
longest_is q n u w l zero le within = absurd (omega (arith, l.some, le))
longest_is q n u w l (suc k) le within = ⊎_elim
    (λ (lt : n < suc k). piece_below q k w (no_value q (take (suc k) w) (λ v p. l.longest (suc k) v lt within p)) ∙ longest_is q n u w l k (omega arith) (omega arith))
    (λ (ge : suc k ≤ n).
    let e : n ≡ suc k = omega arith in
    piece_here q k u w (value_is q (take (suc k) w) u (subst (λ i. IsPiece q (take i w) u) e l.spelled)) ∙ ap (λ i. Some (i, u)) (sym e))
    (cases_lt n (suc k))

none_is : (q : ℕ) (w : List ℕ) → NoFront (IsPiece q) w → (k : ℕ) → k ≤ length w → longest_piece q k w ≡ None
none_is q w none zero within = no_bytes q w
none_is q w none (suc k) within = piece_below q k w (no_value q (take (suc k) w) (λ v p. none (suc k) v (omega arith) within p)) ∙ none_is q w none k (omega arith)

pub behind_is : (q n : ℕ) (w : List ℕ) → characters_behind q n w ≡ characters_behind q 0 (drop n w)
unfolding characters_behind
behind_is q zero w = refl
behind_is q (suc n) [] = refl
behind_is q (suc n) (b ∷ w) = behind_is q n w

pub next_character : (q n u : ℕ) (w : List ℕ) → Longest (IsPiece q) w n u → characters_behind q 0 w ≡ u ∷ characters_behind q n w
unfolding characters_behind
next_character q n u [] l = absurd (omega (arith, l.some, l.within))
next_character q zero u (b ∷ w) l = absurd (omega (arith, l.some))
next_character q (suc n) u (b ∷ w) l =
    let one_less : suc n - 1 ≡ n = omega arith in
    ap (λ o. with_rest (λ k. characters_behind q k w) o) (longest_is q (suc n) u (b ∷ w) l (length (b ∷ w)) l.within (omega arith)) ∙ ap (λ k. u ∷ characters_behind q k w) one_less

pub no_character : (q : ℕ) (w : List ℕ) → NoFront (IsPiece q) w → characters_behind q 0 w ≡ []
unfolding characters_behind
no_character q [] none = refl
no_character q (b ∷ w) none = ap (λ o. with_rest (λ k. characters_behind q k w) o) (none_is q (b ∷ w) none (length (b ∷ w)) (omega arith))

quote_ends : characters_behind 34 0 (34 ∷ []) ≡ []
unfolding characters_behind longest_piece
quote_ends = refl

pub characters_decoded : {w values : List ℕ} → Characters 34 w values → characters_behind 34 0 w ≡ values
characters_decoded (ends e) = ap (λ (l : List ℕ). characters_behind 34 0 l) e ∙ quote_ends
characters_decoded {w} (next n u l c) =
    next_character 34 n u w l ∙ ap (λ z. u ∷ z) (behind_is 34 n w ∙ characters_decoded c)

pub literal_decoded : (w values : List ℕ) → IsLiteral 34 w values → decoded w ≡ values
literal_decoded w values l = behind_is 34 1 w ∙ characters_decoded l.1

pub no_spelling : (w : List ℕ) → length w ≡ 0 → decoded w ≡ []
unfolding characters_behind
no_spelling [] e = refl
no_spelling (b ∷ w) e = absurd (omega (arith, e))

-- with one character more
pub one_more : (w bytes : List ℕ) (at n u : ℕ) → bytes ++ characters_behind 34 at w ≡ decoded w → Longest (IsPiece 34) (drop at w) n u → (bytes ++ u ∷ []) ++ characters_behind 34 (at + n) w ≡ decoded w
one_more w bytes at n u e l =
    let here : characters_behind 34 at w ≡ u ∷ characters_behind 34 (at + n) w =
    behind_is 34 at w ∙ next_character 34 n u (drop at w) l ∙ ap (λ z. u ∷ z) (behind_is 34 n (drop at w) ∙ ap (λ z. characters_behind 34 0 z) (drop-drop n at w) ∙ sym (behind_is 34 (at + n) w)) in
    append_assoc bytes (u ∷ []) (characters_behind 34 (at + n) w) ∙ ap (λ z. bytes ++ z) (sym here) ∙ e

-- with no character more
pub no_more : (w bytes : List ℕ) (at : ℕ) → bytes ++ characters_behind 34 at w ≡ decoded w → NoFront (IsPiece 34) (drop at w) → bytes ≡ decoded w
no_more w bytes at e none =
    sym (append-nil bytes) ∙ ap (λ z. bytes ++ z) (sym (behind_is 34 at w ∙ no_character 34 (drop at w) none)) ∙ e

pub empty_length : (text spelling : List ℕ) (empty : Bool) → text ≡ spelling → empty ≡ (length text == 0) → empty ≡ true → length spelling ≡ 0
empty_length text spelling empty e h t = ap (λ (l : List ℕ). length l) (sym e) ∙ eqb-true (length text) 0 (sym h ∙ t)

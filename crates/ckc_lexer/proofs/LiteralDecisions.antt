-- Whether bytes are a literal can be worked out.
use Rattle.std.proofs.Common.{◌≡◌, ◌⊎◌, inl, inr, ℕ, zero, suc, ◌+◌, ◌<◌, ◌≤◌, true, Some, List, [], ◌∷◌, length, drop, get_or, refl, sym, subst, arith, length-drop}
use Rattle.ckc_base.proofs.Told.{Told, SomeTold, both, four, turned, is_true, less, at_most, equal, same_list}
use Rattle.ckc_syntax.specs.Bytes.{AllBytes}
use Rattle.ckc_syntax.specs.Digits.{is_digit_in, value_in}
use Rattle.ckc_syntax.specs.Longest.{Longest, NoFront}
use Rattle.ckc_syntax.specs.Literals.{is_plain, simple_escape, IsDigitsAfter, IsEscape, simple, octal, hexadecimal, IsPiece, plain, escape, Characters, ends, next, IsLiteral}
use Rattle.ckc_syntax.proofs.Fronts.{longest_once}
use Rattle.ckc_syntax.proofs.Pieces.{piece_once}
use Rattle.ckc_lexer.proofs.LiteralFronts.{apostrophe, characters_end, literal_once}
use Rattle.ckc_lexer.proofs.Searches.{FrontTold, only_one, the_one, with_fact, one_of, said_so, held, bytes_told, longest_told}

-- digits after some bytes
digits_told : (lead most radix : ℕ) (w : List ℕ) → SomeTold (IsDigitsAfter lead most radix w)
digits_told lead most radix w =
    only_one (IsDigitsAfter lead most radix w) value (λ v d. d.stands_for)
    (turned there back (four (less lead (length w)) (at_most (length w) (lead + most)) (bytes_told (is_digit_in radix) (drop lead w)) (less value 256)))
  where
    value : ℕ
    value = value_in radix (drop lead w)

    there : (lead < length w) × (length w ≤ lead + most) × AllBytes (is_digit_in radix) (drop lead w) × (value < 256) → IsDigitsAfter lead most radix w value
    there h = record { some = h.0; few = h.1; digits = h.2; stands_for = refl; small = h.3 }

    back : IsDigitsAfter lead most radix w value → (lead < length w) × (length w ≤ lead + most) × AllBytes (is_digit_in radix) (drop lead w) × (value < 256)
    back d = (d.some, d.few, d.digits, d.small)

module _ (w : List ℕ) where
  -- a backslash and a letter
  abbrev Simple : ℕ → Type 0
  Simple v = ((length w ≡ 2) × (get_or w 0 0 ≡ 92)) × (simple_escape (get_or w 1 0) ≡ Some v)

  -- a backslash and octal digits
  abbrev Octal : ℕ → Type 0
  Octal v = (get_or w 0 0 ≡ 92) × IsDigitsAfter 1 3 8 w v

  -- a backslash, `x` and hexadecimal digits
  abbrev Hexadecimal : ℕ → Type 0
  Hexadecimal v = ((get_or w 0 0 ≡ 92) × (get_or w 1 0 ≡ 120)) × IsDigitsAfter 2 2 16 w v

  -- one of the three ways of an escape
  is_escape : (v : ℕ) → Simple v ⊎ (Octal v ⊎ Hexadecimal v) → IsEscape w v
  is_escape v (inl s) = simple s.0.0 s.0.1 s.1
  is_escape v (inr (inl s)) = octal s.0 s.1
  is_escape v (inr (inr s)) = hexadecimal s.0.0 s.0.1 s.1

  -- an escape is spelled in one of the three ways
  escape_ways : (v : ℕ) → IsEscape w v → Simple v ⊎ (Octal v ⊎ Hexadecimal v)
  escape_ways v (simple a b c) = inl ((a, b), c)
  escape_ways v (octal a b) = inr (inl (a, b))
  escape_ways v (hexadecimal a b c) = inr (inr ((a, b), c))

  -- whether it is an escape by a letter
  simple_told : SomeTold Simple
  simple_told = with_fact ((length w ≡ 2) × (get_or w 0 0 ≡ 92)) (λ v. simple_escape (get_or w 1 0) ≡ Some v) (both (equal (length w) 2) (equal (get_or w 0 0) 92)) (held (simple_escape (get_or w 1 0)))

  -- whether it is an escape by octal digits
  octal_told : SomeTold Octal
  octal_told = with_fact (get_or w 0 0 ≡ 92) (IsDigitsAfter 1 3 8 w) (equal (get_or w 0 0) 92) (digits_told 1 3 8 w)

  -- whether it is an escape by hexadecimal digits
  hexadecimal_told : SomeTold Hexadecimal
  hexadecimal_told = with_fact ((get_or w 0 0 ≡ 92) × (get_or w 1 0 ≡ 120)) (IsDigitsAfter 2 2 16 w) (both (equal (get_or w 0 0) 92) (equal (get_or w 1 0) 120)) (digits_told 2 2 16 w)

  -- whether it is an escape
  escape_told : SomeTold (IsEscape w)
  escape_told = said_so (λ v. Simple v ⊎ (Octal v ⊎ Hexadecimal v)) (IsEscape w) is_escape escape_ways
      (one_of Simple (λ v. Octal v ⊎ Hexadecimal v) simple_told (one_of Octal Hexadecimal octal_told hexadecimal_told))

-- one character of a literal
module _ (q : ℕ) (w : List ℕ) where
  -- a byte that stands for itself
  abbrev Plain : ℕ → Type 0
  Plain v = ((length w ≡ 1) × (is_plain q (get_or w 0 0) ≡ true)) × (v ≡ get_or w 0 0)

  -- both are a character
  is_piece : (v : ℕ) → Plain v ⊎ IsEscape w v → IsPiece q w v
  is_piece v (inl s) = plain s.0.0 s.0.1 s.1
  is_piece v (inr s) = escape s

  -- a character is one of both
  piece_ways : (v : ℕ) → IsPiece q w v → Plain v ⊎ IsEscape w v
  piece_ways v (plain a b c) = inl ((a, b), c)
  piece_ways v (escape e) = inr e

  -- whether it is a byte that stands for itself
  plain_told : SomeTold Plain
  plain_told = with_fact ((length w ≡ 1) × (is_plain q (get_or w 0 0) ≡ true)) (λ v. v ≡ get_or w 0 0) (both (equal (length w) 1) (is_true (is_plain q (get_or w 0 0)))) (the_one (get_or w 0 0))

  -- whether it is a character
  piece_told : SomeTold (IsPiece q w)
  piece_told = said_so (λ v. Plain v ⊎ IsEscape w v) (IsPiece q w) is_piece piece_ways (one_of Plain (IsEscape w) plain_told (escape_told w))

-- the characters of a literal
module _ (q : ℕ) (w : List ℕ) (wrong : ¬ (w ≡ q ∷ [])) where
  -- no characters if the rest after the first one is none
  no_rest : {vs : List ℕ} (n v : ℕ) → Longest (IsPiece q) w n v → ((us : List ℕ) → ¬ Characters q (drop n w) us) → Characters q w vs → ⊥
  no_rest n v l none (ends e) = wrong e
  no_rest n v l none (next {values = us} m u l' c) =
      let same = longest_once (piece_once q) l l' in
      none us (subst (λ i. Characters q (drop i w) us) (sym same.0) c)

  -- no characters if none begins
  no_first : {vs : List ℕ} → NoFront (IsPiece q) w → Characters q w vs → ⊥
  no_first none (ends e) = wrong e
  no_first none (next n v l c) = none n v l.some l.within l.spelled

  -- whether the rest after the first character is characters says whether all is
  goes_on : (n v : ℕ) → Longest (IsPiece q) w n v → SomeTold (Characters q (drop n w)) → SomeTold (Characters q w)
  goes_on n v l (inl x) = inl (v ∷ x.0, next n v l x.1)
  goes_on n v l (inr none) = inr (λ vs c. no_rest n v l none c)

  -- by the longest character that stands first
  by_first : FrontTold (IsPiece q) w → ((n : ℕ) → 0 < n → SomeTold (Characters q (drop n w))) → SomeTold (Characters q w)
  by_first (inl f) rest = goes_on f.0 f.1 f.2 (rest f.0 f.2.some)
  by_first (inr none) rest = inr (λ vs c. no_first none c)

-- the quote ends the literal, or a character stands first, or neither
by_end : (q : ℕ) (w : List ℕ) → Told (w ≡ q ∷ []) → ((n : ℕ) → 0 < n → SomeTold (Characters q (drop n w))) → SomeTold (Characters q w)
by_end q w (inl e) rest = inl ([], ends e)
by_end q w (inr wrong) rest = by_first q w wrong (longest_told (IsPiece q) (piece_told q) w) rest

-- whether at most k bytes are characters and the quote
characters_within : (q k : ℕ) (w : List ℕ) → length w ≤ k → SomeTold (Characters q w)
characters_within q zero w le = inr (λ vs c. let h = characters_end c in omega (arith, le, h.0))
characters_within q (suc k) w le = by_end q w (same_list equal w (q ∷ []))
    (λ n some. characters_within q k (drop n w) (let e = length-drop n w in omega (arith, le, some)))

-- a literal with this quote
pub literal_told : (q : ℕ) (w : List ℕ) → SomeTold (IsLiteral q w)
literal_told q w = with_fact (get_or w 0 0 ≡ q) (Characters q (drop 1 w)) (equal (get_or w 0 0) q) (characters_within q (length (drop 1 w)) (drop 1 w) (omega arith))

-- a literal of one character
module _ (w : List ℕ) where
  -- whether the literal has one character
  has_one : (vs : List ℕ) → IsLiteral 39 w vs → SomeTold (λ v. IsLiteral 39 w (v ∷ []))
  has_one [] l = inr (λ v k. let e : [] ≡ v ∷ [] = literal_once apostrophe w l k in absurd cc)
  has_one (u ∷ []) l = inl (u, l)
  has_one (u ∷ t ∷ us) l = inr (λ v k. let e : u ∷ t ∷ us ≡ v ∷ [] = literal_once apostrophe w l k in absurd cc)

  -- by what literal it is
  by_literal : SomeTold (IsLiteral 39 w) → SomeTold (λ v. IsLiteral 39 w (v ∷ []))
  by_literal (inl x) = has_one x.0 x.1
  by_literal (inr none) = inr (λ v l. none (v ∷ []) l)

  -- whether it is a literal of one character
  pub character_told : SomeTold (λ v. IsLiteral 39 w (v ∷ []))
  character_told = by_literal (literal_told 39 w)

-- Literals, read forward: which fronts of a text are a literal.
use Rattle.std.proofs.Common.{◌≡◌, ℕ, ◌+◌, ◌-◌, ◌<◌, ◌≤◌, List, [], ◌∷◌, length, take, drop, get_or, sym, refl, ap, ◌∙◌, subst, ⊎_elim, arith, add-zero, zero-add, length-take-le, length-drop, get_or-take, get_or-drop}
use Rattle.std.proofs.lemmas.List.{take-take, drop-take, drop-drop, take_all}
use Rattle.std.proofs.lemmas.Bool.{false≢true, and_parts, not-true, ltb-true, cases_lt, eq-eqb}
use Rattle.ckc_syntax.specs.Longest.{Longest, NoFront}
use Rattle.ckc_syntax.specs.Digits.{digit_value, is_digit_in}
use Rattle.ckc_syntax.specs.Literals.{IsDigitsAfter, IsEscape, simple, octal, hexadecimal, IsPiece, plain, escape, Characters, ends, next, IsLiteral}
use Rattle.ckc_lexer.specs.code.LiteralReading.{IsOnlyLiteral}
use Rattle.ckc_syntax.proofs.Fronts.{longest_take, longest_once}
use Rattle.ckc_syntax.proofs.Pieces.{piece_once}

-- the two quotes
pub data IsQuote : ℕ → Type 0 where
  apostrophe : IsQuote 39
  quotation : IsQuote 34

not_backslash : {q : ℕ} → IsQuote q → q ≡ 92 → ⊥
not_backslash apostrophe e = omega arith
not_backslash quotation e = omega arith

not_digit : {q : ℕ} → IsQuote q → digit_value q ≡ 16
not_digit apostrophe = refl
not_digit quotation = refl

pub digit_at : (lead most radix : ℕ) (w : List ℕ) (u k : ℕ) → IsDigitsAfter lead most radix w u → lead ≤ k → k < length w → digit_value (get_or w k 0) < radix
digit_at lead most radix w u k d le lt =
    let size = length-drop lead w in
    let e : lead + (k - lead) ≡ k = omega arith in
    ltb-true _ _ (ap (λ i. is_digit_in radix (get_or w i 0)) (sym e) ∙ (sym (ap (is_digit_in radix) (get_or-drop lead w (k - lead) 0)) ∙ d.digits (k - lead) (omega arith)))

-- a quote after the first byte of an escape ends it
escape_quote : {q : ℕ} → IsQuote q → (w : List ℕ) (u k : ℕ) → IsEscape w u → 0 < k → k < length w → get_or w k 0 ≡ q → k + 1 ≡ length w
escape_quote q w u k (simple two b e) some lt at = omega arith
escape_quote q w u k (octal b d) some lt at =
    let small = digit_at 1 3 8 w u k d some lt in
    absurd (omega (arith, small, ap digit_value at, not_digit q))
escape_quote q w u k (hexadecimal b x d) some lt at = ⊎_elim
    (λ (h : 1 < k). absurd (let small = digit_at 2 2 16 w u k d h lt in omega (arith, small, ap digit_value at, not_digit q)))
    (λ (h : k ≤ 1). absurd (let one : k ≡ 1 = omega arith in not_x q (sym at ∙ (ap (λ i. get_or w i 0) one ∙ x))))
    (cases_lt 1 k)
  where
    not_x : {q : ℕ} → IsQuote q → q ≡ 120 → ⊥
    not_x apostrophe e = omega arith
    not_x quotation e = omega arith

piece_quote : {q : ℕ} → IsQuote q → (w : List ℕ) (u k : ℕ) → IsPiece q w u → 0 < k → k < length w → get_or w k 0 ≡ q → k + 1 ≡ length w
piece_quote q w u k (plain one p v) some lt at = omega arith
piece_quote q w u k (escape e) some lt at = escape_quote q w u k e some lt at

-- no character begins with the quote
piece_first : {q : ℕ} → IsQuote q → (w : List ℕ) (u : ℕ) → IsPiece q w u → get_or w 0 0 ≡ q → ⊥
piece_first {q} i w u (plain one p v) at = false≢true (sym (not-true _ (and_parts _ _ (and_parts _ _ p).0).1) ∙ eq-eqb _ _ at)
piece_first i w u (escape (simple two b e)) at = not_backslash i (sym at ∙ b)
piece_first i w u (escape (octal b d)) at = not_backslash i (sym at ∙ b)
piece_first i w u (escape (hexadecimal b x d)) at = not_backslash i (sym at ∙ b)

-- Characters and the quote that ends them, each the longest in the whole text: n bytes of it.
pub data Run (q : ℕ) : List ℕ → ℕ → List ℕ → Type 0 where
  stop : {text : List ℕ} → 0 < length text → get_or text 0 0 ≡ q → Run q text 1 []
  go : {text values : List ℕ} {n value m total : ℕ} → Longest (IsPiece q) text n value → Run q (drop n text) m values → total ≡ n + m → Run q text total (value ∷ values)

run_length : {q : ℕ} {text values : List ℕ} {n : ℕ} → Run q text n values → (0 < n) × (n ≤ length text)
run_length (stop some at) = (omega arith, omega arith)
run_length {q} {text} (go {n = n} l r e) = let k = run_length r in let size = length-drop n text in (omega (arith, k.0), omega (arith, k.1, l.within))

take_one : (text : List ℕ) → 0 < length text → take 1 text ≡ get_or text 0 0 ∷ []
take_one [] h = absurd (omega (arith, h))
take_one (a ∷ text) h = refl

-- what is read forward is a literal's characters
pub run_is : {q : ℕ} {text values : List ℕ} {n : ℕ} → Run q text n values → Characters q (take n text) values
run_is {q} {text} (stop some at) = ends (take_one text some ∙ ap (λ b. b ∷ []) at)
run_is {q} {text} {n = total} (go {values = vs} {n = n} {value = value} {m = m} l r e) =
    let k = run_length (go l r e) in
    next n value (longest_take total l (omega (arith, e)) k.1)
    (subst (λ (w : List ℕ). Characters q w vs) (sym (ap (λ i. drop n (take i text)) e ∙ drop-take n m text)) (run_is r))

-- characters end with the quote
pub characters_end : {q : ℕ} {w values : List ℕ} → Characters q w values → (0 < length w) × (get_or w (length w - 1) 0 ≡ q)
characters_end {q} {w} (ends e) = (omega (arith, ap length e), ap (λ (l : List ℕ). get_or l (length l - 1) 0) e)
characters_end {q} {w} (next n value l c) =
    let k = characters_end c in
    let size = length-drop n w in
    let at : n + (length (drop n w) - 1) ≡ length w - 1 = omega (arith, k.0) in
    (omega (arith, k.0), ap (λ i. get_or w i 0) (sym at) ∙ (sym (get_or-drop n w (length (drop n w) - 1) 0) ∙ k.1))

-- a literal's characters are what is read forward
pub is_run : {q : ℕ} → IsQuote q → {w values : List ℕ} → Characters q w values → (text : List ℕ) (n : ℕ) → n ≤ length text → w ≡ take n text → Run q text n values
is_run {q} i {w} (ends e) text n le at =
    let size = length-take-le n text le in
    let one : n ≡ 1 = omega (arith, ap length (sym at ∙ e)) in
    let first : get_or text 0 0 ≡ q = sym (get_or-take n text 0 0 (omega arith)) ∙ ap (λ (l : List ℕ). get_or l 0 0) (sym at ∙ e) in
    subst (λ k. Run q text k []) (sym one) (stop (omega arith) first)
is_run {q} i {w} (next {values = vs} p value l c) text n le at =
    let size = length-take-le n text le in
    let l' = subst (λ (s : List ℕ). Longest (IsPiece q) s p value) at l in
    let c' = characters_end (next p value l' (subst (λ (s : List ℕ). Characters q (drop p s) vs) at c)) in
    let rest = characters_end (subst (λ (s : List ℕ). Characters q (drop p s) vs) at c) in
    let cut = length-drop p (take n text) in
    let whole : p + (n - p) ≡ n = omega (arith, l'.within) in
    let tail : drop p (take n text) ≡ take (n - p) (drop p text) = ap (λ k. drop p (take k text)) (sym whole) ∙ drop-take p (n - p) text in
    let behind = length-drop p text in
    go (record {
      some = l'.some;
      within = omega (arith, l'.within);
      spelled = subst (λ s. IsPiece q s value) (take-take p n text (omega (arith, l'.within))) l'.spelled;
      longest = λ m u lt le' s. ⊎_elim
          (λ (over : n < m).
          let size' = length-take-le m text le' in
          let last : get_or (take m text) (n - 1) 0 ≡ q = get_or-take m text (n - 1) 0 (omega arith) ∙ (sym (get_or-take n text (n - 1) 0 (omega (arith, l'.some, l'.within))) ∙ (ap (λ k. get_or (take n text) (k - 1) 0) (sym size) ∙ c'.1)) in
          let e = piece_quote i (take m text) u (n - 1) s (omega (arith, rest.0, l'.some)) (omega arith) last in
          omega (arith, e, l'.some, l'.within))
          (λ (under : m ≤ n). l'.longest m u lt (omega arith) (subst (λ w. IsPiece q w u) (sym (take-take m n text under)) s))
          (cases_lt n m);
    })
    (is_run i c (drop p text) (n - p) (omega arith) (ap (drop p) at ∙ tail))
    (sym whole)

-- what is read forward is one
pub run_once : {q : ℕ} → IsQuote q → {text vs us : List ℕ} {n m : ℕ} → Run q text n vs → Run q text m us → (n ≡ m) × (vs ≡ us)
run_once i (stop some at) (stop some' at') = (refl, refl)
run_once i {text} (stop some at) (go {n = n} {value = v} l r e) = absurd (piece_first i (take n text) v l.spelled (get_or-take n text 0 0 l.some ∙ at))
run_once i {text} (go {n = n} {value = v} l r e) (stop some at) = absurd (piece_first i (take n text) v l.spelled (get_or-take n text 0 0 l.some ∙ at))
run_once {q} i {text} (go {n = n} {value = v} {m = m} l r e) (go {values = us} {n = n'} {value = v'} {m = m'} l' r' e') =
    let same = longest_once (piece_once q) l l' in
    let k = run_once i r (subst (λ j. Run q (drop j text) m' us) (sym same.0) r') in
    (omega (arith, e, e', same.0, k.0), (λ j. same.1 j ∷ k.1 j))

-- no two literals of a text differ
pub literal_once : {q : ℕ} → IsQuote q → (w : List ℕ) {vs us : List ℕ} → IsLiteral q w vs → IsLiteral q w us → vs ≡ us
literal_once i w a b =
    let e = take_all (length (drop 1 w)) (drop 1 w) (omega arith) in
    (run_once i (is_run i a.1 (drop 1 w) (length (drop 1 w)) (omega arith) (sym e)) (is_run i b.1 (drop 1 w) (length (drop 1 w)) (omega arith) (sym e))).1

module _ {q : ℕ} (i : IsQuote q) (text : List ℕ) (some : 0 < length text) where
  -- the characters of a literal at the front
  pub literal_run : (m : ℕ) (vs : List ℕ) → m ≤ length text → IsLiteral q (take m text) vs → Run q (drop 1 text) (m - 1) vs
  literal_run m vs le l =
      let size = length-take-le m text le in
      let cut = length-drop 1 (take m text) in
      let k = characters_end l.1 in
      let whole : 1 + (m - 1) ≡ m = omega (arith, k.0) in
      let behind = length-drop 1 text in
      is_run i l.1 (drop 1 text) (m - 1) (omega arith) (ap (λ j. drop 1 (take j text)) (sym whole) ∙ drop-take 1 (m - 1) text)

  -- what is read forward after the quote is the only literal at the front
  pub only_literal : (n : ℕ) (vs : List ℕ) → get_or text 0 0 ≡ q → Run q (drop 1 text) n vs → IsOnlyLiteral q text (1 + n) vs
  only_literal n vs at r =
      let k = run_length r in
      let behind = length-drop 1 text in
      record {
        long = omega (arith, k.0);
        within = omega (arith, k.1);
        literal = (get_or-take (1 + n) text 0 0 (omega arith) ∙ at, subst (λ (w : List ℕ). Characters q w vs) (sym (drop-take 1 n text)) (run_is r));
        only = λ m us le l.
            let size = length-take-le m text le in
            let cut = length-drop 1 (take m text) in
            let c = characters_end l.1 in
            let e = (run_once i r (literal_run m us le l)).0 in
            omega (arith, e, c.0);
      }

-- no characters if there is none at the front
no_run : {q : ℕ} {text vs : List ℕ} {n v : ℕ} → NoFront (IsPiece q) text → Run q text n (v ∷ vs) → ⊥
no_run none (go l r e) = none _ _ l.some l.within l.spelled

-- if a character stands at the front and no other follows, the quote does
run_one : {q : ℕ} {text : List ℕ} {n k v u : ℕ} → Longest (IsPiece q) text n v → Run q text k (u ∷ []) → (n < length text) × (get_or text n 0 ≡ q)
run_one {q} {text} {n} l (go {n = n'} {m = m'} l' r e) =
    let same = longest_once (piece_once q) l l' in
    run_end (subst (λ j. Run q (drop j text) m' []) (sym same.0) r)
  where
    run_end : {m : ℕ} → Run q (drop n text) m [] → (n < length text) × (get_or text n 0 ≡ q)
    run_end (stop some at) = let size = length-drop n text in (omega arith, ap (λ i. get_or text i 0) (sym (add-zero n)) ∙ (sym (get_or-drop n text 0 0) ∙ at))

module _ {q : ℕ} (i : IsQuote q) (text : List ℕ) (some : 0 < length text) where
  pub no_character : NoFront (IsPiece q) (drop 1 text) → (m v : ℕ) → m ≤ length text → IsLiteral q (take m text) (v ∷ []) → ⊥
  no_character none m v le l = no_run none (literal_run i text some m (v ∷ []) le l)

  pub one_character : (n v : ℕ) → get_or text 0 0 ≡ q → Longest (IsPiece q) (drop 1 text) n v → 1 + n < length text → get_or text (1 + n) 0 ≡ q → IsOnlyLiteral q text (1 + n + 1) (v ∷ [])
  one_character n v at l lt end =
      let behind = length-drop 1 text in
      let cut = length-drop n (drop 1 text) in
      let e : 1 + (n + 1) ≡ 1 + n + 1 = omega arith in
      subst (λ k. IsOnlyLiteral q text k (v ∷ [])) e
      (only_literal i text some (n + 1) (v ∷ []) at (go l (stop (omega arith) (get_or-drop n (drop 1 text) 0 0 ∙ (get_or-drop 1 text (n + 0) 0 ∙ (ap (λ k. get_or text (1 + k) 0) (add-zero n) ∙ end)))) refl))

  pub no_end : (n v : ℕ) → Longest (IsPiece q) (drop 1 text) n v → (1 + n < length text → get_or text (1 + n) 0 ≡ q → ⊥) → (m u : ℕ) → m ≤ length text → IsLiteral q (take m text) (u ∷ []) → ⊥
  no_end n v l other m u le k =
      let e = run_one l (literal_run i text some m (u ∷ []) le k) in
      let behind = length-drop 1 text in
      other (omega (arith, e.0)) (sym (get_or-drop 1 text n 0) ∙ e.1)

-- what was read of a literal: the characters from the quote up to `len` go on with those from there
pub record Scanned (q : ℕ) (text : List ℕ) (len : ℕ) : Type 0 where
  pub some : 1 ≤ len
  pub within : len ≤ length text
  pub on : (n : ℕ) (vs : List ℕ) → Run q (drop len text) n vs → (us : List ℕ) × Run q (drop 1 text) (len - 1 + n) us
  pub back : (n : ℕ) (us : List ℕ) → Run q (drop 1 text) n us → (m : ℕ) × (vs : List ℕ) × (n ≡ len - 1 + m) × Run q (drop len text) m vs

pub scanned_none : (q : ℕ) (text : List ℕ) → 0 < length text → Scanned q text 1
scanned_none q text h = record {
  some = omega arith;
  within = omega arith;
  on = λ n vs r. (vs, subst (λ k. Run q (drop 1 text) k vs) (sym (zero-add n)) r);
  back = λ n us r. (n, us, sym (zero-add n), r);
}

pub scanned_more : {q : ℕ} → IsQuote q → (text : List ℕ) (len n v : ℕ) → Scanned q text len → Longest (IsPiece q) (drop len text) n v → Scanned q text (len + n)
scanned_more {q} i text len n v s l =
    let behind = length-drop len text in
    record {
      some = omega (arith, s.some);
      within = omega (arith, l.within, s.within);
      on = λ k vs r.
          let more = s.on (n + k) (v ∷ vs) (go l (subst (λ (w : List ℕ). Run q w k vs) (sym (drop-drop n len text)) r) refl) in
          let e : len - 1 + (n + k) ≡ len + n - 1 + k = omega (arith, s.some) in
          (more.0, subst (λ j. Run q (drop 1 text) j more.0) e more.1);
      back = λ k us r. let b = s.back k us r in further k b.0 b.1 b.2 b.3;
    }
  where
    further : (k m : ℕ) (vs : List ℕ) → k ≡ len - 1 + m → Run q (drop len text) m vs → (m : ℕ) × (vs : List ℕ) × (k ≡ len + n - 1 + m) × Run q (drop (len + n) text) m vs
    further k m vs e (stop some at) = absurd (piece_first i (take n (drop len text)) v l.spelled (get_or-take n (drop len text) 0 0 l.some ∙ at))
    further k m vs e (go {values = us} {n = n'} {m = m'} l' r e') =
        let same = longest_once (piece_once q) l l' in
        let r' = subst (λ j. Run q (drop j (drop len text)) m' us) (sym same.0) r in
        (m', us, omega (arith, e, e', same.0, s.some), subst (λ (w : List ℕ). Run q w m' us) (drop-drop n len text) r')

module _ {q : ℕ} (i : IsQuote q) (text : List ℕ) (some : 0 < length text) (len : ℕ) (s : Scanned q text len) where
  -- the quote ends the literal
  pub scanned_literal : get_or text 0 0 ≡ q → len < length text → get_or text len 0 ≡ q → (vs : List ℕ) × IsOnlyLiteral q text (len + 1) vs
  scanned_literal at lt end =
      let behind = length-drop len text in
      let r = s.on 1 [] (stop (omega arith) (get_or-drop len text 0 0 ∙ (ap (λ k. get_or text k 0) (add-zero len) ∙ end))) in
      let e : 1 + (len - 1 + 1) ≡ len + 1 = omega (arith, s.some) in
      (r.0, subst (λ k. IsOnlyLiteral q text k r.0) e (only_literal i text some (len - 1 + 1) r.0 at r.1))

  -- nothing ends it
  pub scanned_open : NoFront (IsPiece q) (drop len text) → (len < length text → get_or text len 0 ≡ q → ⊥) → (m : ℕ) (vs : List ℕ) → m ≤ length text → IsLiteral q (take m text) vs → ⊥
  scanned_open none other m vs le l = let b = s.back (m - 1) vs (literal_run i text some m vs le l) in ends_not b.0 b.1 b.3
    where
      ends_not : (k : ℕ) (us : List ℕ) → Run q (drop len text) k us → ⊥
      ends_not k us (stop some' at) = let behind = length-drop len text in other (omega arith) (ap (λ k. get_or text k 0) (sym (add-zero len)) ∙ (sym (get_or-drop len text 0 0) ∙ at))
      ends_not k us (go l' r e) = none _ _ l'.some l'.within l'.spelled

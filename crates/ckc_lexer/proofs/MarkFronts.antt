-- The longest mark at the front of a text.
use Rattle.std.proofs.Common.{◌≡◌, ℕ, ◌<◌, ◌≤◌, Bool, true, false, not, ◌||◌, nat_le, List, [], ◌∷◌, length, take, get_or, bytes_eq, sym, refl, ap, ◌∙◌, ⊎_elim, arith, length-take-le}
use Rattle.std.specs.List.{list_any, list_all}
use Rattle.std.proofs.lemmas.Bool.{false≢true, or_cases, and_parts, leb-true, agree_below_at, not-true}
use Rattle.std.proofs.lemmas.Slice.Eq.{bytes_eq-Decides}
use Rattle.ckc_syntax.specs.declared.tokens.TokenKind.TheVariants.{Mark}
use Rattle.ckc_lexer.specs.declared.items.Item.TheVariants.{Token}
use Rattle.ckc_lexer.specs.Bytes.{is_mark}
use Rattle.ckc_syntax.specs.Longest.{Longest}
use Rattle.ckc_lexer.specs.Marks.{marks, is_mark_text, IsMarkItem}

-- what is one of some texts passes a test that they all pass
pub among : (test : List ℕ → Bool) (ks : List (List ℕ)) (w : List ℕ) → list_all test ks ≡ true → list_any (bytes_eq w) ks ≡ true → test w ≡ true
among test [] w all any = absurd (false≢true any)
among test (k ∷ ks) w all any =
    let parts = and_parts (test k) (list_all test ks) all in
    ⊎_elim
    (λ here. ap test ((bytes_eq-Decides w k).0 here) ∙ parts.0)
    (λ later. among test ks w parts.1 later)
    (or_cases (bytes_eq w k) (list_any (bytes_eq w) ks) any)

-- no mark has more than two bytes
mark_short : (w : List ℕ) → is_mark_text w ≡ true → length w ≤ 2
mark_short w h = leb-true (length w) 2 (among (λ k. nat_le (length k) 2) marks w refl h)

pub single : (b : ℕ) → b < 256 → is_mark b ≡ true → is_mark_text (b ∷ []) ≡ true
single b lt h = ⊎_elim (λ e. absurd (false≢true (sym (not-true (is_mark b) e) ∙ h))) (λ e. e)
    (or_cases (not (is_mark b)) (is_mark_text (b ∷ [])) (agree_below_at (λ b. not (is_mark b) || is_mark_text (b ∷ [])) (λ b. true) 256 b refl lt))

take_one : (text : List ℕ) → 0 < length text → take 1 text ≡ get_or text 0 0 ∷ []
take_one [] h = absurd (omega (arith, h))
take_one (a ∷ text) h = refl

pub take_two : (text : List ℕ) → 1 < length text → take 2 text ≡ get_or text 0 0 ∷ get_or text 1 0 ∷ []
take_two [] h = absurd (omega (arith, h))
take_two (a ∷ []) h = absurd (omega (arith, h))
take_two (a ∷ b ∷ text) h = refl

pub double_longest : (text : List ℕ) → 1 < length text → is_mark_text (get_or text 0 0 ∷ get_or text 1 0 ∷ []) ≡ true → Longest IsMarkItem text 2 (Token Mark)
double_longest text h both = record {
  some = omega arith;
  within = omega arith;
  spelled = (ap is_mark_text (take_two text h) ∙ both, refl);
  longest = λ m other lt le s. let e = length-take-le m text le in let short = mark_short (take m text) s.0 in omega arith;
}

pub single_longest : (text : List ℕ) → 0 < length text → get_or text 0 0 < 256 → is_mark (get_or text 0 0) ≡ true → (1 < length text → is_mark_text (get_or text 0 0 ∷ get_or text 1 0 ∷ []) ≡ false) → Longest IsMarkItem text 1 (Token Mark)
single_longest text h byte first no_double = record {
  some = omega arith;
  within = omega arith;
  spelled = (ap is_mark_text (take_one text h) ∙ single (get_or text 0 0) byte first, refl);
  longest = λ m other lt le s.
      let e = length-take-le m text le in
      let short = mark_short (take m text) s.0 in
      let two : m ≡ 2 = omega arith in
      false≢true (sym (no_double (omega arith)) ∙ (sym (ap is_mark_text (ap (λ i. take i text) two ∙ take_two text (omega arith))) ∙ s.0));
}

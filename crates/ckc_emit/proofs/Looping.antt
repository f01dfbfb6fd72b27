-- The turns of the loops over registers, arguments, operations, blocks and functions.
use Rattle.std.proofs.Common.{◌≡◌, ◌⊎◌, inl, inr, ℕ, zero, suc, ◌+◌, ◌<◌, ◌≤◌, ◌==◌, ◌&&◌, ◌||◌, Bool, true, false, List, [], ◌∷◌, min, length, drop, get_or, refl, sym, ap, ◌∙◌, arith}
use Rattle.std.proofs.lemmas.Bool.{cases_lt}
use Rattle.ckc_asm_lines.specs.declared.lines.Line.{Line}
use Rattle.ckc_frame.specs.declared.code.Place.{Place}
use Rattle.ckc_frame.specs.Places.{number_of, home, is_kept_home}
use Rattle.ckc_emit.specs.code.CallLines.{place_at, is_argument_home, each_lines, argument_lines, arguments_lines}
use Rattle.ckc_emit.proofs.PlaceAt.{home_is}

or_assoc : (a b c : Bool) → ((a || b) || c) ≡ (a || (b || c))
or_assoc true b c = refl
or_assoc false b c = refl

or_false : (a : Bool) → (a || false) ≡ a
or_false true = refl
or_false false = refl

pub min_over : (a b n : ℕ) → n ≡ min a b → (a ≤ n) ⊎ (b ≤ n)
min_over a b n e = elim (cases_lt a b) as (λ _. (a ≤ n) ⊎ (b ≤ n)) [ inl h ↦ inl (omega arith) | inr h ↦ inr (omega arith) ]

-- ---- registers that are marked

kept_next : (q : ℕ) (place : Place) (mark : Bool) (places : List Place) (marks : List Bool)
    → is_kept_home q (place ∷ places) (mark ∷ marks) ≡ ((mark && (number_of place == q)) || is_kept_home q places marks)
kept_next q place true places marks = refl
kept_next q place false places marks = refl

kept_at : (q n : ℕ) (homes : List Place) (row : List Bool) (place : Place) (mark : Bool) → n < length homes → n < length row → place ≡ get_or homes n place → mark ≡ get_or row n mark
    → is_kept_home q (drop n homes) (drop n row) ≡ ((mark && (number_of place == q)) || is_kept_home q (drop (suc n) homes) (drop (suc n) row))
kept_at q n [] row place mark h k e f = absurd (omega arith)
kept_at q n (p ∷ ps) [] place mark h k e f = absurd (omega arith)
kept_at q zero (p ∷ ps) (m ∷ ms) place mark h k e f =
    kept_next q p m ps ms ∙ ap (λ x. (x && (number_of p == q)) || is_kept_home q ps ms) (sym f) ∙ ap (λ x. (mark && (number_of x == q)) || is_kept_home q ps ms) (sym e)
kept_at q (suc n) (p ∷ ps) (m ∷ ms) place mark h k e f = kept_at q n ps ms place mark (omega arith) (omega arith) e f

pub kept_more : (q n : ℕ) (homes : List Place) (row : List Bool) (place : Place) (mark : Bool) → n < length homes → n < length row → place ≡ get_or homes n place → mark ≡ get_or row n mark
    → is_kept_home q (drop n homes) (drop n row) ≡ ((mark && (number_of place == q)) || is_kept_home q (drop (n + 1) homes) (drop (n + 1) row))
kept_more q n homes row place mark h k e f =
    let one : suc n ≡ n + 1 = omega arith in
    kept_at q n homes row place mark h k e f ∙ ap (λ m. (mark && (number_of place == q)) || is_kept_home q (drop m homes) (drop m row)) one

drop_nothing : (n : ℕ) → drop n (let none : List Place = [] in none) ≡ []
drop_nothing zero = refl
drop_nothing (suc n) = refl

none : (q : ℕ) (places : List Place) → is_kept_home q places [] ≡ false
none q [] = refl
none q (p ∷ ps) = refl

pub kept_end : (q n : ℕ) (homes : List Place) (row : List Bool) → (length homes ≤ n) ⊎ (length row ≤ n) → is_kept_home q (drop n homes) (drop n row) ≡ false
kept_end q n [] row h = ap (λ l. is_kept_home q l (drop n row)) (drop_nothing n)
kept_end q zero (p ∷ ps) [] h = refl
kept_end q (suc n) (p ∷ ps) [] h = none q (drop n ps)
kept_end q zero (p ∷ ps) (m ∷ ms) h = absurd (elim h as (λ _. ⊥) [ inl a ↦ omega arith | inr b ↦ omega arith ])
kept_end q (suc n) (p ∷ ps) (m ∷ ms) h =
    kept_end q n ps ms (elim h as (λ _. (length ps ≤ n) ⊎ (length ms ≤ n)) [ inl a ↦ inl (omega arith) | inr b ↦ inr (omega arith) ])

argument_at : (q n : ℕ) (homes : List Place) (rs : List ℕ) (r d : ℕ) → n < length rs → r ≡ get_or rs n d
    → is_argument_home q homes (drop n rs) ≡ ((home homes r == q) || is_argument_home q homes (drop (suc n) rs))
argument_at q n homes [] r d h e = absurd (omega arith)
argument_at q zero homes (x ∷ xs) r d h e = ap (λ y. (home homes y == q) || is_argument_home q homes xs) (sym e)
argument_at q (suc n) homes (x ∷ xs) r d h e = argument_at q n homes xs r d (omega arith) e

pub argument_more : (q n : ℕ) (homes : List Place) (rs : List ℕ) (r d : ℕ) → n < length rs → r ≡ get_or rs n d
    → is_argument_home q homes (drop n rs) ≡ ((home homes r == q) || is_argument_home q homes (drop (n + 1) rs))
argument_more q n homes rs r d h e =
    let one : suc n ≡ n + 1 = omega arith in
    argument_at q n homes rs r d h e ∙ ap (λ m. (home homes r == q) || is_argument_home q homes (drop m rs)) one

-- the registers that are marked so far, and those of the rest, are all: also after one more is marked
pub saved_turn : (q : ℕ) (homes : List Place) (rs : List ℕ) (n r d : ℕ) (place : Place) (old new total : Bool) → n < length rs → r ≡ get_or rs n d → r < length homes → place ≡ place_at homes r
    → new ≡ (old || (number_of place == q)) → (old || is_argument_home q homes (drop n rs)) ≡ total → (new || is_argument_home q homes (drop (n + 1) rs)) ≡ total
saved_turn q homes rs n r d place old new total h e within p m i =
    let rest = is_argument_home q homes (drop (n + 1) rs) in
    let here : number_of place ≡ home homes r = ap number_of p ∙ sym (home_is homes r within) in
    ap (λ b. b || rest) m ∙ or_assoc old (number_of place == q) rest ∙ ap (λ x. old || ((x == q) || rest)) here
    ∙ ap (λ b. old || b) (sym (argument_more q n homes rs r d h e)) ∙ i

pub kept_done : (q n : ℕ) (homes : List Place) (row : List Bool) (found : Bool) → (length homes ≤ n) ⊎ (length row ≤ n)
    → (found || is_kept_home q (drop n homes) (drop n row)) ≡ is_kept_home q homes row → found ≡ is_kept_home q homes row
kept_done q n homes row found h i = sym (or_false found) ∙ ap (λ b. found || b) (sym (kept_end q n homes row h)) ∙ i

-- ---- registers that are saved and restored

module _ (line : Bool → ℕ → List Line → List Line) where
  pub each_same : (t u : ℕ → Bool) (count k : ℕ) (rest : List Line) → ((j : ℕ) → j < k + count → t j ≡ u j) → each_lines line t count k rest ≡ each_lines line u count k rest
  unfolding each_lines
  each_same t u zero k rest h = refl
  each_same t u (suc count) k rest h =
      ap (λ b. line b k (each_lines line t count (k + 1) rest)) (h k (omega arith))
      ∙ ap (λ l. line (u k) k l) (each_same t u count (k + 1) rest (λ j below. h j (omega arith)))

-- ---- arguments

arguments_at : (homes : List Place) (rs : List ℕ) (i k : ℕ) (params : List Place) (rest : List Line) (r d : ℕ) → i < length rs → r ≡ get_or rs i d
    → arguments_lines homes (drop i rs) k params rest ≡ arguments_lines homes (drop (suc i) rs) (k + 1) params (argument_lines (place_at homes r) (place_at params k) rest)
arguments_at homes [] i k params rest r d h e = absurd (omega arith)
arguments_at homes (x ∷ xs) zero k params rest r d h e =
    ap (λ y. arguments_lines homes xs (k + 1) params (argument_lines (place_at homes y) (place_at params k) rest)) (sym e)
arguments_at homes (x ∷ xs) (suc i) k params rest r d h e = arguments_at homes xs i k params rest r d (omega arith) e

pub arguments_more : (homes : List Place) (rs : List ℕ) (i k : ℕ) (params : List Place) (rest : List Line) (r d : ℕ) → i < length rs → r ≡ get_or rs i d
    → arguments_lines homes (drop i rs) k params rest ≡ arguments_lines homes (drop (i + 1) rs) (k + 1) params (argument_lines (place_at homes r) (place_at params k) rest)
arguments_more homes rs i k params rest r d h e =
    let one : suc i ≡ i + 1 = omega arith in
    arguments_at homes rs i k params rest r d h e ∙ ap (λ m. arguments_lines homes (drop m rs) (k + 1) params (argument_lines (place_at homes r) (place_at params k) rest)) one

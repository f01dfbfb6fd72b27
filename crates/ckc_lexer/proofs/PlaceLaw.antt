-- The place after bytes, counted byte by byte, is the one that the bytes decide.
use Rattle.std.proofs.Common.{◌≡◌, ℕ, ◌+◌, Bool, true, false, ◌||◌, ◌&&◌, cond, List, [], ◌∷◌, ◌++◌, length, filter, sym, refl, ap, ◌∙◌, ⊎_elim, arith}
use Rattle.std.specs.List.{list_any, list_all}
use Rattle.std.proofs.lemmas.Bool.{cases_Bool}
use Rattle.std.proofs.lemmas.Grind.{fold-append}
use Rattle.ckc_lexer.specs.declared.items.Here.{Here}
use Rattle.ckc_lexer.specs.Bytes.{is_feed, is_blank}
use Rattle.ckc_lexer.specs.Places.{last_line, place_after, is_fresh_after}
use Rattle.ckc_lexer.specs.code.Reading.{step, moved}
use Rattle.ckc_lexer.specs.code.Reading.{start}

-- the place after these bytes, and whether its line has only blanks
unfoldable pub here_of : List ℕ → Here
here_of before = record { line = (place_after before).line; col = (place_after before).col; fresh = is_fresh_after before }

no_feed_line : (b : List ℕ) → list_any is_feed b ≡ false → last_line b ≡ b
no_feed_line [] h = refl
no_feed_line (x ∷ b) h = ap (λ t. cond t (last_line b) (x ∷ b)) h

and_assoc : (a b c : Bool) → ((a && b) && c) ≡ (a && (b && c))
and_assoc true b c = refl
and_assoc false b c = refl

and_true : (a : Bool) → (a && true) ≡ a
and_true true = refl
and_true false = refl

-- a place moved on over bytes
abbrev moved_on : Here → List ℕ → Here
moved_on here b = record {
  line = here.line + length (filter is_feed b);
  col = cond (list_any is_feed b) (1 + length (last_line b)) (here.col + length b);
  fresh = cond (list_any is_feed b) (list_all is_blank (last_line b)) (here.fresh && list_all is_blank b);
}

here_path : (l m c d : ℕ) (f g : Bool) → l ≡ m → c ≡ d → f ≡ g → ◌≡◌ {A = Here} (record { line = l; col = c; fresh = f }) (record { line = m; col = d; fresh = g })
here_path l m c d f g p q r = λ j. record { line = p j; col = q j; fresh = r j }

cond_same : {A : Type 0} (t : Bool) (x y z : A) → (t ≡ false → y ≡ z) → cond t x y ≡ cond t x z
cond_same true x y z h = refl
cond_same false x y z h = h refl

cond_all : {A : Type 0} (t : Bool) (x y z : A) → (t ≡ true → x ≡ z) → (t ≡ false → y ≡ z) → cond t x y ≡ z
cond_all true x y z g h = g refl
cond_all false x y z g h = h refl

pub moved_is : (here : Here) (b : List ℕ) → moved here b ≡ moved_on here b
moved_is here [] = here_path _ _ _ _ _ _ (omega arith) (omega arith) (sym (and_true here.fresh))
moved_is here (x ∷ b) = moved_is (step here x) b ∙ ⊎_elim
    (λ (h : is_feed x ≡ true).
    let any : list_any is_feed (x ∷ b) ≡ true = ap (λ t. t || list_any is_feed b) h in
    let last : last_line (x ∷ b) ≡ last_line b = ap (λ t. cond t (last_line b) (x ∷ b)) any in
    let one : filter is_feed (x ∷ b) ≡ x ∷ filter is_feed b = ap (λ t. cond t (x ∷ filter is_feed b) (filter is_feed b)) h in
    ap (λ s. moved_on s b) (ap (λ t. cond {A = Here} t (record { line = here.line + 1; col = 1; fresh = true }) (record { line = here.line; col = here.col + 1; fresh = here.fresh && is_blank x })) h)
    ∙ here_path _ _ _ _ _ _
    (omega (arith, ap length one))
    (cond_all (list_any is_feed b) _ _ (1 + length (last_line b)) (λ e. refl) (λ e. ap (λ v. 1 + length v) (sym (no_feed_line b e))) ∙ sym (ap (λ t. cond t (1 + length (last_line (x ∷ b))) (here.col + length (x ∷ b))) any ∙ ap (λ v. 1 + length v) last))
    (cond_all (list_any is_feed b) _ _ (list_all is_blank (last_line b)) (λ e. refl) (λ e. ap (list_all is_blank) (sym (no_feed_line b e))) ∙ sym (ap (λ t. cond t (list_all is_blank (last_line (x ∷ b))) (here.fresh && list_all is_blank (x ∷ b))) any ∙ ap (list_all is_blank) last)))
    (λ (h : is_feed x ≡ false).
    let any : list_any is_feed (x ∷ b) ≡ list_any is_feed b = ap (λ t. t || list_any is_feed b) h in
    let none : filter is_feed (x ∷ b) ≡ filter is_feed b = ap (λ t. cond t (x ∷ filter is_feed b) (filter is_feed b)) h in
    ap (λ s. moved_on s b) (ap (λ t. cond {A = Here} t (record { line = here.line + 1; col = 1; fresh = true }) (record { line = here.line; col = here.col + 1; fresh = here.fresh && is_blank x })) h)
    ∙ here_path _ _ _ _ _ _
    (omega (arith, ap length none))
    (later x b any (λ v. 1 + length v) (here.col + 1 + length b) (here.col + length (x ∷ b)) (omega arith))
    (later x b any (λ v. list_all is_blank v) ((here.fresh && is_blank x) && list_all is_blank b) (here.fresh && list_all is_blank (x ∷ b)) (and_assoc here.fresh (is_blank x) (list_all is_blank b))))
    (cases_Bool (is_feed x))
  where
    later : {A : Type 0} (x : ℕ) (b : List ℕ) → list_any is_feed (x ∷ b) ≡ list_any is_feed b → (f : List ℕ → A) (y z : A) → y ≡ z → cond (list_any is_feed b) (f (last_line b)) y ≡ cond (list_any is_feed (x ∷ b)) (f (last_line (x ∷ b))) z
    later x b any f y z e =
        cond_all (list_any is_feed b) _ _ (cond (list_any is_feed (x ∷ b)) (f (last_line (x ∷ b))) z)
        (λ t. sym (ap (λ u. cond u (f (last_line (x ∷ b))) z) (any ∙ t) ∙ ap f (ap (λ u. cond u (last_line b) (x ∷ b)) (any ∙ t))))
        (λ t. e ∙ sym (ap (λ u. cond u (f (last_line (x ∷ b))) z) (any ∙ t)))

pub from_start : (b : List ℕ) → moved start b ≡ here_of b
unfolding here_of
from_start b = moved_is start b ∙ here_path _ _ _ _ _ _ refl
    (cond_all (list_any is_feed b) _ _ (1 + length (last_line b)) (λ e. refl) (λ e. ap (λ v. 1 + length v) (sym (no_feed_line b e))))
    (cond_all (list_any is_feed b) _ _ (list_all is_blank (last_line b)) (λ e. refl) (λ e. ap (list_all is_blank) (sym (no_feed_line b e))))

-- further bytes move the place on
pub here_append : (before w : List ℕ) → moved (here_of before) w ≡ here_of (before ++ w)
here_append before w = ap (λ h. moved h w) (sym (from_start before)) ∙ (sym (fold-append step start before w) ∙ from_start (before ++ w))

-- the place of what moved over a whole text
pub end_place : (text : List ℕ) (here : Here) → here ≡ moved start text → record { line = here.line; col = here.col } ≡ place_after text
unfolding here_of
end_place text here h = ap (λ (x : Here). record { line = x.line; col = x.col }) (h ∙ from_start text)

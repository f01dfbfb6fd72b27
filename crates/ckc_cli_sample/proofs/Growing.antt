-- Lines that are added to a text, and the parts of a sample one after another.
use Rattle.std.proofs.Common.{◌≡◌, ◌≢◌, ℕ, zero, suc, ◌+◌, ◌-◌, List, [], ◌∷◌, ◌++◌, map, codes, refl, sym, ap, ◌∙◌, arith, append_assoc, append-nil}
use Rattle.std.specs.List.{flat_map, range_with_len}
use Rattle.std.proofs.lemmas.List.{flat_map_more}
use Rattle.std.proofs.lemmas.List.FromFn.{map-range_with_len_more}
use Rattle.std.proofs.lemmas.Grind.{flat_map-append}
use Rattle.ckc_asm_listing.specs.Listing.{text_of, ended}
use Rattle.ckc_cli_sample.specs.Sample.{next_number, number_after, added_by, first_lines, call_line, call_lines, function_lines, main_lines, sample_text}

-- a text with lines added to it
abbrev pub Grows : List ℕ → List ℕ → List (List ℕ) → Type 0
Grows old new lines = new ≡ old ++ text_of lines

pub grows_none : (old new : List ℕ) → new ≡ old → Grows old new []
grows_none old new e = e ∙ sym (append-nil old)

pub grows_line : (old new line words : List ℕ) → new ≡ old ++ line → line ≡ ended words → Grows old new (words ∷ [])
grows_line old new line words e f = e ∙ ap (λ l. old ++ l) (f ∙ sym (append-nil (ended words)))

pub grows_both : (old middle new : List ℕ) (a b : List (List ℕ)) → Grows old middle a → Grows middle new b → Grows old new (a ++ b)
grows_both old middle new a b p q =
    q ∙ ap (λ t. t ++ text_of b) p ∙ append_assoc old (text_of a) (text_of b) ∙ ap (λ t. old ++ t) (sym (flat_map-append ended a b))

-- ---- calls

pub no_call : (j : ℕ) → j ≡ 0 → [] ≡ call_lines j
no_call zero e = refl
no_call (suc k) e = absurd (omega (arith, e))

pub one_call : (j : ℕ) → j ≢ 0 → call_line (j - 1) (codes "n") ∷ [] ≡ call_lines j
one_call zero h = absurd (h refl)
one_call (suc k) h =
    let e : suc k - 1 ≡ k = omega arith in
    ap (λ (n : ℕ). call_line n (codes "n") ∷ []) e

-- ---- the parts of a text

pub number_none : (seed : ℕ) → seed ≡ number_after seed 0
unfolding number_after
number_none seed = refl

pub number_more : (seed j x y : ℕ) → x ≡ number_after seed j → y ≡ next_number x → y ≡ number_after seed (j + 1)
unfolding number_after
number_more seed j x y e f =
    let g : suc j ≡ j + 1 = omega arith in
    f ∙ ap next_number e ∙ ap (number_after seed) g

-- the text up to function j
abbrev pub begun : (seed j : ℕ) → List ℕ
begun seed j = text_of first_lines ++ flat_map text_of (map (λ k. function_lines (added_by seed k) k) (range_with_len 0 j))

pub begun_none : (seed : ℕ) (text : List ℕ) → text ≡ text_of first_lines → text ≡ begun seed 0
begun_none seed text e = e ∙ sym (append-nil (text_of first_lines))

pub begun_more : (seed j added : ℕ) (old new : List ℕ) → old ≡ begun seed j → added ≡ added_by seed j → Grows old new (function_lines added j) → new ≡ begun seed (j + 1)
begun_more seed j added old new e f g =
    let functions : List (List (List ℕ)) = map (λ k. function_lines (added_by seed k) k) (range_with_len 0 j) in
    let next : List (List ℕ) = function_lines (added_by seed j) j in
    g ∙ ap (λ a. old ++ text_of (function_lines a j)) f ∙ ap (λ t. t ++ text_of next) e
    ∙ flat_map_more text_of (text_of first_lines) functions next
    ∙ ap (λ l. text_of first_lines ++ flat_map text_of l) (sym (map-range_with_len_more (λ k. function_lines (added_by seed k) k) 0 j j (omega arith)))

pub whole : (seed size j : ℕ) (old new : List ℕ) → j ≡ size → old ≡ begun seed j → Grows old new (main_lines size) → new ≡ sample_text seed size
unfolding sample_text
whole seed size j old new is e g =
    let functions : List (List (List ℕ)) = map (λ k. function_lines (added_by seed k) k) (range_with_len 0 size) in
    g ∙ ap (λ t. t ++ text_of (main_lines size)) (e ∙ ap (begun seed) is) ∙ flat_map_more text_of (text_of first_lines) functions (main_lines size)

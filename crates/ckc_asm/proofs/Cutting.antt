-- How the words of a line are cut off its front, one after another.
use Rattle.std.proofs.Common.{◌≡◌, ℕ, suc, ◌+◌, ◌<◌, ◌≤◌, Bool, true, false, cond, ◌||◌, not, List, [], ◌∷◌, ◌++◌, length, take, drop, get_or, refl, sym, ap, ◌∙◌, arith, ⊎_elim, append_assoc, drop-cons, add-one}
use Rattle.std.specs.List.{prefix_len}
use Rattle.std.proofs.lemmas.List.{append-nil, drop_all, drop-drop}
use Rattle.ckc_asm.specs.Cut.{Word, cut, is_blank, is_mark, is_hash, is_word_byte, onto_word, new_word}
use Rattle.ckc_asm.proofs.Words.{cut_first}
use Rattle.ckc_asm_lines.proofs.Cases.{bool_cases}

-- the word at a column
abbrev pub word : ℕ → List ℕ → Word
word col text = record { col = col; text = text }

pub cut_hash : (col b : ℕ) (rest : List ℕ) → is_hash b ≡ true → cut col (b ∷ rest) ≡ []
unfolding cut
cut_hash col b rest h = rw h refl

pub cut_blank : (col b : ℕ) (rest : List ℕ) → is_hash b ≡ false → is_blank b ≡ true → cut col (b ∷ rest) ≡ cut (col + 1) rest
unfolding cut
cut_blank col b rest h k = rw (h, k) refl

pub cut_mark : (col b : ℕ) (rest : List ℕ) → is_hash b ≡ false → is_blank b ≡ false → is_mark b ≡ true → cut col (b ∷ rest) ≡ word col (b ∷ []) ∷ cut (col + 1) rest
unfolding cut
cut_mark col b rest h k m = rw (h, k, m) refl

pub cut_end : (col : ℕ) → cut col [] ≡ []
unfolding cut
cut_end col = refl

-- the longest row of word bytes at the front is a word
pub cut_row : (col b : ℕ) (rest : List ℕ) → is_word_byte b ≡ true
    → cut col (b ∷ rest) ≡ word col (b ∷ take (prefix_len is_word_byte rest) rest) ∷ cut (col + suc (prefix_len is_word_byte rest)) (drop (prefix_len is_word_byte rest) rest)
cut_row col b [] h = cut_first col b [] h ∙ ap (λ c. word col (b ∷ []) ∷ cut c []) (add-one-is col)
  where
    add-one-is : (n : ℕ) → n + 1 ≡ n + suc 0
    add-one-is n = omega arith
cut_row col b (d ∷ more) h = ⊎_elim
    (λ (t : is_word_byte d ≡ true).
    let n = prefix_len is_word_byte more in
    let len : prefix_len is_word_byte (d ∷ more) ≡ suc n = ap (λ c. cond c (1 + n) 0) t ∙ one_more n in
    let later : (col + 1) + suc n ≡ col + suc (suc n) = omega arith in
    cut_first col b (d ∷ more) h
    ∙ ap (λ g. cond g (onto_word col b (cut (col + 1) (d ∷ more))) (new_word col b (cut (col + 1) (d ∷ more)))) t
    ∙ ap (onto_word col b) (cut_row (col + 1) d more t)
    ∙ ap (λ c. word col (b ∷ (d ∷ take n more)) ∷ cut c (drop n more)) later
    ∙ ap (λ m. word col (b ∷ take m (d ∷ more)) ∷ cut (col + suc m) (drop m (d ∷ more))) (sym len))
    (λ (f : is_word_byte d ≡ false).
    let len : prefix_len is_word_byte (d ∷ more) ≡ 0 = ap (λ c. cond c (1 + prefix_len is_word_byte more) 0) f in
    let later : col + 1 ≡ col + suc 0 = omega arith in
    cut_first col b (d ∷ more) h
    ∙ ap (λ g. cond g (onto_word col b (cut (col + 1) (d ∷ more))) (new_word col b (cut (col + 1) (d ∷ more)))) f
    ∙ ap (λ c. word col (b ∷ []) ∷ cut c (d ∷ more)) later
    ∙ ap (λ m. word col (b ∷ take m (d ∷ more)) ∷ cut (col + suc m) (drop m (d ∷ more))) (sym len))
    (bool_cases (is_word_byte d))
  where
    one_more : (n : ℕ) → 1 + n ≡ suc n
    one_more n = omega arith

no_others : (b m h : Bool) → b ≡ false → m ≡ false → h ≡ false → not (b || m || h) ≡ true
no_others b m h p q r = rw (p, q, r) refl

-- the word at the front of a line, which is a mark or a row
pub front_mark : (rest : List ℕ) → 0 < length rest → is_hash (get_or rest 0 0) ≡ false → is_blank (get_or rest 0 0) ≡ false → is_mark (get_or rest 0 0) ≡ true
    → (col : ℕ) → cut col rest ≡ word col (take 1 rest) ∷ cut (col + 1) (drop 1 rest)
front_mark [] some h k m col = absurd (omega arith)
front_mark (b ∷ rest) some h k m col = cut_mark col b rest h k m

pub front_row : (rest : List ℕ) (n : ℕ) → 0 < length rest → is_hash (get_or rest 0 0) ≡ false → is_blank (get_or rest 0 0) ≡ false → is_mark (get_or rest 0 0) ≡ false
    → n ≡ prefix_len is_word_byte rest → (0 < n) × ((col : ℕ) → cut col rest ≡ word col (take n rest) ∷ cut (col + n) (drop n rest))
front_row [] n some h k m e = absurd (omega arith)
front_row (b ∷ rest) n some h k m e =
    let p : is_word_byte b ≡ true = no_others (is_blank b) (is_mark b) (is_hash b) k m h in
    let len : n ≡ suc (prefix_len is_word_byte rest) = e ∙ ap (λ c. cond c (1 + prefix_len is_word_byte rest) 0) p ∙ (omega arith) in
    (omega arith, λ col. rw len (cut_row col b rest p))

-- ---- at a place of a line

at_place : (line : List ℕ) (at : ℕ) → at < length line → drop at line ≡ get_or line at 0 ∷ drop (at + 1) line
at_place line at h = drop-cons line at 0 h ∙ ap (λ n. get_or line at 0 ∷ drop n line) (sym (add-one at))

pub place_hash : (line : List ℕ) (at : ℕ) (done : List Word) → at < length line → is_hash (get_or line at 0) ≡ true
    → done ++ cut (at + 1) (drop at line) ≡ cut 1 line → done ≡ cut 1 line
place_hash line at done h p e =
    sym (append-nil done) ∙ ap (λ l. done ++ l) (sym (ap (cut (at + 1)) (at_place line at h) ∙ cut_hash (at + 1) (get_or line at 0) (drop (at + 1) line) p)) ∙ e

pub place_blank : (line : List ℕ) (at : ℕ) (done : List Word) → at < length line → is_hash (get_or line at 0) ≡ false → is_blank (get_or line at 0) ≡ true
    → done ++ cut (at + 1) (drop at line) ≡ cut 1 line → done ++ cut ((at + 1) + 1) (drop (at + 1) line) ≡ cut 1 line
place_blank line at done h p q e =
    ap (λ l. done ++ l) (sym (ap (cut (at + 1)) (at_place line at h) ∙ cut_blank (at + 1) (get_or line at 0) (drop (at + 1) line) p q)) ∙ e

pub place_end : (line : List ℕ) (at : ℕ) (done : List Word) → length line ≤ at → done ++ cut (at + 1) (drop at line) ≡ cut 1 line → done ≡ cut 1 line
place_end line at done h e = sym (append-nil done) ∙ ap (λ l. done ++ l) (sym (ap (cut (at + 1)) (drop_all at line h) ∙ cut_end (at + 1))) ∙ e

pub place_word : (line : List ℕ) (at len : ℕ) (text : List ℕ) (done : List Word)
    → ((col : ℕ) → cut col (drop at line) ≡ word col (take len (drop at line)) ∷ cut (col + len) (drop len (drop at line)))
    → text ≡ take len (drop at line) → done ++ cut (at + 1) (drop at line) ≡ cut 1 line
    → (done ++ word (at + 1) text ∷ []) ++ cut ((at + len) + 1) (drop (at + len) line) ≡ cut 1 line
place_word line at len text done front is e =
    let later : (at + len) + 1 ≡ (at + 1) + len = omega arith in
    append_assoc done (word (at + 1) text ∷ []) (cut ((at + len) + 1) (drop (at + len) line))
    ∙ ap (λ t. done ++ word (at + 1) t ∷ cut ((at + len) + 1) (drop (at + len) line)) is
    ∙ ap (λ c. done ++ word (at + 1) (take len (drop at line)) ∷ cut c (drop (at + len) line)) later
    ∙ ap (λ l. done ++ word (at + 1) (take len (drop at line)) ∷ cut ((at + 1) + len) l) (sym (drop-drop len at line))
    ∙ ap (λ l. done ++ l) (sym (front (at + 1)))
    ∙ e

-- Bytes that are cut into pieces of given sizes are their pieces.
use Rattle.std.proofs.Common.{◌≡◌, ℕ, suc, ◌+◌, List, [], ◌∷◌, ◌++◌, length, take, drop, Some, refl, sym, ap, ◌∙◌, arith, sum_by, length-drop}
use Rattle.std.specs.List.{slice_get}
use Rattle.std.proofs.lemmas.List.{nil_from_length, take-append-drop, drop-drop}
use Rattle.std.proofs.lemmas.List.Sums.{sum_by-cons}

-- the piece of the k-th item
abbrev pub piece_at : {A : Type 0} → (A → ℕ) → List A → ℕ → A → List ℕ → List ℕ
piece_at size xs k x c = take (size x) (drop (sum_by size (take k xs)) c)

abbrev pub SamePieces : {A : Type 0} → (A → ℕ) → List A → List ℕ → List ℕ → Type 0
SamePieces {A} size xs c d = (k : ℕ) (x : A) → slice_get xs k ≡ Some x → piece_at size xs k x c ≡ piece_at size xs k x d

behind : {A : Type 0} (size : A → ℕ) (x : A) (xs : List A) (c d : List ℕ) → SamePieces size (x ∷ xs) c d → SamePieces size xs (drop (size x) c) (drop (size x) d)
behind size x xs c d each k y at =
    let e : sum_by size (take (suc k) (x ∷ xs)) ≡ size x + sum_by size (take k xs) = sum_by-cons size x (take k xs) in
    let shift = λ (l : List ℕ). ap (take (size y)) (drop-drop (sum_by size (take k xs)) (size x) l ∙ ap (λ m. drop m l) (sym e)) in
    shift c ∙ each (suc k) y at ∙ sym (shift d)

pub pieces_once : {A : Type 0} (size : A → ℕ) (xs : List A) (c d : List ℕ) → length c ≡ sum_by size xs → length d ≡ sum_by size xs → SamePieces size xs c d → c ≡ d
pieces_once size [] c d hc hd each = nil_from_length c hc ∙ sym (nil_from_length d hd)
pieces_once size (x ∷ xs) c d hc hd each =
    let n = size x in
    let e = sum_by-cons size x xs in
    let front : take n c ≡ take n d = each 0 x refl in
    let hc' : length (drop n c) ≡ sum_by size xs = omega (arith, hc, e, length-drop n c) in
    let hd' : length (drop n d) ≡ sum_by size xs = omega (arith, hd, e, length-drop n d) in
    let back = pieces_once size xs (drop n c) (drop n d) hc' hd' (behind size x xs c d each) in
    sym (take-append-drop n c) ∙ ap (λ l. l ++ drop n c) front ∙ ap (λ l. take n d ++ l) back ∙ take-append-drop n d

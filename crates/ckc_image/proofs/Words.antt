-- Words and their bytes, and where they stand in a list.
use Rattle.std.proofs.Common.{◌≡◌, ℕ, ◌+◌, ◌/◌, ◌%◌, ◌^◌, ◌<◌, ◌≤◌, List, [], ◌∷◌, ◌++◌, length, drop, get_or, sym, arith}
use Rattle.std.proofs.lemmas.Grind.{common_steps}
use Rattle.std.proofs.lemmas.List.{take-append-drop, drop-drop}
use Rattle.std.specs.Int.{w32, from_le_bytes}
use Rattle.ckc_image.specs.Image.{word_bytes, four_at, word_at}

pub word_back : (n : ℕ) → n < 2 ^ 32 → from_le_bytes w32 (word_bytes n) ≡ n
word_back n h = omega arith

-- the items of a list are bytes
abbrev pub AreBytes : List ℕ → Type 0
AreBytes bytes = (k : ℕ) → get_or bytes k 0 < 2 ^ 8

four_is : (bytes : List ℕ) (at : ℕ) → at + 4 ≤ length bytes
    → four_at bytes at ≡ get_or bytes at 0 ∷ get_or bytes (at + 1) 0 ∷ get_or bytes (at + 2) 0 ∷ get_or bytes (at + 3) 0 ∷ []
four_is bytes at h = grind (arith, common_steps)

word_of_four : (a b c d : ℕ) → a < 2 ^ 8 → b < 2 ^ 8 → c < 2 ^ 8 → d < 2 ^ 8
    → word_bytes (from_le_bytes w32 (a ∷ b ∷ c ∷ d ∷ [])) ≡ a ∷ b ∷ c ∷ d ∷ []
word_of_four a b c d ha hb hc hd =
    let n = from_le_bytes w32 (a ∷ b ∷ c ∷ d ∷ []) in
    let ea : n % 256 ≡ a = omega arith in
    let eb : n / 256 % 256 ≡ b = omega arith in
    let ec : n / 65536 % 256 ≡ c = omega arith in
    let ed : n / 16777216 % 256 ≡ d = omega arith in
    cc

pub bytes_back : (bytes : List ℕ) (at : ℕ) → AreBytes bytes → at + 4 ≤ length bytes → word_bytes (word_at bytes at) ≡ four_at bytes at
bytes_back bytes at small h =
    rw (four_is bytes at h) (word_of_four _ _ _ _ (small at) (small (at + 1)) (small (at + 2)) (small (at + 3)))

pub piece : (bytes : List ℕ) (at next : ℕ) → next ≡ at + 4 → drop at bytes ≡ four_at bytes at ++ drop next bytes
piece bytes at next e = rw (e, ← drop-drop 4 at bytes) (sym (take-append-drop 4 (drop at bytes)))

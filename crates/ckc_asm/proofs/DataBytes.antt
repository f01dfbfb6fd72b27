-- The bytes of `.data`, one word after another.
use Rattle.std.proofs.Common.{◌≡◌, ℕ, suc, ◌+◌, ◌<◌, ◌≤◌, List, [], ◌∷◌, ◌++◌, length, drop, get_or, Option, Some, None, refl, sym, ap, append_assoc, drop-cons, add-one}
use Rattle.std.specs.Option.{option_map}
use Rattle.std.proofs.lemmas.List.{append-nil, drop_all}
use Rattle.ckc_asm.specs.declared.spots.Spot as spots
use Rattle.ckc_asm.specs.code.Rows.{texts_of}
use Rattle.ckc_asm.specs.code.Numerals.{byte_of}
use Rattle.ckc_asm.specs.code.Found.{bytes_of, ◌>>=◌}

joined : (done : List ℕ) (b : ℕ) (o : Option (List ℕ)) → option_map (λ rest. done ++ rest) (o >>= λ bytes. Some (b ∷ bytes)) ≡ option_map (λ rest. (done ++ b ∷ []) ++ rest) o
joined done b None = refl
joined done b (Some bytes) = ap Some (sym (append_assoc done (b ∷ []) bytes))

pub bytes_broken : (words : List spots.Spot) (k : ℕ) (d : spots.Spot) (done : List ℕ) → k < length words → byte_of ((get_or words k d).text.now) ≡ None
    → option_map (λ rest. done ++ rest) (bytes_of (texts_of (drop k words))) ≡ None
bytes_broken words k d done h e = rw (drop-cons words k d h, e) refl

pub bytes_next : (words : List spots.Spot) (k : ℕ) (d : spots.Spot) (done : List ℕ) (b : ℕ) → k < length words → byte_of ((get_or words k d).text.now) ≡ Some b
    → option_map (λ rest. done ++ rest) (bytes_of (texts_of (drop k words))) ≡ option_map (λ rest. (done ++ b ∷ []) ++ rest) (bytes_of (texts_of (drop (k + 1) words)))
bytes_next words k d done b h e = rw (drop-cons words k d h, e, add-one) (joined done b (bytes_of (texts_of (drop (suc k) words))))

pub bytes_all : (words : List spots.Spot) (k : ℕ) (done : List ℕ) → length words ≤ k → option_map (λ rest. done ++ rest) (bytes_of (texts_of (drop k words))) ≡ Some done
bytes_all words k done h = rw (drop_all k words h) (ap Some (append-nil done))

-- A word of a length that no keyword of a list has is none of them.
use Rattle.std.proofs.Common.{◌≡◌, ℕ, List, [], ◌∷◌, Bool, true, false, ◌&&◌, ◌||◌, refl, sym, ap, ◌∙◌, length, arith}
use Rattle.std.proofs.Math.Bool.{and-false}
use Rattle.std.specs.Prelude.{bytes_eq, nat_eq, nat_le}
use Rattle.std.specs.List.{list_any, list_all}
use Rattle.ckc_lexer.specs.Words.{plain_keywords}

-- whether a keyword without `_` in front may have so many bytes
abbrev fits_plain : ℕ → Bool
fits_plain n = nat_le 2 n && nat_le n 8

-- texts of two lengths are not the same
other_length : (k w : List ℕ) → (length k ≡ length w → ⊥) → bytes_eq k w ≡ false
other_length [] [] h = absurd (h refl)
other_length [] (c ∷ w) h = refl
other_length (b ∷ k) [] h = refl
other_length (b ∷ k) (c ∷ w) h = ap (λ r. nat_eq b c && r) (other_length k w (λ e. h (omega (arith, e)))) ∙ and-false (nat_eq b c)

both_hold : (p q : Bool) → (p && q) ≡ true → (p ≡ true) × (q ≡ true)
both_hold true q e = (refl, e)
both_hold false q e = absurd (cc)

apart : (m n : ℕ) → fits_plain m ≡ true → fits_plain n ≡ false → m ≡ n → ⊥
apart m n fits other e = let same = sym fits ∙ ap fits_plain e ∙ other in cc

none_there : (ks : List (List ℕ)) (w : List ℕ) → fits_plain (length w) ≡ false → list_all (λ k. fits_plain (length k)) ks ≡ true → list_any (λ k. bytes_eq k w) ks ≡ false
none_there [] w h e = refl
none_there (k ∷ ks) w h e =
    let p = both_hold (fits_plain (length k)) (list_all (λ k. fits_plain (length k)) ks) e in
    ap (λ b. b || list_any (λ k. bytes_eq k w) ks) (other_length k w (apart (length k) (length w) p.0 h)) ∙ none_there ks w h p.1

pub none_plain : (w : List ℕ) → fits_plain (length w) ≡ false → false ≡ list_any (λ k. bytes_eq k w) plain_keywords
none_plain w h = sym (none_there plain_keywords w h refl)

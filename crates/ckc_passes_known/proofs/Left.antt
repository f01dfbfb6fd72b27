-- What is left of a block and of a list of blocks, one more.
use Rattle.std.proofs.Common.{◌≡◌, inl, inr, ℕ, zero, suc, ◌+◌, ◌≤◌, ◌<◌, List, [], ◌∷◌, ◌++◌, length, get_or, slice_get, take, drop, Some, refl, sym, ap, subst, ◌∙◌, arith}
use Rattle.std.proofs.lemmas.List.{drop_more, drop_all, take_all, append_assoc, append-nil}
use Rattle.ckc_tac.specs.declared.code.TacBlock.{TacBlock}
use Rattle.ckc_tac.specs.declared.code.TacOp.{TacOp}
use Rattle.ckc_tac.specs.declared.code.TacEnd.{TacEnd}
use Rattle.ckc_passes.specs.Passes.{Becomes, ended, kept, dropped}
use Rattle.ckc_passes.specs.Rewrites.{all_done}
use Rattle.ckc_passes_known.specs.Known.{EndBecomes, known_pass, ZipFrom}
use Rattle.ckc_passes_known.specs.code.Left.{IsPut, IsTaken}

-- ---- one more operation

done_one : (done ops : List TacOp) (i : ℕ) (op : TacOp) → i < length ops → op ≡ get_or ops i op → all_done done (take (suc i) ops) ≡ op ∷ all_done done (take i ops)
done_one done [] i op h e = absurd (omega (arith, h))
done_one done (o ∷ ops) zero op h e = ap (λ (p : TacOp). p ∷ done) (sym e)
done_one done (o ∷ ops) (suc i) op h e = done_one (o ∷ done) ops i op (omega (arith, h)) e

pub done_more : (ops : List TacOp) (i : ℕ) (op : TacOp) → i < length ops → op ≡ get_or ops i op → all_done [] (take (i + 1) ops) ≡ op ∷ all_done [] (take i ops)
done_more ops i op h e = let n : i + 1 ≡ suc i = omega arith in ap (λ m. all_done [] (take m ops)) n ∙ done_one [] ops i op h e

module _ (blocks : List TacBlock) (b : ℕ) (ops : List TacOp) where
  pub taken_first : IsTaken blocks b ops 0 []
  taken_first rest end low_end m = m

  module _ (done : List TacOp) (op : TacOp) (next : List TacOp) (left rest : List TacOp) (end low_end : TacEnd) where
    put_on : (left' : List TacOp) → IsPut blocks b done op left left'
        → ((more : List TacOp) → Becomes (known_pass b) blocks done (op ∷ next) end more low_end → Becomes (known_pass b) blocks [] ops end (left ++ more) low_end)
        → Becomes (known_pass b) blocks (op ∷ done) next end rest low_end → Becomes (known_pass b) blocks [] ops end (left' ++ rest) low_end
    put_on left' (inl (needless, same)) h m =
        subst (λ (l : List TacOp). Becomes (known_pass b) blocks [] ops end (l ++ rest) low_end) (sym same) (h rest (dropped needless m))
    put_on left' (inr (stays, more)) h m =
        subst (λ (l : List TacOp). Becomes (known_pass b) blocks [] ops end (l ++ rest) low_end) (sym more)
        (subst (λ (l : List TacOp). Becomes (known_pass b) blocks [] ops end l low_end) (sym (append_assoc left (op ∷ []) rest)) (h (op ∷ rest) (kept (refl, stays) m)))

  pub taken_next : (i : ℕ) (op : TacOp) (left left' : List TacOp) → i < length ops → op ≡ get_or ops i op
      → IsPut blocks b (all_done [] (take i ops)) op left left' → IsTaken blocks b ops i left → IsTaken blocks b ops (i + 1) left'
  taken_next i op left left' within at put taken rest end low_end m =
      let done = all_done [] (take i ops) in
      let next : drop i ops ≡ op ∷ drop (i + 1) ops = drop_more ops i op within ∙ ap (λ (o : TacOp). o ∷ drop (i + 1) ops) (sym at) in
      put_on done op (drop (i + 1) ops) left rest end low_end left' put
      (λ more n. taken more end low_end (subst (λ (l : List TacOp). Becomes (known_pass b) blocks done l end more low_end) (sym next) n))
      (subst (λ (d : List TacOp). Becomes (known_pass b) blocks d (drop (i + 1) ops) end rest low_end) (done_more ops i op within at) m)

  pub taken_last : (i : ℕ) (left : List TacOp) (end low_end : TacEnd) → length ops ≤ i → IsTaken blocks b ops i left
      → EndBecomes blocks b (all_done [] ops) end low_end → Becomes (known_pass b) blocks [] ops end left low_end
  taken_last i left end low_end all taken given =
      let last : Becomes (known_pass b) blocks (all_done [] ops) [] end [] low_end = ended given in
      subst (λ (l : List TacOp). Becomes (known_pass b) blocks [] ops end l low_end) (append-nil left)
      (taken [] end low_end
      (subst (λ (d : List TacOp). Becomes (known_pass b) blocks (all_done [] d) (drop i ops) end [] low_end) (sym (take_all i ops all))
      (subst (λ (l : List TacOp). Becomes (known_pass b) blocks (all_done [] ops) l end [] low_end) (sym (drop_all i ops all)) last)))

-- ---- one more pair

module _ {A B : Type 0} (R : ℕ → A → B → Type 0) where
  zip_one : (n : ℕ) (xs : List A) (ys : List B) (i m : ℕ) (x : A) (y : B) → i < length xs → x ≡ get_or xs i x → m ≡ n + i → R m x y
      → ZipFrom R n (take i xs) ys → ZipFrom R n (take (suc i) xs) (ys ++ y ∷ [])
  zip_one n [] ys i m x y h e f r z = absurd (omega (arith, h))
  zip_one n (a ∷ xs) [] zero m x y h e f r z = (subst (λ (c : A). R n c y) e (subst (λ k. R k x y) (let g : m ≡ n = omega (arith, f) in g) r), tt)
  zip_one n (a ∷ xs) (b ∷ ys) zero m x y h e f r z = absurd z
  zip_one n (a ∷ xs) [] (suc i) m x y h e f r z = absurd z
  zip_one n (a ∷ xs) (b ∷ ys) (suc i) m x y h e f r z = (z.0, zip_one (n + 1) xs ys i m x y (omega (arith, h)) e (omega (arith, f)) r z.1)

  pub zip_more : (xs : List A) (ys : List B) (i : ℕ) (x : A) (y : B) → i < length xs → x ≡ get_or xs i x → R i x y
      → ZipFrom R 0 (take i xs) ys → ZipFrom R 0 (take (i + 1) xs) (ys ++ y ∷ [])
  zip_more xs ys i x y h e r z =
      let n : i + 1 ≡ suc i = omega arith in
      subst (λ k. ZipFrom R 0 (take k xs) (ys ++ y ∷ [])) (sym n) (zip_one 0 xs ys i i x y h e (omega arith) r z)

  pub zip_at : (n : ℕ) (xs : List A) (ys : List B) (k m : ℕ) (x : A) → ZipFrom R n xs ys → slice_get xs k ≡ Some x → m ≡ n + k
      → (y : B) × (slice_get ys k ≡ Some y) × R m x y
  zip_at n [] ys k m x z e f = absurd cc
  zip_at n (a ∷ xs) [] k m x z e f = absurd z
  zip_at n (a ∷ xs) (b ∷ ys) zero m x z e f =
      (b, refl, subst (λ (c : A). R m c b) (let g : a ≡ x = cc in g) (subst (λ q. R q a b) (let g : n ≡ m = omega (arith, f) in g) z.0))
  zip_at n (a ∷ xs) (b ∷ ys) (suc k) m x z e f = zip_at (n + 1) xs ys k m x z.1 e (omega (arith, f))

  pub zip_long : (n : ℕ) (xs : List A) (ys : List B) → ZipFrom R n xs ys → length ys ≡ length xs
  zip_long n [] [] z = refl
  zip_long n [] (y ∷ ys) z = absurd z
  zip_long n (x ∷ xs) [] z = absurd z
  zip_long n (x ∷ xs) (y ∷ ys) z = ap suc (zip_long (n + 1) xs ys z.1)

-- Lists of bytes that all pass a test.
use Rattle.std.proofs.Common.{◌≡◌, ℕ, suc, ◌+◌, ◌-◌, ◌<◌, Bool, true, false, List, [], ◌∷◌, ◌++◌, length, take, get_or, sym, refl, ap, ◌∙◌, subst, ⊎_elim, arith, one-add, zero, length-append, cond}
use Rattle.std.specs.List.{list_all, prefix_len}
use Rattle.std.proofs.lemmas.Bool.{and_parts, cases_Bool}
use Rattle.std.proofs.lemmas.List.{get_or-append_right}
use Rattle.ckc_syntax.specs.Bytes.{AllBytes}

module _ (p : ℕ → Bool) where
  pub all_nil : AllBytes p []
  all_nil k lt = absurd (omega (arith, lt))

  pub all_cons : (b : ℕ) (w : List ℕ) → p b ≡ true → AllBytes p w → AllBytes p (b ∷ w)
  all_cons b w h all zero lt = h
  all_cons b w h all (suc k) lt = all k (omega arith)

  pub all_head : (b : ℕ) (w : List ℕ) → AllBytes p (b ∷ w) → p b ≡ true
  all_head b w all = all 0 (omega arith)

  pub all_tail : (b : ℕ) (w : List ℕ) → AllBytes p (b ∷ w) → AllBytes p w
  all_tail b w all k lt = all (suc k) (omega arith)

  pub all_append : (v w : List ℕ) → AllBytes p v → AllBytes p w → AllBytes p (v ++ w)
  all_append [] w a b = b
  all_append (x ∷ v) w a b = all_cons x (v ++ w) (all_head x v a) (all_append v w (all_tail x v a) b)

  -- a test that computes
  pub all_test : (w : List ℕ) → list_all p w ≡ true → AllBytes p w
  all_test [] h = all_nil
  all_test (b ∷ w) h = let k = and_parts (p b) (list_all p w) h in all_cons b w k.0 (all_test w k.1)

  -- the bytes of the prefix pass
  pub all_prefix : (w : List ℕ) → AllBytes p (take (prefix_len p w) w)
  all_prefix [] = all_nil
  all_prefix (b ∷ w) = ⊎_elim
      (λ (h : p b ≡ true). subst (λ k. AllBytes p (take k (b ∷ w))) (sym (ap (λ t. cond t (1 + prefix_len p w) 0) h ∙ one-add (prefix_len p w))) (all_cons b (take (prefix_len p w) w) h (all_prefix w)))
      (λ (h : p b ≡ false). subst (λ k. AllBytes p (take k (b ∷ w))) (sym (ap (λ t. cond t (1 + prefix_len p w) 0) h)) all_nil)
      (cases_Bool (p b))

  -- the prefix is as long as what passes in front of what does not
  pub prefix_front : (v w : List ℕ) → AllBytes p v → p (get_or w 0 0) ≡ false → p 0 ≡ false → prefix_len p (v ++ w) ≡ length v
  prefix_front [] [] a h z = refl
  prefix_front [] (b ∷ w) a h z = ap (λ t. cond t (1 + prefix_len p w) 0) h
  prefix_front (x ∷ v) w a h z = ap (λ t. cond t (1 + prefix_len p (v ++ w)) 0) (all_head x v a) ∙ (ap (λ k. 1 + k) (prefix_front v w (all_tail x v a) h z) ∙ one-add (length v))

-- the last byte is that of the last part
pub last_append : (v w : List ℕ) → 0 < length w → get_or (v ++ w) (length (v ++ w) - 1) 0 ≡ get_or w (length w - 1) 0
last_append v w some =
    let size = length-append v w in
    get_or-append_right v w (length v) (length (v ++ w) - 1) 0 refl (omega arith) ∙ ap (λ k. get_or w k 0) (let e : length (v ++ w) - 1 - length v ≡ length w - 1 = omega arith in e)

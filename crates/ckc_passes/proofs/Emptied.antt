-- Tables with an entry for each register, filled along the operations of a block and emptied again.
use Rattle.std.proofs.Common.{◌≡◌, ℕ, zero, suc, ◌+◌, List, [], ◌∷◌, length, get_or, replicate, set, Option, None, Some, refl, sym, ap, ◌∙◌}
use Rattle.std.proofs.lemmas.List.{length-set}
use Rattle.ckc_tac.specs.declared.code.TacOp.{TacOp}
use Rattle.ckc_flow.specs.Live.{target_of}
use Rattle.ckc_passes.specs.code.Forward.{entered, filled, emptied}

set_twice : {A : Type 0} (k : List A) (t : ℕ) (v w : A) → set (set k t v) t w ≡ set k t w
set_twice [] t v w = refl
set_twice (a ∷ k) zero v w = refl
set_twice (a ∷ k) (suc t) v w = ap (λ l. a ∷ l) (set_twice k t v w)

set_both : {A : Type 0} (k : List A) (t s : ℕ) (v : A) → set (set k t v) s v ≡ set (set k s v) t v
set_both [] t s v = refl
set_both (a ∷ k) zero zero v = refl
set_both (a ∷ k) zero (suc s) v = refl
set_both (a ∷ k) (suc t) zero v = refl
set_both (a ∷ k) (suc t) (suc s) v = ap (λ l. a ∷ l) (set_both k t s v)

set_empty : {A : Type 0} (n t : ℕ) (v : A) → set (replicate n v) t v ≡ replicate n v
set_empty zero t v = refl
set_empty (suc n) zero v = refl
set_empty (suc n) (suc t) v = ap (λ l. v ∷ l) (set_empty n t v)

entered_twice : {A : Type 0} (t : Option ℕ) (k : List A) (v w : A) → entered t w (entered t v k) ≡ entered t w k
entered_twice (Some t) k v w = set_twice k t v w
entered_twice None k v w = refl

entered_both : {A : Type 0} (t s : Option ℕ) (k : List A) (v : A) → entered s v (entered t v k) ≡ entered t v (entered s v k)
entered_both (Some t) (Some s) k v = set_both k t s v
entered_both (Some t) None k v = refl
entered_both None s k v = refl

entered_empty : {A : Type 0} (t : Option ℕ) (n : ℕ) (v : A) → entered t v (replicate n v) ≡ replicate n v
entered_empty (Some t) n v = set_empty n t v
entered_empty None n v = refl

-- an empty table has the empty entry everywhere
pub empty_at : {A : Type 0} (n r : ℕ) (empty : A) → get_or (replicate n empty) r empty ≡ empty
empty_at zero r empty = refl
empty_at (suc n) zero empty = refl
empty_at (suc n) (suc r) empty = empty_at n r empty

pub length-entered : {A : Type 0} (t : Option ℕ) (v : A) (k : List A) → length (entered t v k) ≡ length k
length-entered (Some t) v k = length-set k t v
length-entered None v k = refl

module _ {A : Type 0} (empty : A) where
  -- an entry may be emptied first or last
  emptied_first : (t : Option ℕ) (ops : List TacOp) (k : List A) → emptied empty ops (entered t empty k) ≡ entered t empty (emptied empty ops k)
  emptied_first t [] k = refl
  emptied_first t (op ∷ ops) k = ap (emptied empty ops) (entered_both t (target_of op) k empty) ∙ emptied_first t ops (entered (target_of op) empty k)

  emptied_filled : (entry : ℕ → List A → TacOp → A) (i : ℕ) (ops : List TacOp) (k : List A) → emptied empty ops (filled entry i ops k) ≡ emptied empty ops k
  emptied_filled entry i [] k = refl
  emptied_filled entry i (op ∷ ops) k =
      let t = target_of op in
      let v = entry i k op in
      emptied_first t ops (filled entry (i + 1) ops (entered t v k))
      ∙ ap (entered t empty) (emptied_filled entry (i + 1) ops (entered t v k))
      ∙ sym (emptied_first t ops (entered t v k))
      ∙ ap (emptied empty ops) (entered_twice t k v empty)

  emptied_empty : (n : ℕ) (ops : List TacOp) → emptied empty ops (replicate n empty) ≡ replicate n empty
  emptied_empty n [] = refl
  emptied_empty n (op ∷ ops) = ap (emptied empty ops) (entered_empty (target_of op) n empty) ∙ emptied_empty n ops

  -- after a block a table is as empty as before it
  pub empty_again : (entry : ℕ → List A → TacOp → A) (n : ℕ) (ops : List TacOp) → emptied empty ops (filled entry 0 ops (replicate n empty)) ≡ replicate n empty
  empty_again entry n ops = emptied_filled entry 0 ops (replicate n empty) ∙ emptied_empty n ops

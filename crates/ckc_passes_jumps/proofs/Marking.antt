-- The search for the blocks that are reached.
use Rattle.std.proofs.Common.{◌≡◌, ◌⊎◌, inl, inr, ⊎_elim, ℕ, zero, suc, ◌+◌, ◌≤◌, ◌<◌, Bool, true, false, List, [], ◌∷◌, ◌++◌, length, get_or, set, slice_get, replicate, sum_by, Some, refl, sym, ap, subst, ◌∙◌, arith}
use Rattle.std.proofs.lemmas.Bool.{cases_eq, both_ways}
use Rattle.std.proofs.lemmas.List.{length-set, length_push, length-replicate, get_or-set_same, get_or-set_other}
use Rattle.std.proofs.lemmas.List.Sums.{sum_by-cons, sum_by-set}
use Rattle.std.proofs.lemmas.Option.{slice_get_within}
use Rattle.ckc_tac.specs.declared.code.TacBlock.{TacBlock}
use Rattle.ckc_tac.specs.declared.code.TacEnd.{TacEnd}
use Rattle.ckc_tac.specs.declared.code.TacEnd.TheVariants.{Jump}
use Rattle.ckc_passes_jumps.specs.Jumps.{IsShort, LeadsShort, IsReached, at_entry, along}
use Rattle.ckc_passes_jumps.specs.code.Reached.{Has, unset, IsPut, IsPassed, Waits, IsSearch, IsPutFor, AreReached}
use Rattle.ckc_passes_jumps.proofs.Walking.{one_short, same_there}

-- ---- one more element

old_there : {A : Type 0} (xs ys : List A) (k : ℕ) (x : A) → slice_get xs k ≡ Some x → slice_get (xs ++ ys) k ≡ Some x
old_there [] ys k x e = absurd cc
old_there (y ∷ xs) ys zero x e = e
old_there (y ∷ xs) ys (suc k) x e = old_there xs ys k x e

new_there : {A : Type 0} (xs : List A) (x : A) → slice_get (xs ++ x ∷ []) (length xs) ≡ Some x
new_there [] x = refl
new_there (y ∷ xs) x = new_there xs x

old_or_new : {A : Type 0} (xs : List A) (x : A) (k : ℕ) (y : A) → slice_get (xs ++ x ∷ []) k ≡ Some y → slice_get xs k ≡ Some y ⊎ ((k ≡ length xs) × (x ≡ y))
old_or_new [] x zero y e = inr (refl, cc)
old_or_new [] x (suc k) y e = absurd cc
old_or_new (z ∷ xs) x zero y e = inl e
old_or_new (z ∷ xs) x (suc k) y e = ⊎_elim (λ h. inl h) (λ h. inr (ap suc h.0, h.1)) (old_or_new xs x k y e)

-- ---- marks

pub has_within : (marks : List Bool) (b : ℕ) → Has marks b → b < length marks
has_within [] b e = absurd cc
has_within (x ∷ marks) zero e = omega arith
has_within (x ∷ marks) (suc b) e = (let h = has_within marks b e in omega (arith, h))

set_from : (marks : List Bool) (a r : ℕ) → Has (set marks a true) r → (a ≡ r) ⊎ Has marks r
set_from marks a r e = ⊎_elim
    (λ (same : a ≡ r). inl same)
    (λ (apart : a ≡ r → ⊥). inr (sym (get_or-set_other marks a r true false (λ f. apart (sym f))) ∙ e)) (cases_eq a r)

set_keeps : (marks : List Bool) (a r : ℕ) → Has marks r → Has (set marks a true) r
set_keeps [] a r h = h
set_keeps (x ∷ marks) zero zero h = refl
set_keeps (x ∷ marks) zero (suc r) h = h
set_keeps (x ∷ marks) (suc a) zero h = h
set_keeps (x ∷ marks) (suc a) (suc r) h = set_keeps marks a r h

pub set_counts : (marks : List Bool) (b : ℕ) → b < length marks → get_or marks b false ≡ false → sum_by unset (set marks b true) + 1 ≡ sum_by unset marks
set_counts marks b h e = (let s = sum_by-set unset marks b true false h in let u = ap unset e in omega (arith, s, u))

module _ (blocks : List TacBlock) where
  passed_keeps : (b : ℕ) (marks marks' : List Bool) → length marks' ≡ length marks → ((r : ℕ) → Has marks r → Has marks' r) → IsPassed blocks b marks → IsPassed blocks b marks'
  passed_keeps b marks marks' long keeps a block c at leads h = keeps c (a block c at leads (let g = long in omega (arith, h, g)))

  waits_keeps : (order more : List ℕ) (i b : ℕ) → Waits order i b → Waits (order ++ more) i b
  waits_keeps order more i b (k, h, at) = (k, h, old_there order more k b at)

  -- ---- a block is put

  module _ (p i : ℕ) (marks : List Bool) (order : List ℕ) (short : i ≤ length order) (reached : IsReached blocks p) (s : IsSearch blocks i marks order) where
    search_more : p < length marks → get_or marks p false ≡ false → IsSearch blocks i (set marks p true) (order ++ p ∷ [])
    search_more within new = record {
      long = length-set marks p true ∙ s.long;
      counts = omega (arith, s.counts, set_counts marks p within new, length_push order p);
      first = λ h. set_keeps marks p 0 (s.first (let g = length-set marks p true in omega (arith, h, g)));
      sound = λ b h. ⊎_elim
          (λ (e : p ≡ b). subst (IsReached blocks) e reached)
          (λ (k : Has marks b). s.sound b k) (set_from marks p b h);
      marked = λ k b at. ⊎_elim
          (λ (h : slice_get order k ≡ Some b). set_keeps marks p b (s.marked k b h))
          (λ (h : (k ≡ length order) × (p ≡ b)). subst (λ q. Has (set marks p true) q) h.1 (get_or-set_same marks p true false within))
          (old_or_new order p k b at);
      all = λ b h. ⊎_elim
          (λ (e : p ≡ b). inr (length order, short, subst (λ q. slice_get (order ++ p ∷ []) (length order) ≡ Some q) e (new_there order p)))
          (λ (k : Has marks b). ⊎_elim
          (λ a. inl (passed_keeps b marks (set marks p true) (length-set marks p true) (set_keeps marks p) a))
          (λ w. inr (waits_keeps order (p ∷ []) i b w)) (s.all b k)) (set_from marks p b h);
    }

    search_put : (marks' : List Bool) (order' : List ℕ) → IsPut p marks order marks' order' → (i ≤ length order') × IsSearch blocks i marks' order'
    search_put marks' order' (inl (is, e, f)) = (
      (let g = ap length f in omega (arith, short, g)),
      subst (λ (m : List Bool). IsSearch blocks i m order') (sym e) (subst (λ (o : List ℕ). IsSearch blocks i marks o) (sym f) s),
    )
    search_put marks' order' (inr (within, is, e, f)) = (
      (let g = ap length f in omega (arith, short, g, length_push order p)),
      subst (λ (m : List Bool). IsSearch blocks i m order') (sym e)
          (subst (λ (o : List ℕ). IsSearch blocks i (set marks p true) o) (sym f) (search_more within is)),
    )

  module _ (marks : List Bool) (order : List ℕ) (marks' : List Bool) (order' : List ℕ) where
    put_keeps : (b : ℕ) → IsPut b marks order marks' order' → (r : ℕ) → Has marks r → Has marks' r
    put_keeps b (inl (is, e, f)) r h = subst (λ (m : List Bool). Has m r) (sym e) h
    put_keeps b (inr (within, is, e, f)) r h = subst (λ (m : List Bool). Has m r) (sym e) (set_keeps marks b r h)

    put_has : (b : ℕ) → IsPut b marks order marks' order' → b < length marks → Has marks' b
    put_has b (inl (is, e, f)) h = subst (λ (m : List Bool). Has m b) (sym e) (is h)
    put_has b (inr (within, is, e, f)) h = subst (λ (m : List Bool). Has m b) (sym e) (get_or-set_same marks b true false within)

    put_long : (b : ℕ) → IsPut b marks order marks' order' → length marks' ≡ length marks
    put_long b (inl (is, e, f)) = ap length e
    put_long b (inr (within, is, e, f)) = ap length e ∙ length-set marks b true

    put_stays : (b : ℕ) → IsPut b marks order marks' order' → (k r : ℕ) → slice_get order k ≡ Some r → slice_get order' k ≡ Some r
    put_stays b (inl (is, e, f)) k r h = subst (λ (o : List ℕ). slice_get o k ≡ Some r) (sym f) h
    put_stays b (inr (within, is, e, f)) k r h = subst (λ (o : List ℕ). slice_get o k ≡ Some r) (sym f) (old_there order (b ∷ []) k r h)

    pub put_for : (to b : ℕ) → IsShort blocks to b → IsPut b marks order marks' order' → IsPutFor blocks (Jump to) marks order marks' order'
    put_for to b short put = record {
      long = put_long b put;
      stays = put_stays b put;
      keeps = put_keeps b put;
      has = λ c leads h. subst (Has marks') (one_short blocks to b c short leads)
          (put_has b put (let e = one_short blocks to b c short leads in omega (arith, h, e)));
      goes = λ i waits reached s. search_put b i marks order waits (reached b short) s marks' order' put;
    }

  pub put_none : (end : TacEnd) (marks : List Bool) (order : List ℕ) → ((c : ℕ) → LeadsShort blocks end c → ⊥) → IsPutFor blocks end marks order marks order
  put_none end marks order none = record {
    long = refl;
    stays = λ k b h. h;
    keeps = λ b h. h;
    has = λ c leads h. absurd (none c leads);
    goes = λ i waits reached s. (waits, s);
  }

  pub put_both : (end : TacEnd) (one two : ℕ) (marks : List Bool) (order : List ℕ) (middle : List Bool) (between : List ℕ) (last : List Bool) (most : List ℕ)
      → ((c : ℕ) → LeadsShort blocks end c → IsShort blocks one c ⊎ IsShort blocks two c)
      → ((c : ℕ) → IsShort blocks one c ⊎ IsShort blocks two c → LeadsShort blocks end c)
      → IsPutFor blocks (Jump one) marks order middle between → IsPutFor blocks (Jump two) middle between last most → IsPutFor blocks end marks order last most
  put_both end one two marks order middle between last most parts whole a b = record {
    long = b.long ∙ a.long;
    stays = λ k r h. b.stays k r (a.stays k r h);
    keeps = λ r h. b.keeps r (a.keeps r h);
    has = λ c leads h. ⊎_elim (λ l. b.keeps c (a.has c l h)) (λ l. b.has c l (let g = a.long in omega (arith, h, g))) (parts c leads);
    goes = λ i waits reached s.
        let first = a.goes i waits (λ c l. reached c (whole c (inl l))) s in
        b.goes i first.0 (λ c l. reached c (whole c (inr l))) first.1;
  }

  -- ---- the beginning

  pub none_has : (n b : ℕ) → get_or (replicate n false) b false ≡ false
  none_has zero b = refl
  none_has (suc n) zero = refl
  none_has (suc n) (suc b) = none_has n b

  pub none_counts : (n : ℕ) → sum_by unset (replicate n false) ≡ n
  none_counts zero = refl
  none_counts (suc n) =
      let e : sum_by unset (replicate (suc n) false) ≡ 1 + sum_by unset (replicate n false) = sum_by-cons unset false (replicate n false) in
      omega (arith, e, none_counts n)

  not_none : (n b : ℕ) → Has (replicate n false) b → ⊥
  not_none n b h = both_ways (get_or (replicate n false) b false) (none_has n b) h

  none_there : {A : Type 0} (k : ℕ) (x : A) → slice_get [] k ≡ Some x → ⊥
  none_there k x e = absurd cc

  one_there : (b k v : ℕ) → slice_get ([] ++ b ∷ []) k ≡ Some v → (k ≡ 0) × (b ≡ v)
  one_there b zero v e = (refl, cc)
  one_there b (suc k) v e = absurd cc

  pub search_first : (old marks : List Bool) (order order' : List ℕ) → old ≡ replicate (length blocks) false → order ≡ [] → IsPut 0 old order marks order' → IsSearch blocks 0 marks order'
  search_first old marks order order' e o (inl (is, f, g)) =
      let n = length blocks in
      let all : marks ≡ replicate n false = f ∙ e in
      let empty : order' ≡ [] = g ∙ o in
      subst (λ (m : List Bool). IsSearch blocks 0 m order') (sym all) (subst (λ (l : List ℕ). IsSearch blocks 0 (replicate n false) l) (sym empty) (record {
        long = length-replicate n false;
        counts = omega (arith, none_counts n);
        first = λ h. absurd (not_none n 0 (subst (λ (m : List Bool). Has m 0) e (is (let a = ap length e in omega (arith, h, a)))));
        sound = λ b h. absurd (not_none n b h);
        marked = λ k b at. absurd (none_there k b at);
        all = λ b h. absurd (not_none n b h);
      }))
  search_first old marks order order' e o (inr (within, is, f, g)) =
      let n = length blocks in
      let none = replicate n false in
      let all : marks ≡ set none 0 true = f ∙ ap (λ (m : List Bool). set m 0 true) e in
      let here : 0 < length none = (let a = ap length e in omega (arith, within, a)) in
      let has : Has (set none 0 true) 0 = get_or-set_same none 0 true false here in
      let only : order' ≡ 0 ∷ [] = g ∙ ap (λ (l : List ℕ). l ++ 0 ∷ []) o in
      subst (λ (m : List Bool). IsSearch blocks 0 m order') (sym all) (subst (λ (l : List ℕ). IsSearch blocks 0 (set none 0 true) l) (sym only) (record {
        long = length-set none 0 true ∙ length-replicate n false;
        counts = omega (arith, set_counts none 0 here (none_has n 0), none_counts n);
        first = λ h. has;
        sound = λ b h. ⊎_elim (λ (s : 0 ≡ b). subst (IsReached blocks) s at_entry) (λ (k : Has none b). absurd (not_none n b k)) (set_from none 0 b h);
        marked = λ k b at. subst (Has (set none 0 true)) (one_there 0 k b at).1 has;
        all = λ b h. ⊎_elim (λ (s : 0 ≡ b). inr (0, omega arith, ap Some s)) (λ (k : Has none b). absurd (not_none n b k)) (set_from none 0 b h);
      }))

  -- ---- a block of the order

  waits_next : (order : List ℕ) (i b v : ℕ) → slice_get order i ≡ Some v → Waits order i b → (v ≡ b) ⊎ Waits order (i + 1) b
  waits_next order i b v at (k, h, there) = ⊎_elim
      (λ (same : k ≡ i). inl (same_there order i v b at (subst (λ q. slice_get order q ≡ Some b) same there)))
      (λ (apart : k ≡ i → ⊥). inr (k, omega arith, there)) (cases_eq k i)

  pub in_order : (i v : ℕ) (marks : List Bool) (order : List ℕ) → IsSearch blocks i marks order → slice_get order i ≡ Some v → v < length blocks
  in_order i v marks order s at = (let h = has_within marks v (s.marked i v at) in omega (arith, h, s.long))

  pub search_next : (i v : ℕ) (marks : List Bool) (order : List ℕ) (marks' : List Bool) (order' : List ℕ) (block : TacBlock) → IsSearch blocks i marks order
      → i < length order → slice_get order i ≡ Some v → slice_get blocks v ≡ Some block → IsPutFor blocks block.end marks order marks' order'
      → (i + 1 ≤ length order') × IsSearch blocks (i + 1) marks' order'
  search_next i v marks order marks' order' block s h at there put =
      let reached = s.sound v (s.marked i v at) in
      let t = (put.goes i (omega (arith, h)) (λ c l. along v block there l reached) s).1 in
      let still = put.stays i v at in (
        (let w = slice_get_within order' i v still in omega (arith, w)),
        record {
          long = t.long;
          counts = t.counts;
          first = t.first;
          sound = t.sound;
          marked = t.marked;
          all = λ b k. ⊎_elim (λ done. inl done)
              (λ w. ⊎_elim
              (λ (e : v ≡ b). inl (λ other c again leads in_marks.
              put.has c (subst (λ (o : TacBlock). LeadsShort blocks o.end c) (same_there blocks b other block again (subst (λ q. slice_get blocks q ≡ Some block) e there)) leads)
              (let g = put.long in omega (arith, in_marks, g))))
              (λ x. inr x) (waits_next order' i b v still w)) (t.all b k);
        },
      )

  -- ---- the end

  complete_by : (marks : List Bool) → length marks ≡ length blocks → (0 < length marks → Has marks 0) → ((b : ℕ) → Has marks b → IsPassed blocks b marks)
      → (b : ℕ) → b < length blocks → IsReached blocks b → Has marks b
  complete_by marks long first passed b h at_entry = first (omega (arith, h, long))
  complete_by marks long first passed b h (along from block at leads is) =
      passed from (complete_by marks long first passed from (slice_get_within blocks from block at) is) block b at leads (omega (arith, h, long))

  pub search_ended : (i : ℕ) (marks : List Bool) (order : List ℕ) → IsSearch blocks i marks order → length order ≤ i → AreReached blocks marks
  search_ended i marks order s ended =
      let passed : (b : ℕ) → Has marks b → IsPassed blocks b marks =
      λ b h. ⊎_elim (λ a. a) (λ (w : Waits order i b). absurd (let k = slice_get_within order w.0 b w.2 in let l = w.1 in omega (arith, k, l, ended))) (s.all b h) in
      record {
        long = s.long;
        sound = s.sound;
        complete = complete_by marks s.long s.first passed;
      }

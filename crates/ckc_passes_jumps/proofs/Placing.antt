-- New numbers of blocks, and what is left of blocks that are taken one after another.
use Rattle.std.proofs.Common.{◌≡◌, ◌⊎◌, inl, inr, ⊎_elim, ℕ, zero, suc, ◌+◌, ◌≤◌, ◌<◌, Bool, true, false, List, [], ◌∷◌, ◌++◌, length, get_or, drop, refl, sym, ap, subst, ◌∙◌, arith}
use Rattle.std.proofs.lemmas.Bool.{cases_eq, both_ways}
use Rattle.std.proofs.lemmas.List.{length_push, get_or_past, drop_more, drop_all, append_assoc, append-nil}
use Rattle.ckc_tac.specs.declared.code.TacBlock.{TacBlock}
use Rattle.ckc_passes_jumps.specs.Jumps.{IsReached, IsPlace, counted, passed, BlockAfter, Left, none_left, stays, goes}
use Rattle.ckc_passes_jumps.specs.code.Reached.{AreReached, ArePlaced}
use Rattle.ckc_passes_jumps.specs.code.Left.{IsTaken}
use Rattle.ckc_passes_jumps.proofs.Walking.{get_or_old, get_or_new}

next_there : {A : Type 0} (xs : List A) (i : ℕ) → i < length xs → (x : A) × (drop i xs ≡ x ∷ drop (i + 1) xs)
next_there [] i h = absurd (omega (arith, h))
next_there (x ∷ xs) zero h = (x, refl)
next_there (x ∷ xs) (suc i) h =
    let rest = next_there xs i (omega (arith, h)) in
    let same : suc (i + 1) ≡ suc i + 1 = omega arith in
    (rest.0, subst (λ n. drop i xs ≡ rest.0 ∷ drop n (x ∷ xs)) same rest.1)

side : (n p : ℕ) → (p ≡ n → ⊥) → (p < n) ⊎ (n + 1 ≤ p)
side zero zero apart = absurd (apart refl)
side zero (suc p) apart = inr (omega arith)
side (suc n) zero apart = inl (omega arith)
side (suc n) (suc p) apart = ⊎_elim (λ (h : p < n). inl (omega (arith, h))) (λ (h : n + 1 ≤ p). inr (omega (arith, h))) (side n p (λ e. apart (ap suc e)))

-- a number is at most that of its place
pub small_first : (places : List ℕ) (p : ℕ) → places ≡ [] → get_or places p 0 ≤ p
small_first places p e = let z : get_or places p 0 ≡ 0 = ap (λ (l : List ℕ). get_or l p 0) e in omega (arith, z)

pub small_more : (places places' : List ℕ) (count p : ℕ) → places' ≡ places ++ count ∷ [] → count ≤ length places → ((q : ℕ) → get_or places q 0 ≤ q) → get_or places' p 0 ≤ p
small_more places places' count p e h small =
    subst (λ (l : List ℕ). get_or l p 0 ≤ p) (sym e) (⊎_elim
    (λ (same : p ≡ length places). let last : get_or (places ++ count ∷ []) p 0 ≡ count = ap (λ q. get_or (places ++ count ∷ []) q 0) same ∙ get_or_new places count 0 in omega (arith, last, same, h))
    (λ (apart : p ≡ length places → ⊥). ⊎_elim
    (λ (before : p < length places). let old = get_or_old places count p 0 before in omega (arith, old, small p))
    (λ (past : length places + 1 ≤ p). let none = get_or_past (places ++ count ∷ []) p 0 (let l = length_push places count in omega (arith, past, l)) in omega (arith, none))
    (side (length places) p apart)) (cases_eq p (length places)))

module _ (blocks : List TacBlock) where
  -- a block that is marked is reached, and others are not
  pub not_reached : (marks : List Bool) (b : ℕ) → AreReached blocks marks → b < length blocks → get_or marks b false ≡ false → IsReached blocks b → ⊥
  not_reached marks b a h e is = both_ways (get_or marks b false) e (a.complete b h is)

  -- ---- new numbers

  pub placed_first : (places : List ℕ) → places ≡ [] → ArePlaced blocks 0 places
  placed_first places e = record { long = ap length e; right = λ b h. absurd (omega (arith, h)) }

  pub placed_more : (b count : ℕ) (places places' : List ℕ) → places' ≡ places ++ count ∷ [] → ArePlaced blocks b places → IsPlace blocks b count → ArePlaced blocks (b + 1) places'
  placed_more b count places places' e a here = subst (ArePlaced blocks (b + 1)) (sym e) (record {
    long = omega (arith, length_push places count, a.long);
    right = λ p h. ⊎_elim
        (λ (same : p ≡ b).
        let last : get_or (places ++ count ∷ []) p 0 ≡ count = ap (λ q. get_or (places ++ count ∷ []) q 0) (same ∙ sym a.long) ∙ get_or_new places count 0 in
        subst (IsPlace blocks p) (sym last) (subst (λ q. IsPlace blocks q count) (sym same) here))
        (λ (apart : p ≡ b → ⊥).
        let before : p < b = omega arith in
        subst (IsPlace blocks p) (sym (get_or_old places count p 0 (let l = a.long in omega (arith, before, l)))) (a.right p before))
        (cases_eq p b);
  })

  pub place_marked : (marks : List Bool) (b count : ℕ) → AreReached blocks marks → get_or marks b false ≡ true → IsPlace blocks b count → IsPlace blocks (b + 1) (count + 1)
  place_marked marks b count a e p = counted (a.sound b e) p

  pub place_unmarked : (marks : List Bool) (b count : ℕ) → AreReached blocks marks → b < length marks → get_or marks b false ≡ false → IsPlace blocks b count → IsPlace blocks (b + 1) count
  place_unmarked marks b count a h e p = passed (not_reached marks b a (let l = a.long in omega (arith, h, l)) e) p

  -- ---- blocks that are taken

  pub taken_first : (left : List TacBlock) → left ≡ [] → IsTaken blocks 0 left
  taken_first left e rest m = subst (λ (l : List TacBlock). Left blocks 0 blocks (l ++ rest)) (sym e) m

  next_of : (i : ℕ) (block : TacBlock) → i < length blocks → block ≡ get_or blocks i block → drop i blocks ≡ block ∷ drop (i + 1) blocks
  next_of i block h at = drop_more blocks i block h ∙ ap (λ (o : TacBlock). o ∷ drop (i + 1) blocks) (sym at)

  pub taken_stays : (i : ℕ) (block low : TacBlock) (left left' : List TacBlock) → i < length blocks → block ≡ get_or blocks i block → left' ≡ left ++ low ∷ []
      → IsReached blocks i → BlockAfter blocks block low → IsTaken blocks i left → IsTaken blocks (i + 1) left'
  taken_stays i block low left left' h at e is made taken rest m =
      subst (λ (l : List TacBlock). Left blocks 0 blocks (l ++ rest)) (sym e)
      (subst (λ (l : List TacBlock). Left blocks 0 blocks l) (sym (append_assoc left (low ∷ []) rest))
      (taken (low ∷ rest) (subst (λ (l : List TacBlock). Left blocks i l (low ∷ rest)) (sym (next_of i block h at)) (stays is made m))))

  pub taken_goes : (i : ℕ) (left left' : List TacBlock) → i < length blocks → left' ≡ left
      → (IsReached blocks i → ⊥) → IsTaken blocks i left → IsTaken blocks (i + 1) left'
  taken_goes i left left' h e is taken rest m =
      let next = next_there blocks i h in
      subst (λ (l : List TacBlock). Left blocks 0 blocks (l ++ rest)) (sym e)
      (taken rest (subst (λ (l : List TacBlock). Left blocks i l rest) (sym next.1) (goes is m)))

  pub taken_all : (i : ℕ) (left : List TacBlock) → length blocks ≤ i → IsTaken blocks i left → Left blocks 0 blocks left
  taken_all i left h taken =
      subst (λ (l : List TacBlock). Left blocks 0 blocks l) (append-nil left)
      (taken [] (subst (λ (l : List TacBlock). Left blocks i l []) (sym (drop_all i blocks h)) none_left))

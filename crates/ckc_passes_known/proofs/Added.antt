-- Edges are added block by block.
use Rattle.std.proofs.Common.{◌≡◌, ◌⊎◌, inl, inr, ⊎_elim, ℕ, zero, suc, ◌+◌, ◌≤◌, ◌<◌, List, [], ◌∷◌, ◌++◌, length, get_or, set, slice_get, replicate, Some, refl, sym, ap, subst, ◌∙◌, arith}
use Rattle.std.proofs.lemmas.Bool.{cases_eq}
use Rattle.std.proofs.lemmas.List.{length-set, length_push, length-replicate, get_or-set_same, get_or-set_other}
use Rattle.ckc_tac.specs.declared.code.TacBlock.{TacBlock}
use Rattle.ckc_tac.specs.declared.code.TacEnd.{TacEnd}
use Rattle.ckc_tac.specs.declared.code.TacEnd.TheVariants.{Jump}
use Rattle.ckc_passes_known.specs.declared.edges.Edge.{Edge}
use Rattle.ckc_passes_known.specs.code.Edges.{LeadsTo, ComesFrom, here, later, AreLinked, IsAdded, AreFrom}

-- ---- one more element

pub slice_get_keeps : {A : Type 0} (xs ys : List A) (k : ℕ) (x : A) → slice_get xs k ≡ Some x → slice_get (xs ++ ys) k ≡ Some x
slice_get_keeps [] ys k x e = absurd cc
slice_get_keeps (y ∷ xs) ys zero x e = e
slice_get_keeps (y ∷ xs) ys (suc k) x e = slice_get_keeps xs ys k x e

pub slice_get_last : {A : Type 0} (xs : List A) (x : A) → slice_get (xs ++ x ∷ []) (length xs) ≡ Some x
slice_get_last [] x = refl
slice_get_last (y ∷ xs) x = slice_get_last xs x

pub slice_get_push : {A : Type 0} (xs : List A) (x : A) (k : ℕ) (y : A) → slice_get (xs ++ x ∷ []) k ≡ Some y → slice_get xs k ≡ Some y ⊎ ((k ≡ length xs) × (x ≡ y))
slice_get_push [] x zero y e = inr (refl, cc)
slice_get_push [] x (suc k) y e = absurd cc
slice_get_push (z ∷ xs) x zero y e = inl e
slice_get_push (z ∷ xs) x (suc k) y e = ⊎_elim (λ h. inl h) (λ h. inr (ap suc h.0, h.1)) (slice_get_push xs x k y e)

pub get_or_within : {A : Type 0} (xs : List A) (k : ℕ) (d e : A) → k < length xs → get_or xs k d ≡ get_or xs k e
get_or_within [] k d e h = absurd (omega (arith, h))
get_or_within (x ∷ xs) zero d e h = refl
get_or_within (x ∷ xs) (suc k) d e h = get_or_within xs k d e (omega (arith, h))

-- ---- one more edge

comes_keeps : (all more : List Edge) (p n : ℕ) → ComesFrom all p n → ComesFrom (all ++ more) p n
comes_keeps all more p zero x = elim x [ ]
comes_keeps all more p (suc k) (here edge at e) = here edge (slice_get_keeps all more k edge at) e
comes_keeps all more p (suc k) (later edge at c) = later edge (slice_get_keeps all more k edge at) (comes_keeps all more p edge.next c)

module _ (from to : ℕ) (first : List ℕ) (all : List Edge) (within : to < length first) (edge : Edge) (begins : edge.from ≡ from) (next : edge.next ≡ get_or first to 0) where
  abbrev more : List Edge
  more = all ++ edge ∷ []

  abbrev heads : List ℕ
  heads = set first to (suc (length all))

  head_of : (b : ℕ) → ((b ≡ to) × (get_or heads b 0 ≡ suc (length all))) ⊎ (get_or heads b 0 ≡ get_or first b 0)
  head_of b = ⊎_elim
      (λ (same : b ≡ to). inl (same, ap (λ q. get_or heads q 0) same ∙ get_or-set_same first to (suc (length all)) 0 within))
      (λ (apart : b ≡ to → ⊥). inr (get_or-set_other first to b (suc (length all)) 0 apart)) (cases_eq b to)

  linked_next : AreLinked first all → AreLinked heads more
  linked_next l = record {
    heads = λ b. ⊎_elim
        (λ (h : (b ≡ to) × (get_or heads b 0 ≡ suc (length all))). let e = h.1 in omega (arith, e, length_push all edge))
        (λ (h : get_or heads b 0 ≡ get_or first b 0). omega (arith, h, l.heads b, length_push all edge)) (head_of b);
    nexts = λ k other at. ⊎_elim
        (λ (h : slice_get all k ≡ Some other). l.nexts k other h)
        (λ (h : (k ≡ length all) × (edge ≡ other)).
        let e : other.next ≡ get_or first to 0 = subst (λ (o : Edge). o.next ≡ get_or first to 0) h.1 next in
        let f = h.0 in omega (arith, e, f, l.heads to)) (slice_get_push all edge k other at);
  }

  old_next : (b p : ℕ) → ComesFrom all p (get_or first b 0) → ComesFrom more p (get_or heads b 0)
  old_next b p c = ⊎_elim
      (λ (h : (b ≡ to) × (get_or heads b 0 ≡ suc (length all))).
      let same : get_or first b 0 ≡ edge.next = ap (λ q. get_or first q 0) h.0 ∙ sym next in
      subst (ComesFrom more p) (sym h.1)
      (later edge (slice_get_last all edge) (subst (ComesFrom more p) same (comes_keeps all (edge ∷ []) p (get_or first b 0) c))))
      (λ (h : get_or heads b 0 ≡ get_or first b 0). subst (ComesFrom more p) (sym h) (comes_keeps all (edge ∷ []) p (get_or first b 0) c)) (head_of b)

  new_next : (b : ℕ) → to ≡ b → b < length first → ComesFrom more from (get_or heads b 0)
  new_next b e h =
      let same : get_or heads b 0 ≡ suc (length all) = ap (λ q. get_or heads q 0) (sym e) ∙ get_or-set_same first to (suc (length all)) 0 within in
      subst (ComesFrom more from) (sym same) (here edge (slice_get_last all edge) begins)

  pub added_one : (first' : List ℕ) (all' : List Edge) → first' ≡ heads → all' ≡ more → IsAdded from (Jump to) first all first' all'
  added_one first' all' e f =
      subst (λ (l : List ℕ). IsAdded from (Jump to) first all l all') (sym e)
      (subst (λ (l : List Edge). IsAdded from (Jump to) first all heads l) (sym f)
      (record { long = length-set first to (suc (length all)); linked = linked_next; old = old_next; new = new_next }))

-- ---- ends

pub added_none : (from to : ℕ) (first : List ℕ) (all : List Edge) → length first ≤ to → IsAdded from (Jump to) first all first all
added_none from to first all h = record { long = refl; linked = λ l. l; old = λ b p c. c; new = λ b e i. absurd (omega (arith, h, e, i)) }

pub added_return : (from : ℕ) (end : TacEnd) (first : List ℕ) (all : List Edge) → ((b : ℕ) → LeadsTo end b → ⊥) → IsAdded from end first all first all
added_return from end first all h = record { long = refl; linked = λ l. l; old = λ b p c. c; new = λ b e i. absurd (h b e) }

module _ (from one two : ℕ) (first : List ℕ) (all : List Edge) (middle : List ℕ) (between : List Edge) (last : List ℕ) (most : List Edge)
    (a : IsAdded from (Jump one) first all middle between) (b : IsAdded from (Jump two) middle between last most) where
  pub added_both : (end : TacEnd) → ((v : ℕ) → LeadsTo end v → (one ≡ v) ⊎ (two ≡ v)) → IsAdded from end first all last most
  added_both end h = record {
    long = b.long ∙ a.long;
    linked = λ l. b.linked (a.linked l);
    old = λ v p c. b.old v p (a.old v p c);
    new = λ v leads within. ⊎_elim
        (λ (e : one ≡ v). b.old v from (a.new v e within))
        (λ (e : two ≡ v). b.new v e (omega (arith, within, a.long))) (h v leads);
  }

-- ---- blocks

none_from : (n b : ℕ) → (let z : ℕ = get_or (replicate n 0) b 0 in z ≡ 0)
none_from zero b = refl
none_from (suc n) zero = refl
none_from (suc n) (suc b) = none_from n b

pub from_none : (blocks : List TacBlock) (first : List ℕ) (all : List Edge) → first ≡ replicate (length blocks) 0 → all ≡ [] → AreFrom blocks 0 first all
from_none blocks first all e f = record {
  long = ap length e ∙ length-replicate (length blocks) 0;
  linked = record {
    heads = λ b. (let z : get_or first b 0 ≡ 0 = ap (λ l. get_or l b 0) e ∙ none_from (length blocks) b in omega (arith, z));
    nexts = λ k edge at. absurd (let g : slice_get [] k ≡ Some edge = subst (λ (l : List Edge). slice_get l k ≡ Some edge) f at in cc);
  };
  there = λ p block b h at leads within. absurd (omega (arith, h));
}

pub from_more : (blocks : List TacBlock) (count : ℕ) (block : TacBlock) (first : List ℕ) (all : List Edge) (first' : List ℕ) (all' : List Edge)
    → slice_get blocks count ≡ Some block → IsAdded count block.end first all first' all' → AreFrom blocks count first all → AreFrom blocks (count + 1) first' all'
from_more blocks count block first all first' all' at added given = record {
  long = added.long ∙ given.long;
  linked = added.linked given.linked;
  there = λ p other b h there leads within. ⊎_elim
      (λ (same : p ≡ count).
      let f : other ≡ block = (let g : slice_get blocks count ≡ Some other = subst (λ q. slice_get blocks q ≡ Some other) same there in cc) in
      subst (λ q. ComesFrom all' q (get_or first' b 0)) (sym same)
      (added.new b (subst (λ (o : TacBlock). LeadsTo o.end b) f leads) (omega (arith, within, given.long))))
      (λ (apart : p ≡ count → ⊥). added.old b p (given.there p other b (omega arith) there leads within)) (cases_eq p count);
}

-- Of blocks that lie apart, only one can have an address: the last one that begins at it or before it.
use Rattle.std.proofs.Common.{◌≡◌, inl, inr, ℕ, zero, suc, ◌+◌, ◌-◌, ◌<◌, ◌≤◌, Bool, true, false, ◌||◌, nat_le, if◌then◌else◌, List, [], ◌∷◌, map, slice_get, set, Some, None, refl, sym, ◌∙◌, ap, subst, arith}
use Rattle.std.proofs.lemmas.Bool.{cases_Bool, and_parts, leb-true, le-leb}
use Rattle.std.proofs.lemmas.Bool.Decides.{nat_tests}
use Rattle.std.specs.List.{list_any}
use Rattle.ckc_base.specs.declared.arithmetic.Width.{Width}
use Rattle.ckc_base.specs.declared.arithmetic.Width.TheVariants.{Byte, Word}
use Rattle.ckc_source.specs.Blocks.{Block, end_of, has, number_at, found}
use Rattle.ckc_source.specs.LaidOut.{AreApart}
use Rattle.ckc_interp_blocks.specs.Held.{are_apart}
use Rattle.ckc_interp_blocks.specs.code.Held.{BeginsBehind, IsLast}

pub head_behind : (x low : ℕ) (bs : List Block) (place : ℕ) → AreApart low bs place → x < low → BeginsBehind x bs
head_behind x low [] place a h = tt
head_behind x low (b ∷ bs) place a h = omega arith

pub base_from : (low : ℕ) (bs : List Block) (place i : ℕ) (b : Block) → AreApart low bs place → slice_get bs i ≡ Some b → low ≤ b.base
base_from low [] place i b a e = absurd cc
base_from low (c ∷ bs) place zero b a e = let same : c ≡ b = cc in subst (λ (d : Block). low ≤ d.base) same a.0
base_from low (c ∷ bs) place (suc i) b a e = let there = base_from (end_of c + 1) bs place i b a.1 e in let here = a.0 in omega arith

pub end_below : (low : ℕ) (bs : List Block) (place i : ℕ) (b : Block) → AreApart low bs place → slice_get bs i ≡ Some b → end_of b + 1 ≤ place
end_below low [] place i b a e = absurd cc
end_below low (c ∷ bs) place zero b a e = let same : c ≡ b = cc in subst (λ (d : Block). end_of d + 1 ≤ place) same (least (end_of c + 1) bs place a.1)
  where
    least : (low : ℕ) (bs : List Block) (place : ℕ) → AreApart low bs place → low ≤ place
    least low [] place a = a
    least low (b ∷ bs) place a = let there = least (end_of b + 1) bs place a.1 in let here = a.0 in omega arith
end_below low (c ∷ bs) place (suc i) b a e = end_below (end_of c + 1) bs place i b a.1 e

pub last_begins : (x : ℕ) (bs : List Block) (i : ℕ) (b : Block) → IsLast x bs i → slice_get bs i ≡ Some b → b.base ≤ x
last_begins x [] i b l e = absurd l
last_begins x (c ∷ bs) zero b l e = let same : c ≡ b = cc in subst (λ (d : Block). d.base ≤ x) same l.0
last_begins x (c ∷ bs) (suc i) b l e = last_begins x bs i b l e

-- the last block, from what is known at its index and at the next one
pub last_from : (x : ℕ) (bs : List Block) (i : ℕ) (b : Block) → slice_get bs i ≡ Some b → b.base ≤ x
    → ((c : Block) → slice_get bs (suc i) ≡ Some c → x < c.base) → IsLast x bs i
last_from x [] i b e h k = absurd cc
last_from x (c ∷ []) zero b e h k = (let same : c ≡ b = cc in subst (λ (d : Block). d.base ≤ x) (sym same) h, tt)
last_from x (c ∷ d ∷ bs) zero b e h k = (let same : c ≡ b = cc in subst (λ (d : Block). d.base ≤ x) (sym same) h, k d refl)
last_from x (c ∷ bs) (suc i) b e h k = last_from x bs i b e h k

pub behind_from : (x : ℕ) (bs : List Block) → ((c : Block) → slice_get bs 0 ≡ Some c → x < c.base) → BeginsBehind x bs
behind_from x [] k = tt
behind_from x (b ∷ bs) k = k b refl

-- a test that only a block passes in which the address x lies, its end included
module _ (test : Block → Bool) (x : ℕ) (near : (b : Block) → test b ≡ true → (b.base ≤ x) × (x ≤ end_of b)) where
  fails_behind : (b : Block) → x < b.base → test b ≡ false
  fails_behind b h = elim (cases_Bool (test b)) [ inl t ↦ let p = near b t in absurd (omega arith) | inr t ↦ t ]

  fails_before : (b : Block) → end_of b < x → test b ≡ false
  fails_before b h = elim (cases_Bool (test b)) [ inl t ↦ let p = near b t in absurd (omega arith) | inr t ↦ t ]

  pub none_behind : (low : ℕ) (bs : List Block) (place : ℕ) → AreApart low bs place → BeginsBehind x bs → list_any test bs ≡ false
  none_behind low [] place a h = refl
  none_behind low (b ∷ bs) place a h =
      let here = fails_behind b h in
      let there = none_behind (end_of b + 1) bs place a.1 (head_behind x (end_of b + 1) bs place a.1 (omega arith)) in
      rw (here, there) refl

  -- no block has an address from the place of the next one on
  pub none_past : (low : ℕ) (bs : List Block) (place : ℕ) → AreApart low bs place → place ≤ x → list_any test bs ≡ false
  none_past low [] place a h = refl
  none_past low (b ∷ bs) place a h =
      let end : end_of b + 1 ≤ place = end_below low (b ∷ bs) place 0 b a refl in
      let here = fails_before b (omega arith) in
      let there = none_past (end_of b + 1) bs place a.1 h in
      rw (here, there) refl

  -- the last block that begins at x or before decides
  pub last_decides : (low : ℕ) (bs : List Block) (place i : ℕ) (b : Block) → AreApart low bs place → IsLast x bs i → slice_get bs i ≡ Some b
      → list_any test bs ≡ test b
  last_decides low [] place i b a l e = absurd l
  last_decides low (c ∷ bs) place zero b a l e =
      let there = none_behind (end_of c + 1) bs place a.1 l.1 in
      let same : c ≡ b = cc in
      rw (there, same) (elim (cases_Bool (test b)) [ inl t ↦ rw t refl | inr t ↦ rw t refl ])
  last_decides low (c ∷ bs) place (suc i) b a l e =
      let base = base_from (end_of c + 1) bs place i b a.1 e in
      let begins = last_begins x bs i b l e in
      let here = fails_before c (omega arith) in
      rw here (last_decides (end_of c + 1) bs place i b a.1 l e)

  module _ (f : Block → Block) where
    abbrev change : Block → Block
    change b = if test b then f b else b

    pub unchanged_behind : (low : ℕ) (bs : List Block) (place : ℕ) → AreApart low bs place → BeginsBehind x bs → map change bs ≡ bs
    unchanged_behind low [] place a h = refl
    unchanged_behind low (b ∷ bs) place a h =
        let here = fails_behind b h in
        let there = unchanged_behind (end_of b + 1) bs place a.1 (head_behind x (end_of b + 1) bs place a.1 (omega arith)) in
        rw (here, there) refl

    -- only the last block that begins at x or before is changed
    pub last_changes : (low : ℕ) (bs : List Block) (place i : ℕ) (b : Block) → AreApart low bs place → IsLast x bs i → slice_get bs i ≡ Some b
        → test b ≡ true → map change bs ≡ set bs i (f b)
    last_changes low [] place i b a l e t = absurd l
    last_changes low (c ∷ bs) place zero b a l e t =
        let there = unchanged_behind (end_of c + 1) bs place a.1 l.1 in
        let same : c ≡ b = cc in
        rw (there, same, t) refl
    last_changes low (c ∷ bs) place (suc i) b a l e t =
        let base = base_from (end_of c + 1) bs place i b a.1 e in
        let begins = last_begins x bs i b l e in
        let here = fails_before c (omega arith) in
        rw (here, last_changes (end_of c + 1) bs place i b a.1 l e t) refl

-- ---- accesses

pub has_near : (width : Width) (a : ℕ) (b : Block) → has width a b ≡ true → (b.base ≤ a) × (a ≤ end_of b)
has_near Byte a b t = grind (arith, nat_tests)
has_near Word a b t = grind (arith, nat_tests)

-- what is found is what the block has that decides
pub found_none : (width : Width) (a : ℕ) (bs : List Block) → list_any (has width a) bs ≡ false → found width a bs ≡ None
unfolding found
found_none width a [] e = refl
found_none width a (b ∷ bs) e = elim (cases_Bool (has width a b)) [
  | inl t ↦ absurd (let f : true ≡ false = sym (ap (λ r. r || list_any (has width a) bs) t) ∙ e in cc)
  | inr t ↦ rw t (found_none width a bs (sym (ap (λ r. r || list_any (has width a) bs) t) ∙ e))
]

pub last_found : (width : Width) (a low : ℕ) (bs : List Block) (place i : ℕ) (b : Block) → AreApart low bs place → IsLast a bs i → slice_get bs i ≡ Some b
    → has width a b ≡ true → found width a bs ≡ Some (number_at width b.bytes (a - b.base))
unfolding found
last_found width a low [] place i b p l e t = absurd l
last_found width a low (c ∷ bs) place zero b p l e t = let same : c ≡ b = cc in rw (same, t) refl
last_found width a low (c ∷ bs) place (suc i) b p l e t =
    let base = base_from (end_of c + 1) bs place i b p.1 e in
    let begins = last_begins a bs i b l e in
    let here = fails_before (has width a) a (has_near width a) c (omega arith) in
    rw here (last_found width a (end_of c + 1) bs place i b p.1 l e t)

-- ---- a changed block lies apart, too

pub apart_set : (low : ℕ) (bs : List Block) (place i : ℕ) (b c : Block) → AreApart low bs place → slice_get bs i ≡ Some b → c.base ≡ b.base → end_of c ≡ end_of b
    → AreApart low (set bs i c) place
apart_set low [] place i b c a e f g = absurd cc
apart_set low (d ∷ bs) place zero b c a e f g =
    let same : d ≡ b = cc in
    (let h = a.0 in let k : d.base ≡ c.base = cc in omega arith, subst (λ (k : ℕ). AreApart (k + 1) bs place) (ap end_of same ∙ sym g) a.1)
apart_set low (d ∷ bs) place (suc i) b c a e f g = (a.0, apart_set (end_of d + 1) bs place i b c a.1 e f g)

-- ---- the test

pub apart_true : (low : ℕ) (bs : List Block) (place : ℕ) → are_apart low bs place ≡ true → AreApart low bs place
apart_true low [] place e = leb-true low place e
apart_true low (b ∷ bs) place e =
    let p = and_parts (nat_le low b.base) (are_apart (end_of b + 1) bs place) e in
    (leb-true low b.base p.0, apart_true (end_of b + 1) bs place p.1)

pub true_apart : (low : ℕ) (bs : List Block) (place : ℕ) → AreApart low bs place → are_apart low bs place ≡ true
true_apart low [] place a = le-leb low place a
true_apart low (b ∷ bs) place a = rw (le-leb low b.base a.0, true_apart (end_of b + 1) bs place a.1) refl

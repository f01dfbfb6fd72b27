-- Lists of numbers, by how often each number is in them, and numbers that are made one after another.
use Rattle.std.proofs.Common.{◌≡◌, ◌∙◌, sym, ap, refl, subst, ◌⊎◌, inl, inr, ℕ, zero, suc, ◌+◌, ◌≤◌, List, [], ◌∷◌, ◌++◌, length, length-append, arith}
use Rattle.std.specs.List.Sorted.{IsPermutation}
use Rattle.std.proofs.lemmas.List.Sorted.{IsPermutation-refl, IsPermutation-sym, IsPermutation-trans, IsPermutation-cons, IsPermutation-middle}
use Rattle.ckc_typed_fit.specs.Numbers.{CountsFrom}

-- ---- how often a number is in a list

abbrev pub one : ℕ → ℕ → ℕ
one zero zero = 1
one zero (suc m) = 0
one (suc n) zero = 0
one (suc n) (suc m) = one n m

abbrev pub times : ℕ → List ℕ → ℕ
times n [] = 0
times n (m ∷ ms) = one n m + times n ms

pub from_zero : (a : ℕ) → a ≡ 0 + a
from_zero a = omega arith

pub times_append : (n : ℕ) (xs ys : List ℕ) → times n (xs ++ ys) ≡ times n xs + times n ys
times_append n [] ys = from_zero (times n ys)
times_append n (x ∷ xs) ys = put (one n x) (times n (xs ++ ys)) (times n xs) (times n ys) (times_append n xs ys)
  where
    put : (a b c d : ℕ) → b ≡ c + d → a + b ≡ a + c + d
    put a b c d e = omega (arith, e)

one_self : (n : ℕ) → one n n ≡ 1
one_self zero = refl
one_self (suc n) = one_self n

one_or_none : (n m : ℕ) → (n ≡ m) ⊎ (one n m ≡ 0)
one_or_none zero zero = inl refl
one_or_none zero (suc m) = inr refl
one_or_none (suc n) zero = inr refl
one_or_none (suc n) (suc m) = by (one_or_none n m)
  where
    by : (n ≡ m) ⊎ (one n m ≡ 0) → (suc n ≡ suc m) ⊎ (one n m ≡ 0)
    by (inl e) = inl (ap (λ k. suc k) e)
    by (inr e) = inr e

-- where a number is that is in a list
record Parted (n : ℕ) (ys : List ℕ) : Type 0 where
  before : List ℕ
  behind : List ℕ
  is : ys ≡ before ++ n ∷ behind

parted : (n : ℕ) (ys : List ℕ) → 1 ≤ times n ys → Parted n ys
parted n [] h = absurd (omega (arith, h))
parted n (y ∷ ys) h = by (one_or_none n y) (parted n ys)
  where
    less : (a b : ℕ) → a ≡ 0 → 1 ≤ a + b → 1 ≤ b
    less a b e l = omega (arith, e, l)

    by : (n ≡ y) ⊎ (one n y ≡ 0) → (1 ≤ times n ys → Parted n ys) → Parted n (y ∷ ys)
    by (inl e) rest = record { before = []; behind = ys; is = ap (λ m. m ∷ ys) (sym e) }
    by (inr e) rest = let r = rest (less (one n y) (times n ys) e h) in record { before = y ∷ r.before; behind = r.behind; is = ap (λ ms. y ∷ ms) r.is }

-- lists in which each number is equally often have the same elements
pub as_often : (xs ys : List ℕ) → ((n : ℕ) → times n xs ≡ times n ys) → IsPermutation xs ys
as_often [] [] h = IsPermutation-refl []
as_often [] (y ∷ ys) h = absurd (none (one y y) (times y ys) (one_self y) (h y))
  where
    none : (a b : ℕ) → a ≡ 1 → 0 ≡ a + b → ⊥
    none a b e f = omega (arith, e, f)
as_often (x ∷ xs) ys h = found (parted x ys (some (one x x) (times x xs) (times x ys) (one_self x) (h x))) (as_often xs)
  where
    some : (a b c : ℕ) → a ≡ 1 → a + b ≡ c → 1 ≤ c
    some a b c e f = omega (arith, e, f)

    less : (a b c d e : ℕ) → a + b ≡ c → c ≡ d + (a + e) → b ≡ d + e
    less a b c d e f g = omega (arith, f, g)

    found : Parted x ys → ((zs : List ℕ) → ((n : ℕ) → times n xs ≡ times n zs) → IsPermutation xs zs) → IsPermutation (x ∷ xs) ys
    found r again =
        let rest : (n : ℕ) → times n xs ≡ times n (r.before ++ r.behind) =
        λ n. less (one n x) (times n xs) (times n ys) (times n r.before) (times n r.behind) (h n) (ap (times n) r.is ∙ times_append n r.before (x ∷ r.behind)) ∙ sym (times_append n r.before r.behind) in
        IsPermutation-trans (x ∷ xs) (x ∷ (r.before ++ r.behind)) ys (IsPermutation-cons x xs (r.before ++ r.behind) (again (r.before ++ r.behind) rest))
        (subst (IsPermutation (x ∷ (r.before ++ r.behind))) (sym r.is) (IsPermutation-sym (r.before ++ x ∷ r.behind) (x ∷ (r.before ++ r.behind)) (IsPermutation-middle r.before x r.behind)))

-- ---- numbers that go on

pub counts_append : (k : ℕ) (ns ms : List ℕ) → CountsFrom k ns → CountsFrom (k + length ns) ms → CountsFrom k (ns ++ ms)
counts_append k [] ms p q = let e : k + 0 ≡ k = omega arith in subst (λ n. CountsFrom n ms) e q
counts_append k (n ∷ ns) ms p q =
    let e : k + suc (length ns) ≡ k + 1 + length ns = omega arith in
    (p.0, counts_append (k + 1) ns ms p.1 (subst (λ n. CountsFrom n ms) e q))

-- the numbers go from one on, up to another one
pub record Counted (from : ℕ) (ns : List ℕ) (to : ℕ) : Type 0 where
  pub counts : CountsFrom from ns
  pub many : to ≡ from + length ns

nothing : (k : ℕ) → Counted k [] k
nothing k = record { counts = tt; many = omega arith }

pub behind_another : (k l m : ℕ) (ns ms : List ℕ) → Counted k ns l → Counted l ms m → Counted k (ns ++ ms) m
behind_another k l m ns ms p q =
    let e : length (ns ++ ms) ≡ length ns + length ms = length-append ns ms in
    record {
      counts = counts_append k ns ms p.counts (subst (λ n. CountsFrom n ms) p.many q.counts);
      many = omega (arith, e, p.many, q.many);
    }

-- ---- what is added

-- How often something is in a list of numbers: 0 stands for what is no number, and the next of a number for the number.
abbrev pub hits : ℕ → List ℕ → ℕ
hits zero ns = 0
hits (suc n) ns = times n ns

hits_none : (i : ℕ) → hits i [] ≡ 0
hits_none zero = refl
hits_none (suc n) = refl

pub hits_append : (i : ℕ) (xs ys : List ℕ) → hits i (xs ++ ys) ≡ hits i xs + hits i ys
hits_append zero xs ys = refl
hits_append (suc n) xs ys = times_append n xs ys

-- Each is so much more often in what there is later as it is in the numbers that go from one on, up to another one.
pub record Adds (from to : ℕ) (before later : ℕ → ℕ) : Type 0 where
  pub new : List ℕ
  pub counted : Counted from new to
  pub is : (n : ℕ) → later n ≡ before n + hits n new

pub adds_none : (k : ℕ) (f g : ℕ → ℕ) → ((n : ℕ) → g n ≡ f n) → Adds k k f g
adds_none k f g h = record { new = []; counted = nothing k; is = λ n. put (f n) (g n) (hits n []) (h n) (hits_none n) }
  where
    put : (a b c : ℕ) → b ≡ a → c ≡ 0 → b ≡ a + c
    put a b c e d = omega (arith, e, d)

pub adds_one : (k : ℕ) (f g : ℕ → ℕ) → ((n : ℕ) → g n ≡ f n + hits n (k ∷ [])) → Adds k (k + 1) f g
adds_one k f g h = record { new = k ∷ []; counted = record { counts = (refl, tt); many = refl }; is = h }

-- first the one and later the other
pub adds_both : (a b c : ℕ) (f g h k before later : ℕ → ℕ) → Adds a b f g → Adds b c h k → ((n : ℕ) → later n + (f n + h n) ≡ before n + (g n + k n)) → Adds a c before later
adds_both a b c f g h k before later p q joins = record {
  new = p.new ++ q.new;
  counted = behind_another a b c p.new q.new p.counted q.counted;
  is = λ n. put (f n) (g n) (h n) (k n) (before n) (later n) (hits n p.new) (hits n q.new) (hits n (p.new ++ q.new)) (p.is n) (q.is n) (joins n) (hits_append n p.new q.new);
}
  where
    put : (f g h k x y s t u : ℕ) → g ≡ f + s → k ≡ h + t → y + (f + h) ≡ x + (g + k) → u ≡ s + t → y ≡ x + u
    put f g h k x y s t u c d e i = omega (arith, c, d, e, i)

-- the same, said of other things
pub adds_as : (a b : ℕ) (f g before later : ℕ → ℕ) → Adds a b f g → ((n : ℕ) → later n + f n ≡ before n + g n) → Adds a b before later
adds_as a b f g before later p joins = record {
  new = p.new;
  counted = p.counted;
  is = λ n. put (f n) (g n) (before n) (later n) (hits n p.new) (p.is n) (joins n);
}
  where
    put : (f g x y s : ℕ) → g ≡ f + s → y + f ≡ x + g → y ≡ x + s
    put f g x y s c e = omega (arith, c, e)

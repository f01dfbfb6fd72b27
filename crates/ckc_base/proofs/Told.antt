-- Facts that can be told: whether one is true can be worked out.
use Rattle.std.proofs.Common.{◌≡◌, ◌⊎◌, inl, inr, ⊎_elim, ℕ, zero, suc, ◌<◌, ◌≤◌, Bool, true, false, List, [], ◌∷◌, refl, sym, ap, subst, arith}
use Rattle.std.proofs.lemmas.Bool.{false≢true, cases_lt}

-- it is true, or it is not
abbrev pub Told : Type 0 → Type 0
Told P = P ⊎ (¬ P)

-- something has it, or nothing has
abbrev pub SomeTold : {A : Type 0} → (A → Type 0) → Type 0
SomeTold {A} P = ((a : A) × P a) ⊎ ((a : A) → ¬ P a)

pub never : {P : Type 0} → ¬ P → Told P
never wrong = inr wrong

pub turned : {P Q : Type 0} → (P → Q) → (Q → P) → Told P → Told Q
turned there back (inl p) = inl (there p)
turned there back (inr wrong) = inr (λ q. wrong (back q))

-- the second may want the first to be told
pub if_so : {P Q : Type 0} → Told P → (P → Told Q) → Told (P × Q)
if_so {P} {Q} (inr wrong) then_told = inr (λ x. wrong x.0)
if_so {P} {Q} (inl p) then_told = with_first (then_told p)
  where
    with_first : Told Q → Told (P × Q)
    with_first (inl q) = inl (p, q)
    with_first (inr wrong) = inr (λ x. wrong x.1)

pub both : {P Q : Type 0} → Told P → Told Q → Told (P × Q)
both p q = if_so p (λ known. q)

pub three : {P Q R : Type 0} → Told P → Told Q → Told R → Told (P × Q × R)
three p q r = turned (λ h. (h.0, h.1.0, h.1.1)) (λ h. (h.0, (h.1, h.2))) (both p (both q r))

pub four : {P Q R S : Type 0} → Told P → Told Q → Told R → Told S → Told (P × Q × R × S)
four p q r s = turned (λ h. (h.0, h.1.0, h.1.1, h.1.2)) (λ h. (h.0, (h.1, h.2, h.3))) (both p (three q r s))

pub one_at_least : {P Q : Type 0} → Told P → Told Q → Told (P ⊎ Q)
one_at_least (inl p) q = inl (inl p)
one_at_least (inr wrong) (inl q) = inl (inr q)
one_at_least (inr wrong) (inr none) = inr (λ x. ⊎_elim wrong none x)

pub denied : {P : Type 0} → Told P → Told (¬ P)
denied (inl p) = inr (λ wrong. wrong p)
denied (inr wrong) = inl wrong

-- if whether a fact is true can be told, it is enough that it cannot fail to be true
pub stays : {P : Type 0} → Told P → ((¬ P) → ⊥) → P
stays (inl p) never_not = p
stays (inr wrong) never_not = absurd (never_not wrong)

pub is_true : (b : Bool) → Told (b ≡ true)
is_true true = inl refl
is_true false = inr (λ e. false≢true e)

pub is_false : (b : Bool) → Told (b ≡ false)
is_false false = inl refl
is_false true = inr (λ e. false≢true (sym e))

pub less : (a b : ℕ) → Told (a < b)
less a b = ⊎_elim (λ (lt : a < b). inl lt) (λ (le : b ≤ a). inr (λ (lt : a < b). omega (arith, lt, le))) (cases_lt a b)

pub at_most : (a b : ℕ) → Told (a ≤ b)
at_most a b = ⊎_elim (λ (lt : b < a). inr (λ (le : a ≤ b). omega (arith, lt, le))) (λ (le : a ≤ b). inl le) (cases_lt b a)

-- two numbers are the same
pub equal : (a b : ℕ) → Told (a ≡ b)
equal zero zero = inl refl
equal zero (suc b) = inr (λ e. absurd (omega (arith, e)))
equal (suc a) zero = inr (λ e. absurd (omega (arith, e)))
equal (suc a) (suc b) = turned (λ e. ap (λ n. suc n) e) (λ (e : suc a ≡ suc b). omega (arith, e)) (equal a b)

-- two lists are the same, if their elements can be compared
pub same_list : {A : Type 0} → ((a b : A) → Told (a ≡ b)) → (xs ys : List A) → Told (xs ≡ ys)
same_list same [] [] = inl refl
same_list same [] (y ∷ ys) = inr (λ e. absurd cc)
same_list same (x ∷ xs) [] = inr (λ e. absurd cc)
same_list {A} same (x ∷ xs) (y ∷ ys) = turned there back (both (same x y) (same_list same xs ys))
  where
    there : (x ≡ y) × (xs ≡ ys) → x ∷ xs ≡ y ∷ ys
    there e = let a : x ≡ y = e.0 in let b : xs ≡ ys = e.1 in cc

    back : x ∷ xs ≡ y ∷ ys → (x ≡ y) × (xs ≡ ys)
    back e = (cc, cc)

-- each number below n has it
pub each_below : (P : ℕ → Type 0) → ((k : ℕ) → Told (P k)) → (n : ℕ) → Told ((k : ℕ) → k < n → P k)
each_below P told zero = inl (λ k lt. absurd (omega (arith, lt)))
each_below P told (suc n) = turned there back (both (each_below P told n) (told n))
  where
    at : (k : ℕ) → ((j : ℕ) → j < n → P j) → P n → k < suc n → (k < n) ⊎ (n ≤ k) → P k
    at k before here lt (inl below) = before k below
    at k before here lt (inr above) = let e : n ≡ k = omega (arith, lt, above) in subst_here e here
      where
        subst_here : n ≡ k → P n → P k
        subst_here e p = subst P e p

    there : ((k : ℕ) → k < n → P k) × P n → (k : ℕ) → k < suc n → P k
    there h k lt = at k h.0 h.1 lt (cases_lt k n)

    back : ((k : ℕ) → k < suc n → P k) → ((k : ℕ) → k < n → P k) × P n
    back h = (λ k lt. h k (omega (arith, lt)), h n (omega arith))

-- a number below n has it, or none has
pub some_below : (P : ℕ → Type 0) → ((k : ℕ) → Told (P k)) → (n : ℕ) → ((k : ℕ) × (k < n) × P k) ⊎ ((k : ℕ) → k < n → ¬ P k)
some_below P told zero = inr (λ k lt p. omega (arith, lt))
some_below P told (suc n) = next (told n) (some_below P told n)
  where
    above : (k : ℕ) → ¬ P n → ((j : ℕ) → j < n → ¬ P j) → k < suc n → P k → (k < n) ⊎ (n ≤ k) → ⊥
    above k wrong none lt p (inl below) = none k below p
    above k wrong none lt p (inr high) = let e : k ≡ n = omega (arith, lt, high) in wrong (subst P e p)

    next : Told (P n) → ((k : ℕ) × (k < n) × P k) ⊎ ((k : ℕ) → k < n → ¬ P k) → ((k : ℕ) × (k < suc n) × P k) ⊎ ((k : ℕ) → k < suc n → ¬ P k)
    next (inl p) rest = inl (n, omega arith, p)
    next (inr wrong) (inl found) = inl (found.0, omega (arith, found.1), found.2)
    next (inr wrong) (inr none) = inr (λ k lt p. above k wrong none lt p (cases_lt k n))

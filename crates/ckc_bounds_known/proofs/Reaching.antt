-- The search for a chain finds one exactly when there is one.
use Rattle.std.proofs.Common.{◌≡◌, ◌⊎◌, inl, inr, ⊎_elim, ap, sym, refl, ◌∙◌, ℕ, zero, suc, ◌+◌, ◌^◌, ◌<◌, ◌≤◌, Bool, true, false, List, [], ◌∷◌, length, ℤ, pos, ◌-ℤ◌, ◌≤ℤ◌, arith, rules}
use Rattle.std.specs.Prelude.{◌==◌, nat_lt, ◌&&◌, ◌||◌, int_le, IsTrue, ◌↔◌}
use Rattle.std.specs.List.{Contains, list_any}
use Rattle.std.proofs.lemmas.Int.{ints}
use Rattle.std.proofs.lemmas.List.Folds.{list_any_at}
use Rattle.ckc_linear.specs.declared.facts.Fact.{Fact}
use Rattle.ckc_linear.specs.Chains.{Leads, total, Chain}
use Rattle.ckc_bounds_known.specs.Shown.{Known, is_within, reaches, is_shown}

or_cases : (a b : Bool) → (a || b) ≡ true → (a ≡ true) ⊎ (b ≡ true)
or_cases true b h = inl refl
or_cases false b h = inr h

or_left : (a b : Bool) → a ≡ true → (a || b) ≡ true
or_left a b h = rw h refl

or_right : (a b : Bool) → b ≡ true → (a || b) ≡ true
or_right true b h = refl
or_right false b h = h

pub and_cases : (a b : Bool) → (a && b) ≡ true → (a ≡ true) × (b ≡ true)
and_cases true b h = (refl, h)
and_cases false b h = (h, cc)

and_both : (a b : Bool) → a ≡ true → b ≡ true → (a && b) ≡ true
and_both a b p q = rw (p, q) refl

same_by : (x y : ℕ) → (x == y) ≡ true → x ≡ y
same_by x y h = grind (arith, rules)

by_same : (x y : ℕ) → x ≡ y → (x == y) ≡ true
by_same x y h = grind (arith, rules)

pub most_by : (x y : ℤ) → int_le x y ≡ true → x ≤ℤ y
most_by x y h = grind (arith, ints)

by_most : (x y : ℤ) → x ≤ℤ y → int_le x y ≡ true
by_most x y h = grind (arith, ints)

found : (p : Fact → Bool) (fs : List Fact) → list_any p fs ≡ true → (f : Fact) × Contains fs f × (p f ≡ true)
found p [] h = cc
found p (f ∷ fs) h = ⊎_elim
    (λ e. (f, (0, omega arith, refl), e))
    (λ e. let (g, k, q) = found p fs e in (g, (suc k.0, omega (arith, k.1), k.2), q))
    (or_cases (p f) (list_any p fs) h)

there : (p : Fact → Bool) (fs : List Fact) (f : Fact) → Contains fs f → p f ≡ true → list_any p fs ≡ true
there p fs f k q = list_any_at p fs k.0 f k.1 (rw k.2 q)

abbrev Short : ℕ → List Fact → ℕ → ℕ → ℤ → Type 0
Short most facts x y c = (walk : List Fact) × Leads facts x y walk × (length walk ≤ most) × (total walk ≤ℤ c)

empty_walk : (most : ℕ) (facts : List Fact) (x y : ℕ) (c : ℤ) → ((x == y) && int_le (pos 0) c) ≡ true → Short most facts x y c
empty_walk most facts x y c h =
    let both = and_cases (x == y) (int_le (pos 0) c) h in
    ([], same_by x y both.0, omega arith, most_by (pos 0) c both.1)

walk_by : (most : ℕ) (facts : List Fact) (x y : ℕ) (c : ℤ) → reaches most facts x y c ≡ true → Short most facts x y c
unfolding reaches
walk_by zero facts x y c h = empty_walk 0 facts x y c h
walk_by (suc most) facts x y c h = ⊎_elim
    (empty_walk (suc most) facts x y c)
    (λ e.
    let test : Fact → Bool = λ f. (f.x == x) && reaches most facts f.y y (c -ℤ f.c) in
    let (f, k, q) = found test facts e in
    let both = and_cases (f.x == x) (reaches most facts f.y y (c -ℤ f.c)) q in
    let (walk, leads, short, sum) = walk_by most facts f.y y (c -ℤ f.c) both.1 in
    (f ∷ walk, (k, same_by f.x x both.0, leads), omega arith, omega (arith, ints)))
    (or_cases ((x == y) && int_le (pos 0) c) (list_any (λ f. (f.x == x) && reaches most facts f.y y (c -ℤ f.c)) facts) h)

by_walk : (most : ℕ) (facts : List Fact) (x y : ℕ) (c : ℤ) (walk : List Fact) → Leads facts x y walk → length walk ≤ most → total walk ≤ℤ c → reaches most facts x y c ≡ true
unfolding reaches
by_walk zero facts x y c [] leads short sum = and_both (x == y) (int_le (pos 0) c) (by_same x y leads) (by_most (pos 0) c sum)
by_walk zero facts x y c (f ∷ walk) leads short sum = absurd (omega arith)
by_walk (suc most) facts x y c [] leads short sum =
    or_left ((x == y) && int_le (pos 0) c) _ (and_both (x == y) (int_le (pos 0) c) (by_same x y leads) (by_most (pos 0) c sum))
by_walk (suc most) facts x y c (f ∷ walk) leads short sum =
    let test : Fact → Bool = λ f. (f.x == x) && reaches most facts f.y y (c -ℤ f.c) in
    let here : test f ≡ true = and_both (f.x == x) (reaches most facts f.y y (c -ℤ f.c)) (by_same f.x x leads.1) (by_walk most facts f.y y (c -ℤ f.c) walk leads.2 (omega arith) (omega (arith, ints))) in
    or_right ((x == y) && int_le (pos 0) c) _ (there test facts f leads.0 here)

same_truth : (a b : Bool) → (a ≡ true → b ≡ true) → (b ≡ true → a ≡ true) → a ≡ b
same_truth true b f g = sym (f refl)
same_truth false true f g = g refl
same_truth false false f g = refl

pub chain_is : (vars : ℕ) (facts : List Fact) (x y : ℕ) (c : ℤ) (b : Bool) → (IsTrue b ↔ Chain vars facts x y c) → b ≡ reaches (vars + 1) facts x y c
chain_is vars facts x y c b h = same_truth b (reaches (vars + 1) facts x y c)
    (λ e. let chain = h.0 e in by_walk (vars + 1) facts x y c chain.walk chain.leads chain.short chain.sum)
    (λ e. let (walk, leads, short, sum) = walk_by (vars + 1) facts x y c e in h.1 (record { walk = walk; leads = leads; short = short; sum = sum }))

pub chain_is_at : (vars : ℕ) (facts : List Fact) (x y : ℕ) (c d : ℤ) (b : Bool) → (IsTrue b ↔ Chain vars facts x y d) → d ≡ c → b ≡ reaches (vars + 1) facts x y c
chain_is_at vars facts x y c d b h same = chain_is vars facts x y d b h ∙ ap (reaches (vars + 1) facts x y) same

-- the empty chain
less_by : (a b : ℕ) → a < b → nat_lt a b ≡ true
less_by a b h = grind (arith, rules)

pub shown_at_once : (facts : Known) (f : Fact) → f.x < facts.vars → f.y < facts.vars → is_within (2 ^ 50) f.c ≡ true → f.x ≡ f.y → int_le (pos 0) f.c ≡ true → is_shown facts f ≡ true
shown_at_once facts f p q w e h =
    and_both (nat_lt f.x facts.vars) _ (less_by f.x facts.vars p)
    (and_both (nat_lt f.y facts.vars) _ (less_by f.y facts.vars q)
    (and_both (is_within (2 ^ 50) f.c) _ w (by_walk (facts.vars + 1) facts.list f.x f.y f.c [] e (omega arith) (most_by (pos 0) f.c h))))

-- a fact follows from another one alone
abbrev is_shown_by : Fact → Fact → Bool
is_shown_by f g = (g.x == f.x) && ((g.y == f.y) && int_le g.c f.c)

-- the chain of a single fact
pub shown_by_one : (facts : Known) (f : Fact) → f.x < facts.vars → f.y < facts.vars → is_within (2 ^ 50) f.c ≡ true → list_any (is_shown_by f) facts.list ≡ true → is_shown facts f ≡ true
shown_by_one facts f p q w h =
    let (g, there, e) = found (is_shown_by f) facts.list h in
    let left = and_cases (g.x == f.x) _ e in
    let right = and_cases (g.y == f.y) _ left.1 in
    let small : g.c ≤ℤ f.c = most_by g.c f.c right.1 in
    and_both (nat_lt f.x facts.vars) _ (less_by f.x facts.vars p)
    (and_both (nat_lt f.y facts.vars) _ (less_by f.y facts.vars q)
    (and_both (is_within (2 ^ 50) f.c) _ w (by_walk (facts.vars + 1) facts.list f.x f.y f.c (g ∷ []) (there, same_by g.x f.x left.0, same_by g.y f.y right.0) (omega arith)
    (omega (arith, ints)))))

-- a chain is what the search finds
pub chain_found : (vars : ℕ) (facts : List Fact) (x y : ℕ) (c : ℤ) → IsTrue (reaches (vars + 1) facts x y c) ↔ Chain vars facts x y c
chain_found vars facts x y c = (
  λ e. let (walk, leads, short, sum) = walk_by (vars + 1) facts x y c e in record { walk = walk; leads = leads; short = short; sum = sum },
  λ chain. by_walk (vars + 1) facts x y c chain.walk chain.leads chain.short chain.sum,
)

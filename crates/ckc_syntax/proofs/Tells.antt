-- A test of two values tells whether they are equal.
use Rattle.std.proofs.Common.{◌≡◌, ℕ, Bool, true, false, ◌&&◌, ◌==◌, List, [], ◌∷◌, map, refl, ap, ◌∙◌, sym}
use Rattle.ckc_syntax.specs.code.SameParts.{pass_all}
use Rattle.std.specs.Prelude.{Option, Some, None}
use Rattle.std.specs.Str.{bytes_eq}
use Rattle.std.specs.Bool.{Decides}
use Rattle.std.proofs.lemmas.Bool.Decides.{Decides-eqb}
use Rattle.std.proofs.lemmas.Slice.Eq.{bytes_eq-Decides}

pub record Tells {A : Type 0} (b : Bool) (x y : A) : Type 0 where
  pub so : b ≡ true → x ≡ y
  pub back : x ≡ y → b ≡ true

pub yes : {A : Type 0} (x : A) → Tells true x x
yes x = record { so = λ _. refl; back = λ _. refl }

apart : false ≡ true → ⊥
apart e = cc

-- values of two forms are not equal
pub unlike : {A : Type 0} (form : A → ℕ) (x y : A) → (form x == form y) ≡ false → Tells false x y
unlike form x y d = record {
  so = λ e. absurd (apart e);
  back = λ e. sym d ∙ (Decides-eqb (form x) (form y)).1 (ap form e);
}

left_true : (b c : Bool) → (b && c) ≡ true → b ≡ true
left_true true c e = refl
left_true false c e = absurd (apart e)

right_true : (b c : Bool) → (b && c) ≡ true → c ≡ true
right_true true c e = e
right_true false c e = absurd (apart e)

both_true : (b c : Bool) → b ≡ true → c ≡ true → (b && c) ≡ true
both_true b c e f = ap (λ v. v && c) e ∙ f

pub both : {A B : Type 0} {b c : Bool} {x y : A} {z w : B} → Tells b x y → Tells c z w → Tells {A = A × B} (b && c) (x, z) (y, w)
both {A} {B} {b} {c} {x} {y} {z} {w} p q = record {
  so = λ e. ap (λ v. (v, z)) (p.so (left_true b c e)) ∙ ap (λ v. (y, v)) (q.so (right_true b c e));
  back = λ e. both_true b c (p.back (ap (λ v. v.0) e)) (q.back (ap (λ v. v.1) e));
}

inj_some : {A : Type 0} (x y : A) → Some x ≡ Some y → x ≡ y
inj_some x y e = cc

abbrev there : {A : Type 0} → Option A → ℕ
there None = 0
there (Some x) = 1

pub none_tells : {A : Type 0} → Tells {A = Option A} true None None
none_tells = yes None

pub made : {A B : Type 0} {b : Bool} {x y : A} (h : A → B) → Tells b x y → (h x ≡ h y → x ≡ y) → Tells b (h x) (h y)
made h t inj = record { so = λ e. ap h (t.so e); back = λ e. t.back (inj e) }

pub some_tells : {A : Type 0} {b : Bool} {x y : A} → Tells b x y → Tells b (Some x) (Some y)
some_tells t = made (λ z. Some z) t (inj_some _ _)

-- a part on one side alone
pub left_tells : {A : Type 0} {x : A} → Tells {A = Option A} false (Some x) None
left_tells = unlike there _ _ refl

pub right_tells : {A : Type 0} {x : A} → Tells {A = Option A} false None (Some x)
right_tells = unlike there _ _ refl

pub same_tells : {A : Type 0} (b b' : Bool) (x x' y y' : A) → b ≡ b' → x ≡ x' → y ≡ y' → Tells b' x' y' → Tells b x y
same_tells b b' x x' y y' eb ex ey t = record { so = λ e. ex ∙ t.so (sym eb ∙ e) ∙ sym ey; back = λ e. eb ∙ t.back (sym ex ∙ e ∙ ey) }

pub decided : {A : Type 0} {b : Bool} {x y : A} → Decides b (x ≡ y) → Tells b x y
decided d = record { so = d.0; back = d.1 }

pub numbers : (n m : ℕ) → Tells (n == m) n m
numbers n m = decided (Decides-eqb n m)

pub names : (s t : List ℕ) → Tells (bytes_eq s t) s t
names s t = decided (bytes_eq-Decides s t)

inj_cons : {A : Type 0} (x y : A) (xs ys : List A) → (x ∷ xs) ≡ (y ∷ ys) → ◌≡◌ {A = A × List A} (x, xs) (y, ys)
inj_cons x y xs ys e = cc

abbrev count : {A : Type 0} → List A → ℕ
count [] = 0
count (x ∷ xs) = 1

-- lists, part by part
module _ {X Y : Type 0} (same : X → X → Bool) (bare : X → Y) (each : (x z : X) → Tells (same x z) (bare x) (bare z)) where
  pub lists : (xs zs : List X) → Tells (pass_all (map same xs) zs) (map bare xs) (map bare zs)
  lists [] [] = yes _
  lists [] (z ∷ zs) = unlike count _ _ refl
  lists (x ∷ xs) [] = unlike count _ _ refl
  lists (x ∷ xs) (z ∷ zs) = made (λ (v : Y × List Y). v.0 ∷ v.1) (both (each x z) (lists xs zs)) (inj_cons _ _ _ _)

-- the same for parts that carry their claim
module _ {K X Y : Type 0} (same : X → X → Bool) (bare : X → Y) (first : K → X) (each : (k : K) (z : X) → Tells (same (first k) z) (bare (first k)) (bare z)) where
  pub kept_lists : (ks : List K) (zs : List X) → Tells (pass_all (map same (map first ks)) zs) (map bare (map first ks)) (map bare zs)
  kept_lists [] [] = yes _
  kept_lists [] (z ∷ zs) = unlike count _ _ refl
  kept_lists (k ∷ ks) [] = unlike count _ _ refl
  kept_lists (k ∷ ks) (z ∷ zs) = made (λ (v : Y × List Y). v.0 ∷ v.1) (both (each k z) (kept_lists ks zs)) (inj_cons _ _ _ _)

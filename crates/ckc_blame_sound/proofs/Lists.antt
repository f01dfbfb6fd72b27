-- Elements of lists.
use Rattle.std.proofs.Common.{◌≡◌, subst, refl, ℕ, zero, suc, List, [], ◌∷◌, ◌++◌, length}
use Rattle.std.specs.Prelude.{All, Bool, true, false, if◌then◌else◌, Some, find, slice_get}
use Rattle.std.proofs.lemmas.List.Elements.{All-nil, All-cons, All-head, All-tail}

-- what follows from what is so of each of some is so of each
pub all_by : {A : Type 0} (P Q : A → Type 0) → ((x : A) → P x → Q x) → (xs : List A) → All P xs → All Q xs
all_by P Q f [] h = All-nil Q
all_by P Q f (x ∷ xs) h = All-cons Q x xs (f x (All-head P x xs h)) (all_by P Q f xs (All-tail P x xs h))

-- what is so of all is so of what is found, and that passes the test
pub found : {A : Type 0} (P : A → Type 0) (p : A → Bool) (xs : List A) (v : A) → All P xs → find p xs ≡ Some v → P v × (p v ≡ true)
found P p [] v h e = absurd cc
found {A} P p (x ∷ xs) v h e = by (p x) refl e (λ f. found P p xs v (All-tail P x xs h) f)
  where
    by : (b : Bool) → p x ≡ b → (if b then Some x else find p xs) ≡ Some v → (find p xs ≡ Some v → P v × (p v ≡ true)) → P v × (p v ≡ true)
    by true is f later = let same : x ≡ v = cc in (subst P same (All-head P x xs h), subst (λ y. p y ≡ true) same is)
    by false is f later = later f

-- what stands after a list
pub seam : {A : Type 0} (xs : List A) (y : A) (ys : List A) → slice_get (xs ++ y ∷ ys) (length xs) ≡ Some y
seam [] y ys = refl
seam (x ∷ xs) y ys = seam xs y ys

-- what stands in a list stands there if more comes after it
pub more_at : {A : Type 0} (xs ys : List A) (k : ℕ) (x : A) → slice_get xs k ≡ Some x → slice_get (xs ++ ys) k ≡ Some x
more_at [] ys k x e = absurd cc
more_at (y ∷ xs) ys zero x e = e
more_at (y ∷ xs) ys (suc k) x e = more_at xs ys k x e

-- Elements of lists, and names of locals by their numbers.
use Rattle.std.proofs.Common.{◌≡◌, ◌⊎◌, inl, inr, refl, ℕ, Bool, true, false, List, [], ◌∷◌, ◌++◌, arith}
use Rattle.std.specs.Prelude.{◌||◌}
use Rattle.std.specs.List.{list_any, Contains}
use Rattle.std.proofs.lemmas.Bool.{eqb-true}
use Rattle.std.proofs.lemmas.List.Elements.{All-nil, All-cons, All-contains}
use Rattle.ckc_syntax.specs.declared.tree.Name.{Name}
use Rattle.ckc_syntax.specs.declared.tree.Name.TheVariants as name
use Rattle.ckc_typed.specs.Environment.{same_name}

pub no_element : {X : Type 0} (x : X) → Contains {X = X} [] x → ⊥
no_element x c = absurd (omega (arith, c.1))

pub one_element : {X : Type 0} (x y : X) → Contains (x ∷ []) y → x ≡ y
one_element x y c = All-contains (λ z. x ≡ z) (x ∷ []) y (All-cons (λ z. x ≡ z) x [] refl (All-nil (λ z. x ≡ z))) c

pub itself : {X : Type 0} (x : X) → Contains (x ∷ []) x
itself x = (0, omega arith, refl)

pub any_last : (p : Name → Bool) (ns : List Name) (n : Name) → list_any p (ns ++ n ∷ []) ≡ true → (list_any p ns ≡ true) ⊎ (p n ≡ true)
any_last p [] n h = inr (by (p n) h)
  where
    by : (b : Bool) → (b || false) ≡ true → b ≡ true
    by true h = refl
    by false h = h
any_last p (m ∷ ns) n h = by (p m) h (λ g. any_last p ns n g)
  where
    by : (b : Bool) → (b || list_any p (ns ++ n ∷ [])) ≡ true → (list_any p (ns ++ n ∷ []) ≡ true → (list_any p ns ≡ true) ⊎ (p n ≡ true)) → ((b || list_any p ns) ≡ true) ⊎ (p n ≡ true)
    by true h later = inl refl
    by false h later = later h

pub last_any : (p : Name → Bool) (ns : List Name) (n : Name) → p n ≡ true → list_any p (ns ++ n ∷ []) ≡ true
last_any p [] n h = by (p n) h
  where
    by : (b : Bool) → b ≡ true → (b || false) ≡ true
    by true h = refl
    by false h = h
last_any p (m ∷ ns) n h = by (p m) (last_any p ns n h)
  where
    by : (b : Bool) → list_any p (ns ++ n ∷ []) ≡ true → (b || list_any p (ns ++ n ∷ [])) ≡ true
    by true later = refl
    by false later = later

pub local_number : (j k : ℕ) → name.Local j ≡ name.Local k → j ≡ k
local_number j k e = cc

pub same_number : (j k : ℕ) → same_name (name.Local j) (name.Local k) ≡ true → j ≡ k
same_number j k h = eqb-true j k h

pub number_same : (k : ℕ) → same_name (name.Local k) (name.Local k) ≡ true
number_same k = grind arith

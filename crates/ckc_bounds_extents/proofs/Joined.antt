-- Lists that are made in steps.
use Rattle.std.proofs.Common.{◌≡◌, List, [], ◌∷◌, ◌++◌, refl, append_assoc}
use Rattle.std.specs.Prelude.{Option, None, Some}
use Rattle.std.proofs.lemmas.List.{append-nil}
use Rattle.ckc_bounds_views.specs.Parts.{with_last}

pub joined : {A : Type 0} (xs ys zs : List A) → (xs ++ ys) ++ zs ≡ xs ++ (ys ++ zs)
joined xs ys zs = append_assoc xs ys zs

pub joined_none : {A : Type 0} (xs : List A) → xs ++ [] ≡ xs
joined_none xs = append-nil xs

pub joined_last : {A : Type 0} (xs ys : List A) (o : Option A) → with_last (xs ++ ys) o ≡ xs ++ with_last ys o
joined_last xs ys None = refl
joined_last xs ys (Some a) = append_assoc xs ys (a ∷ [])

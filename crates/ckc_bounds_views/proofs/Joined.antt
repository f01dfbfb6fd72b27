-- Lists that are made in steps.
use Rattle.std.proofs.Common.{◌≡◌, List, [], ◌∷◌, ◌++◌, refl, append_assoc}
use Rattle.std.specs.Prelude.{Option, None, Some}
use Rattle.ckc_bounds_views.specs.Parts.{with_last, with_first}

pub last_first : {A : Type 0} (xs : List A) (o : Option A) (zs : List A) → with_last xs o ++ zs ≡ xs ++ with_first o zs
last_first xs None zs = refl
last_first xs (Some a) zs = append_assoc xs (a ∷ []) zs

-- Lists in which each name is at the place of its number, so that a look-up needs no walk. It is how a look-up goes, and
-- no part of what it finds.
use Rattle.std.specs.Prelude.{ℕ, suc, ◌+◌, ◌==◌, Bool, true, false, ◌&&◌, List, [], ◌∷◌, Option, None, Some}
use Rattle.ckc_syntax.specs.declared.tree.Name.{Name}
use Rattle.ckc_syntax.specs.declared.tree.Name.TheVariants as name
use Rattle.ckc_typed.specs.declared.environment.Object.{Object}
use Rattle.ckc_typed.specs.declared.environment.Signature.{Signature}

-- the place of an object among those of a text: the objects are numbered in its order
abbrev pub place_of_object : Name → Option ℕ
place_of_object (name.Static k) = Some k
place_of_object n = None

-- the place of a function among those of a text, after `getchar` and `putchar`
abbrev pub place_of_function : Name → Option ℕ
place_of_function name.Getchar = Some 0
place_of_function name.Putchar = Some 1
place_of_function (name.Function k) = Some (k + 2)
place_of_function n = None

abbrev pub is_place : Option ℕ → ℕ → Bool
is_place (Some k) n = k == n
is_place None n = false

-- whether each element has the place at which it is, if the first one is at a place n
abbrev pub are_numbered : {A : Type 0} → (A → Option ℕ) → ℕ → List A → Bool
are_numbered place n [] = true
are_numbered place n (x ∷ xs) = is_place (place x) n && are_numbered place (suc n) xs

abbrev pub objects_numbered : ℕ → List Object → Bool
objects_numbered n os = are_numbered (λ o. place_of_object o.name) n os

abbrev pub functions_numbered : ℕ → List Signature → Bool
functions_numbered n fs = are_numbered (λ f. place_of_function f.name) n fs

-- In a list in which each name is at the place of its number, the first element with a name is the one at that place.
use Rattle.std.proofs.Common.{◌≡◌, ℕ, zero, suc, ◌+◌, Bool, true, false, List, [], ◌∷◌, refl, sym, ◌∙◌, ap, add-zero, zero-add, arith}
use Rattle.std.specs.Prelude.{◌&&◌, ◌==◌, find, cond, Option, None, Some, slice_get}
use Rattle.std.proofs.lemmas.Bool.{eqb-true}
use Rattle.std.proofs.lemmas.Bool.Decides.{nat_tests}
use Rattle.ckc_syntax.specs.declared.tree.Name.{Name}
use Rattle.ckc_syntax.specs.declared.tree.Name.TheVariants as name
use Rattle.ckc_typed.specs.declared.environment.Object.{Object}
use Rattle.ckc_typed.specs.declared.environment.Signature.{Signature}
use Rattle.ckc_typed.specs.Environment.{same_name}
use Rattle.ckc_typing_environment.specs.Numbered.{is_place, are_numbered, place_of_object, place_of_function, objects_numbered, functions_numbered}
use Rattle.ckc_typing_environment.specs.code.Numbered.{at_place}

is_both : (a b : Bool) → (a && b) ≡ true → (a ≡ true) × (b ≡ true)
is_both true true e = (refl, refl)
is_both true false e = absurd (cc)
is_both false true e = absurd (cc)
is_both false false e = absurd (cc)

same : (j k : ℕ) → j ≡ k → (j == k) ≡ true
same j k e = grind (arith, nat_tests)

behind : (n k : ℕ) → (n + suc k == n) ≡ false
behind n k = grind (arith, nat_tests)

module _ {A : Type 0} (place : A → Option ℕ) where
  module _ (test : A → Bool) (wanted : Option ℕ) (tells : (x : A) (n : ℕ) → is_place (place x) n ≡ true → test x ≡ is_place wanted n) where
    pub found : (n : ℕ) (xs : List A) (k : ℕ) → wanted ≡ Some (n + k) → are_numbered place n xs ≡ true → find test xs ≡ slice_get xs k
    found n [] k w e = refl
    found n (x ∷ xs) zero w e =
        let here : test x ≡ true = tells x n (is_both (is_place (place x) n) _ e).0 ∙ ap (λ p. is_place p n) w ∙ same (n + 0) n (add-zero n) in
        ap (λ b. cond b (Some x) (find test xs)) here
    found n (x ∷ xs) (suc k) w e =
        let there : test x ≡ false = tells x n (is_both (is_place (place x) n) _ e).0 ∙ ap (λ p. is_place p n) w ∙ behind n k in
        let later : n + suc k ≡ suc n + k = omega arith in
        ap (λ b. cond b (Some x) (find test xs)) there
        ∙ found (suc n) xs k (w ∙ ap (λ m. Some m) later) (is_both (is_place (place x) n) _ e).1

    pub missing : (n : ℕ) (xs : List A) → wanted ≡ None → are_numbered place n xs ≡ true → find test xs ≡ None
    missing n [] w e = refl
    missing n (x ∷ xs) w e =
        let there : test x ≡ false = tells x n (is_both (is_place (place x) n) _ e).0 ∙ ap (λ p. is_place p n) w in
        ap (λ b. cond b (Some x) (find test xs)) there
        ∙ missing (suc n) xs w (is_both (is_place (place x) n) _ e).1

    pub at_its_place : (xs : List A) (w : Option ℕ) → wanted ≡ w → are_numbered place 0 xs ≡ true → at_place w xs ≡ find test xs
    at_its_place xs (Some k) w e = sym (found 0 xs k (w ∙ ap (λ m. Some m) (sym (zero-add k))) e)
    at_its_place xs None w e = sym (missing 0 xs w e)

-- A name whose place is n is the same as another exactly when the place of that one is n.
object_tells : (x w : Name) (n : ℕ) → is_place (place_of_object x) n ≡ true → same_name x w ≡ is_place (place_of_object w) n
object_tells (name.Static j) (name.Static k) n e = let s : j ≡ n = eqb-true j n e in grind (arith, nat_tests)
object_tells (name.Static j) (name.Local k) n e = refl
object_tells (name.Static j) (name.Function k) n e = refl
object_tells (name.Static j) (name.Tag k) n e = refl
object_tells (name.Static j) (name.Member k) n e = refl
object_tells (name.Static j) name.Getchar n e = refl
object_tells (name.Static j) name.Putchar n e = refl
object_tells (name.Local j) w n e = absurd (cc)
object_tells (name.Function j) w n e = absurd (cc)
object_tells (name.Tag j) w n e = absurd (cc)
object_tells (name.Member j) w n e = absurd (cc)
object_tells name.Getchar w n e = absurd (cc)
object_tells name.Putchar w n e = absurd (cc)

pub object_found : (os : List Object) (w : Name) → objects_numbered 0 os ≡ true → at_place (place_of_object w) os ≡ find (λ o. same_name o.name w) os
object_found os w e = at_its_place (λ o. place_of_object o.name) (λ o. same_name o.name w) (place_of_object w) (λ o n. object_tells o.name w n) os (place_of_object w) refl e

function_tells : (x w : Name) (n : ℕ) → is_place (place_of_function x) n ≡ true → same_name x w ≡ is_place (place_of_function w) n
function_tells (name.Function j) (name.Function k) n e = let s : j + 2 ≡ n = eqb-true (j + 2) n e in grind (arith, nat_tests)
function_tells (name.Function j) (name.Local k) n e = refl
function_tells (name.Function j) (name.Static k) n e = refl
function_tells (name.Function j) (name.Tag k) n e = refl
function_tells (name.Function j) (name.Member k) n e = refl
function_tells (name.Function j) name.Getchar n e = let s : j + 2 ≡ n = eqb-true (j + 2) n e in grind (arith, nat_tests)
function_tells (name.Function j) name.Putchar n e = let s : j + 2 ≡ n = eqb-true (j + 2) n e in grind (arith, nat_tests)
function_tells name.Getchar (name.Function k) n e = let s : 0 ≡ n = eqb-true 0 n e in grind (arith, nat_tests)
function_tells name.Getchar (name.Local k) n e = refl
function_tells name.Getchar (name.Static k) n e = refl
function_tells name.Getchar (name.Tag k) n e = refl
function_tells name.Getchar (name.Member k) n e = refl
function_tells name.Getchar name.Getchar n e = sym e
function_tells name.Getchar name.Putchar n e = let s : 0 ≡ n = eqb-true 0 n e in grind (arith, nat_tests)
function_tells name.Putchar (name.Function k) n e = let s : 1 ≡ n = eqb-true 1 n e in grind (arith, nat_tests)
function_tells name.Putchar (name.Local k) n e = refl
function_tells name.Putchar (name.Static k) n e = refl
function_tells name.Putchar (name.Tag k) n e = refl
function_tells name.Putchar (name.Member k) n e = refl
function_tells name.Putchar name.Putchar n e = sym e
function_tells name.Putchar name.Getchar n e = let s : 1 ≡ n = eqb-true 1 n e in grind (arith, nat_tests)
function_tells (name.Local j) w n e = absurd (cc)
function_tells (name.Static j) w n e = absurd (cc)
function_tells (name.Tag j) w n e = absurd (cc)
function_tells (name.Member j) w n e = absurd (cc)

pub signature_found : (fs : List Signature) (w : Name) → functions_numbered 0 fs ≡ true → at_place (place_of_function w) fs ≡ find (λ f. same_name f.name w) fs
signature_found fs w e = at_its_place (λ f. place_of_function f.name) (λ f. same_name f.name w) (place_of_function w) (λ f n. function_tells f.name w n) fs (place_of_function w) refl e

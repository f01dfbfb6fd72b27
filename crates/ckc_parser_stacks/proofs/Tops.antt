-- The last element of a list is the top.
use Rattle.std.proofs.Common.{◌≡◌, ◌==◌, nat_lt, false, length, List, [], ◌∷◌, ◌++◌, sym, ap, ◌∙◌, reverse, map, arith}
use Rattle.std.proofs.lemmas.Bool.Decides.{nat_tests}
use Rattle.std.proofs.lemmas.List.{reverse-append}

pub on_top : {X : Type 0} (s : List X) (x : X) → reverse (s ++ x ∷ []) ≡ x ∷ reverse s
on_top s x = reverse-append s (x ∷ [])

pub taken : {X : Type 0} (old new : List X) (x : X) → old ≡ new ++ x ∷ [] → reverse old ≡ x ∷ reverse new
taken old new x e = ap reverse e ∙ on_top new x

pub put : {X : Type 0} (old new : List X) (x : X) → new ≡ old ++ x ∷ [] → reverse new ≡ x ∷ reverse old
put old new x e = ap reverse e ∙ on_top old x

pub taken_token : {X Y : Type 0} (f : X → Y) (old new : List X) (x : X) → old ≡ new ++ x ∷ [] → map f (reverse old) ≡ f x ∷ map f (reverse new)
taken_token f old new x e = ap (λ z. map f z) (taken old new x e)

pub put_token : {X Y : Type 0} (f : X → Y) (old new : List X) (x : X) → new ≡ old ++ x ∷ [] → map f (reverse new) ≡ f x ∷ map f (reverse old)
put_token f old new x e = ap (λ z. map f z) (put old new x e)

pub none : {X : Type 0} (old new : List X) → old ≡ [] → new ≡ [] → (reverse old ≡ []) × (reverse new ≡ [])
none old new e h = (ap reverse e, ap reverse h)

-- where two stand, one stands, and another below it
pub first_of_two : {X : Type 0} (s : List X) → nat_lt (length s) 2 ≡ false → (length s == 0) ≡ false
first_of_two [] h = absurd (cc)
first_of_two (x ∷ s) h = grind (arith, nat_tests)

pub second_of_two : {X : Type 0} (s rest : List X) (x : X) → nat_lt (length s) 2 ≡ false → s ≡ x ∷ rest → (length rest == 0) ≡ false
second_of_two s [] x h e = absurd (let q = sym (ap (λ z. nat_lt (length z) 2) e) ∙ h in cc)
second_of_two s (y ∷ rest) x h e = grind (arith, nat_tests)

-- a stack on another
pub stood_on : {X : Type 0} (old new upper : List X) → new ≡ old ++ upper → reverse new ≡ reverse upper ++ reverse old
stood_on old new upper e = ap reverse e ∙ reverse-append old upper

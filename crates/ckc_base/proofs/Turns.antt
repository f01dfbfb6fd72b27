-- Loops that judge the parts of a list in turn.
use Rattle.std.proofs.Common.{◌≡◌, ◌<◌, ◌≤◌, ℕ, suc, ◌+◌, List, [], ◌∷◌, ◌++◌, length, map, drop, get_or, drop-cons, add-one, refl, sym, ap, ◌∙◌, append_assoc, append-nil}
use Rattle.std.specs.Prelude.{Result, Ok, Err, IsErrAnd}
use Rattle.std.proofs.lemmas.List.{drop_all}
use Rattle.ckc_base.specs.declared.places.Refusal.{Refusal}
use Rattle.ckc_base.specs.declared.fault.Fault.{Fault}
use Rattle.ckc_base.specs.Outcomes.{Outcome, bind, in_order, AnswersOutcome}
use Rattle.ckc_base.proofs.Ends.{halts}

-- what has been made, in front of what is still to be made
abbrev pub ahead : {A : Type 0} → List A → Outcome (List A) → Outcome (List A)
ahead done o = bind o (λ rest. Ok (done ++ rest))

abbrev pub judged : {X A : Type 0} → (X → Outcome A) → List X → ℕ → Outcome (List A)
judged f xs i = in_order (map f (drop i xs))

pub begin : {A : Type 0} (o : Outcome (List A)) (done : List A) → done ≡ [] → o ≡ ahead done o
begin {A} o done e = by o ∙ ap (λ d. ahead d o) (sym e)
  where
    by : (o : Outcome (List A)) → o ≡ ahead [] o
    by (Ok all) = refl
    by (Err r) = refl

pub ahead_twice : {A : Type 0} (a b : List A) (o : Outcome (List A)) → ahead a (ahead b o) ≡ ahead (a ++ b) o
ahead_twice a b (Ok rest) = ap (λ l. Ok l) (sym (append_assoc a b rest))
ahead_twice a b (Err r) = refl

module _ {X A : Type 0} (f : X → Outcome A) (xs : List X) (i : ℕ) where
  turn : (x : X) → i < length xs → x ≡ get_or xs i x → judged f xs i ≡ bind (f x) (λ a. bind (judged f xs (i + 1)) (λ rest. Ok (a ∷ rest)))
  turn x h e = rw (add-one, drop-cons xs i x) (ap (λ y. bind (f y) (λ a. bind (in_order (map f (drop (suc i) xs))) (λ rest. Ok (a ∷ rest)))) (sym e))

  module _ (whole : Outcome (List A)) (done : List A) (kept : whole ≡ ahead done (judged f xs i)) where
    pub turn_fault : (x : X) → i < length xs → x ≡ get_or xs i x → (r : Refusal) → f x ≡ Err r → whole ≡ Err r
    turn_fault x h e r q = kept ∙ ap (ahead done) (turn x h e ∙ ap (λ o. bind o (λ a. bind (judged f xs (i + 1)) (λ rest. Ok (a ∷ rest)))) q)

    pub turn_stops : (x : X) → i < length xs → x ≡ get_or xs i x → (r : Result (List A) Fault) (y : Fault) → IsErrAnd r (λ z. z ≡ y) → AnswersOutcome {A = A} (Err y) (f x) → AnswersOutcome r whole
    turn_stops x h e r y is a = halts (f x) whole r y is a (turn_fault x h e)

    pub turn_done : (x : X) (a : A) (more : List A) → i < length xs → x ≡ get_or xs i x → f x ≡ Ok a → more ≡ done ++ a ∷ [] → whole ≡ ahead more (judged f xs (i + 1))
    turn_done x a more h e q m =
        kept ∙ ap (ahead done) (turn x h e ∙ ap (λ o. bind o (λ b. bind (judged f xs (i + 1)) (λ rest. Ok (b ∷ rest)))) q)
        ∙ ahead_twice done (a ∷ []) (judged f xs (i + 1)) ∙ ap (λ d. ahead d (judged f xs (i + 1))) (sym m)

    pub turn_end : length xs ≤ i → whole ≡ Ok done
    turn_end h = kept ∙ ap (λ l. ahead done (in_order (map f l))) (drop_all i xs h) ∙ ap (λ l. Ok l) (append-nil done)

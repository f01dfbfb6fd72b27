-- Loops that judge the parts of a list in turn, each by what the ones before it leave.
use Rattle.std.proofs.Common.{◌≡◌, ◌<◌, ◌≤◌, ℕ, suc, ◌+◌, List, [], ◌∷◌, ◌++◌, length, map, drop, get_or, drop-cons, add-one, refl, sym, ap, ◌∙◌, append_assoc, append-nil}
use Rattle.std.specs.Prelude.{Result, Ok, Err, IsErrAnd}
use Rattle.std.proofs.lemmas.List.{drop_all}
use Rattle.ckc_base.specs.declared.places.Refusal.{Refusal}
use Rattle.ckc_base.specs.declared.fault.Fault.{Fault}
use Rattle.ckc_base.specs.Outcomes.{Outcome, bind, in_turn, StepsOutcome}
use Rattle.ckc_base.proofs.Ends.{step_halts}

-- what has been made, in front of what is still to be made
abbrev pub behind : {A S : Type 0} → List A → Outcome (List A × S) → Outcome (List A × S)
behind done o = bind o (λ q. Ok (done ++ q.0, q.1))

abbrev pub left : {X A S : Type 0} → (X → S → Outcome (A × S)) → List X → ℕ → S → Outcome (List A × S)
left f xs i s = in_turn (map f (drop i xs)) s

pub begin : {A S : Type 0} (o : Outcome (List A × S)) (done : List A) → done ≡ [] → o ≡ behind done o
begin {A} {S} o done e = by o ∙ ap (λ d. behind d o) (sym e)
  where
    by : (o : Outcome (List A × S)) → o ≡ behind [] o
    by (Ok all) = refl
    by (Err r) = refl

behind_twice : {A S : Type 0} (a b : List A) (o : Outcome (List A × S)) → behind a (behind b o) ≡ behind (a ++ b) o
behind_twice a b (Ok q) = ap (λ l. Ok (l, q.1)) (sym (append_assoc a b q.0))
behind_twice a b (Err r) = refl

module _ {X A S : Type 0} (f : X → S → Outcome (A × S)) (xs : List X) (i : ℕ) (s : S) where
  abbrev rest_behind : A × S → Outcome (List A × S)
  rest_behind p = bind (left f xs (i + 1) p.1) (λ q. Ok (p.0 ∷ q.0, q.1))

  turn : (x : X) → i < length xs → x ≡ get_or xs i x → left f xs i s ≡ bind (f x s) rest_behind
  turn x h e =
      ap (λ zs. in_turn (map f zs) s) (drop-cons xs i x h)
      ∙ ap (λ y. bind (f y s) (λ p. bind (in_turn (map f (drop (suc i) xs)) p.1) (λ q. Ok (p.0 ∷ q.0, q.1)))) (sym e)
      ∙ ap (λ n. bind (f x s) (λ p. bind (in_turn (map f (drop n xs)) p.1) (λ q. Ok (p.0 ∷ q.0, q.1)))) (sym (add-one i))

  module _ (whole : Outcome (List A × S)) (done : List A) (kept : whole ≡ behind done (left f xs i s)) where
    pub turn_fault : (x : X) → i < length xs → x ≡ get_or xs i x → (r : Refusal) → f x s ≡ Err r → whole ≡ Err r
    turn_fault x h e r q = kept ∙ ap (behind done) (turn x h e ∙ ap (λ o. bind o rest_behind) q)

    pub turn_stops : (x : X) → i < length xs → x ≡ get_or xs i x → (now new : S) (r : Result (List A) Fault) (y : Fault) → IsErrAnd r (λ z. z ≡ y) → StepsOutcome {A = A} (Err y) now (f x s) → StepsOutcome r new whole
    turn_stops x h e now new r y is a = step_halts (f x s) now whole new r y is a (turn_fault x h e)

    pub turn_done : (x : X) (a : A) (t : S) (more : List A) → i < length xs → x ≡ get_or xs i x → f x s ≡ Ok (a, t) → more ≡ done ++ a ∷ [] → whole ≡ behind more (left f xs (i + 1) t)
    turn_done x a t more h e q m =
        kept ∙ ap (behind done) (turn x h e ∙ ap (λ o. bind o rest_behind) q)
        ∙ behind_twice done (a ∷ []) (left f xs (i + 1) t) ∙ ap (λ d. behind d (left f xs (i + 1) t)) (sym m)

    pub turn_end : length xs ≤ i → whole ≡ Ok (done, s)
    turn_end h = kept ∙ ap (λ l. behind done (in_turn (map f l) s)) (drop_all i xs h) ∙ ap (λ l. Ok (l, s)) (append-nil done)

-- ---- the same parts, seen by a function first

abbrev in_front : {A S : Type 0} → (S → Outcome (List A × S)) → A × S → Outcome (List A × S)
in_front f q = bind (f q.1) (λ r. Ok (q.0 ∷ r.0, r.1))

turned_on : {A S : Type 0} (o : Outcome (A × S)) (f g : S → Outcome (List A × S)) → ((s : S) → f s ≡ g s) → bind o (in_front f) ≡ bind o (in_front g)
turned_on {A} {S} (Ok q) f g h = ap (λ (o : Outcome (List A × S)). bind {B = List A × S} o (λ r. Ok (q.0 ∷ r.0, r.1))) (h q.1)
turned_on (Err r) f g h = refl

pub turned_by : {X Y A S : Type 0} (p : X → Y) (g : Y → S → Outcome (A × S)) (xs : List X) (s : S) → in_turn (map g (map p xs)) s ≡ in_turn (map (λ x. g (p x)) xs) s
turned_by p g [] s = refl
turned_by p g (x ∷ xs) s = turned_on (g (p x) s) (in_turn (map g (map p xs))) (in_turn (map (λ y. g (p y)) xs)) (λ t. turned_by p g xs t)

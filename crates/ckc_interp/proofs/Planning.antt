-- Assignments one by one.
use Rattle.std.proofs.Common.{◌≡◌, ℕ, suc, ◌+◌, ◌<◌, List, [], ◌∷◌, ◌++◌, Result, Ok, Err, refl, sym, ◌∙◌, ap, append_assoc, append-nil, length, drop, get_or, drop-cons, arith}
use Rattle.ckc_source.specs.declared.outcome.Halt.{Halt}
use Rattle.ckc_source.specs.declared.outcome.Place.{Place}
use Rattle.ckc_source.specs.declared.outcome.Value.{Value}
use Rattle.ckc_source.specs.declared.program.Shape.{Shape}
use Rattle.ckc_source.specs.Code.{Target, Right, Expr}
use Rattle.ckc_source.specs.Eval.{Store, given, evaluated, all_evaluated}
use Rattle.ckc_source.specs.States.{State}
use Rattle.ckc_source.specs.Steps.{store_of, aimed, allowed, drawn, Drawn, Write, Planned, writes, all_written, planned, bundled, and_then_written}
use Rattle.ckc_interp.specs.code.Turns.{planned_one, planned_behind}

abbrev Behind : Write × State → List Write → Planned → Planned
Behind w ws p = record { writes = ws ++ p.writes; state = p.state }

module _ (go : Write × State → Result Planned Halt) where
  by_allowed : (d : Drawn) (r : Result Place Halt) → given r (λ to. go ((to, d.number), d.state)) ≡ given (given r (λ to. Ok ((to, d.number), d.state))) go
  by_allowed d (Ok to) = refl
  by_allowed d (Err why) = refl

  by_drawn : (to : Place) (x : Result Drawn Halt) → given x (λ d. given (allowed to d.number) (λ to. go ((to, d.number), d.state)))
      ≡ given (given x (λ d. given (allowed to d.number) (λ to. Ok ((to, d.number), d.state)))) go
  by_drawn to (Ok d) = by_allowed d (allowed to d.number)
  by_drawn to (Err why) = refl

  by_aimed : (x : Result Place Halt) (y : Result Drawn Halt) → given x (λ to. given y (λ d. given (allowed to d.number) (λ to. go ((to, d.number), d.state))))
      ≡ given (given x (λ to. given y (λ d. given (allowed to d.number) (λ to. Ok ((to, d.number), d.state))))) go
  by_aimed (Ok to) y = by_drawn to y
  by_aimed (Err why) y = refl

-- what is planned after one assignment
abbrev pub then_planned : List Shape → List (Target × Right) → Write × State → Result Planned Halt
then_planned shapes rest w = given (planned shapes w.1 rest) (λ p. Ok (and_then_written w.0.0 w.0.1 p))

pub planned-cons : (shapes : List Shape) (s : State) (a : Target × Right) (rest : List (Target × Right))
    → planned shapes s (a ∷ rest) ≡ given (planned_one shapes s a) (then_planned shapes rest)
planned-cons shapes s a rest = by_aimed (then_planned shapes rest) (aimed (store_of shapes s) a.0) (drawn shapes s a.1)

pub planned_next : (shapes : List Shape) (s u : State) (a : Target × Right) (rest : List (Target × Right)) (w : Write)
    → planned_one shapes s a ≡ Ok (w, u) → planned shapes s (a ∷ rest) ≡ then_planned shapes rest (w, u)
planned_next shapes s u a rest w e = planned-cons shapes s a rest ∙ ap (λ x. given x (then_planned shapes rest)) e

pub planned_stops : (shapes : List Shape) (s : State) (a : Target × Right) (rest : List (Target × Right)) (why : Halt)
    → planned_one shapes s a ≡ Err why → planned shapes s (a ∷ rest) ≡ Err why
planned_stops shapes s a rest why e = planned-cons shapes s a rest ∙ ap (λ x. given x (then_planned shapes rest)) e

-- ---- after what is planned already

abbrev pub plans : List Write → Result Planned Halt → Result Planned Halt
plans before x = given x (λ p. Ok (planned_behind before p))

behind_one : (before : List Write) (w : Write) (x : Result Planned Halt) → plans before (given x (λ p. Ok (and_then_written w.0 w.1 p))) ≡ plans (before ++ w ∷ []) x
behind_one before w (Ok p) = ap (λ ws. Ok (record { writes = ws; state = p.state })) (sym (append_assoc before (w ∷ []) p.writes))
behind_one before w (Err why) = refl

pub plans_next : (shapes : List Shape) (s u : State) (a : Target × Right) (rest : List (Target × Right)) (before : List Write) (w : Write)
    → planned_one shapes s a ≡ Ok (w, u) → plans before (planned shapes s (a ∷ rest)) ≡ plans (before ++ w ∷ []) (planned shapes u rest)
plans_next shapes s u a rest before w e = ap (plans before) (planned_next shapes s u a rest w e) ∙ behind_one before w (planned shapes u rest)

pub plans_stops : (shapes : List Shape) (s : State) (a : Target × Right) (rest : List (Target × Right)) (before : List Write) (why : Halt)
    → planned_one shapes s a ≡ Err why → plans before (planned shapes s (a ∷ rest)) ≡ Err why
plans_stops shapes s a rest before why e = ap (plans before) (planned_stops shapes s a rest why e)

pub plans_none : (x : Result Planned Halt) → plans [] x ≡ x
plans_none (Ok p) = refl
plans_none (Err why) = refl

pub plans_end : (shapes : List Shape) (s : State) (before : List Write) → plans before (planned shapes s []) ≡ Ok (record { writes = before; state = s })
plans_end shapes s before = ap (λ ws. Ok (record { writes = ws; state = s })) (append-nil before)

-- ---- writes

written_alone : (x : Result State Halt) → given x (λ s. all_written [] s) ≡ x
written_alone (Ok s) = refl
written_alone (Err why) = refl

pub bundled_one : (shapes : List Shape) (s u : State) (a : Target × Right) (w : Write)
    → planned_one shapes s a ≡ Ok (w, u) → bundled shapes s (a ∷ []) ≡ writes w.0 w.1 u
bundled_one shapes s u a w e =
    ap (λ x. given x (λ p. all_written p.writes p.state)) (planned_next shapes s u a [] w e) ∙ written_alone (writes w.0 w.1 u)

pub bundled_none : (shapes : List Shape) (s : State) (a : Target × Right) (why : Halt)
    → planned_one shapes s a ≡ Err why → bundled shapes s (a ∷ []) ≡ Err why
bundled_none shapes s a why e = ap (λ x. given x (λ p. all_written p.writes p.state)) (planned_stops shapes s a [] why e)

-- ---- arguments

abbrev pub listed_behind : List ℕ → Result (List ℕ) Halt → Result (List ℕ) Halt
listed_behind before x = given x (λ ns. Ok (before ++ ns))

listed_one : (before : List ℕ) (n : ℕ) (x : Result (List ℕ) Halt) → listed_behind before (given x (λ ns. Ok (n ∷ ns))) ≡ listed_behind (before ++ n ∷ []) x
listed_one before n (Ok ns) = ap Ok (sym (append_assoc before (n ∷ []) ns))
listed_one before n (Err why) = refl

pub listed_next : (s : Store) (e : Expr) (es : List Expr) (before : List ℕ) (v : Value)
    → evaluated s e ≡ Ok v → listed_behind before (all_evaluated s (e ∷ es)) ≡ listed_behind (before ++ v.number ∷ []) (all_evaluated s es)
listed_next s e es before v eq =
    ap (λ x. listed_behind before (given x (λ v. given (all_evaluated s es) (λ ns. Ok (v.number ∷ ns))))) eq ∙ listed_one before v.number (all_evaluated s es)

pub listed_stops : (s : Store) (e : Expr) (es : List Expr) (before : List ℕ) (why : Halt)
    → evaluated s e ≡ Err why → listed_behind before (all_evaluated s (e ∷ es)) ≡ Err why
listed_stops s e es before why eq = ap (λ x. listed_behind before (given x (λ v. given (all_evaluated s es) (λ ns. Ok (v.number ∷ ns))))) eq

pub listed_none : (x : Result (List ℕ) Halt) → listed_behind [] x ≡ x
listed_none (Ok ns) = refl
listed_none (Err why) = refl

pub listed_end : (before : List ℕ) → listed_behind before (Ok []) ≡ Ok before
listed_end before = ap Ok (append-nil before)

-- the element with the index comes first in what is left
pub next_item : {A : Type 0} (xs : List A) (i : ℕ) (x : A) → i < length xs → x ≡ get_or xs i x → drop i xs ≡ x ∷ drop (i + 1) xs
next_item xs i x h e =
    let one : suc i ≡ i + 1 = omega arith in
    drop-cons xs i x h ∙ ap (λ y. y ∷ drop (suc i) xs) (sym e) ∙ ap (λ k. x ∷ drop k xs) one

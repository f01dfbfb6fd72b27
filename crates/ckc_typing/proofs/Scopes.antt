-- Statements that are judged in one scope.
use Rattle.std.proofs.Common.{◌≡◌, Bool, List, [], ◌∷◌, map, Ok, refl, ap}
use Rattle.ckc_base.specs.declared.arithmetic.Mode.{Mode}
use Rattle.ckc_base.specs.Outcomes.{bind, in_order}
use Rattle.ckc_typed.specs.Statements.{OfStmt, all_in}

pub in_scope : {X : Type 0} (f : X → OfStmt) (mode : Mode) (looped : Bool) (ss : List X) → all_in mode looped (map f ss) ≡ in_order (map (λ s. f s mode looped) ss)
in_scope f mode looped [] = refl
in_scope f mode looped (s ∷ ss) = ap (λ o. bind (f s mode looped) (λ a. bind o (λ rest. Ok (a ∷ rest)))) (in_scope f mode looped ss)

-- Parts that are judged one after another, by the steps of a function.
use Rattle.std.proofs.Common.{◌≡◌, Ok, Err, Result, ap, sym, ◌∙◌, subst}
use Rattle.ckc_base.specs.declared.fault.Fault.{Fault}
use Rattle.ckc_base.specs.Outcomes.{Outcome, bind, AnswersOutcome}
use Rattle.ckc_base.proofs.Ends.{stops}
use Rattle.ckc_base.proofs.Outcomes.{after}

-- a step of a chain that fails
pub fails : {A B : Type 0} (o o' : Outcome A) (k : A → Outcome B) (whole : Outcome B) (r : Result B Fault) (y x : Fault) → whole ≡ bind o k → o ≡ o' → r ≡ Err y → y ≡ x → AnswersOutcome {A = A} (Err x) o' → AnswersOutcome r whole
fails o o' k whole r y x w s e h a = stops o' whole r y x e h a (λ f q. w ∙ ap (λ z. bind z k) (s ∙ q))

-- a step of a chain that goes on
pub goes : {A B : Type 0} (o o' : Outcome A) (k : A → Outcome B) (whole : Outcome B) (a : A) → whole ≡ bind o k → o ≡ o' → o' ≡ Ok a → whole ≡ k a
goes o o' k whole a w s q = w ∙ after k (s ∙ q)

-- what the last function of a chain answers
pub ends : {B : Type 0} (o whole : Outcome B) (r : Result B Fault) → whole ≡ o → AnswersOutcome r o → AnswersOutcome r whole
ends o whole r w a = subst (λ z. AnswersOutcome r z) (sym w) a

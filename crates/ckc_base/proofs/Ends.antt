-- A fault on the way is the answer.
use Rattle.std.proofs.Common.{◌≡◌, sym, ap, ◌∙◌, subst}
use Rattle.std.specs.Prelude.{Result, Err, IsErrAnd}
use Rattle.std.proofs.lemmas.Result.{err_from_is_err_and}
use Rattle.ckc_base.specs.declared.places.Refusal.{Refusal}
use Rattle.ckc_base.specs.declared.fault.Fault.{Fault}
use Rattle.ckc_base.specs.declared.fault.Fault.TheVariants as fault
use Rattle.ckc_base.specs.Outcomes.{Outcome, AnswersOutcome, StepsOutcome}

-- a fault of the part that is judged now is the answer
pub stops : {A B : Type 0} (o : Outcome A) (whole : Outcome B) (r : Result B Fault) (y x : Fault) → r ≡ Err y → y ≡ x → AnswersOutcome {A = A} (Err x) o → ((f : Refusal) → o ≡ Err f → whole ≡ Err f) → AnswersOutcome r whole
stops {A} {B} o whole r y x e h a k = subst {A = Result B Fault} (λ z. AnswersOutcome z whole) (sym (e ∙ ap (λ z. Err z) h)) (by x a)
  where
    by : (x : Fault) → AnswersOutcome {A = A} (Err x) o → AnswersOutcome {A = B} (Err x) whole
    by (fault.Refused f) a = k f a
    by fault.Memory a = tt

-- the part leaves something after it, and so does the whole
pub step_stops : {A B S T : Type 0} (o : Outcome (A × S)) (now : S) (whole : Outcome (B × T)) (new : T) (r : Result B Fault) (y x : Fault) → r ≡ Err y → y ≡ x → StepsOutcome {A = A} (Err x) now o → ((f : Refusal) → o ≡ Err f → whole ≡ Err f) → StepsOutcome r new whole
step_stops {A} {B} o now whole new r y x e h a k = subst {A = Result B Fault} (λ z. StepsOutcome z new whole) (sym (e ∙ ap (λ z. Err z) h)) (by x a)
  where
    by : (x : Fault) → StepsOutcome {A = A} (Err x) now o → StepsOutcome {A = B} (Err x) new whole
    by (fault.Refused f) a = k f a
    by fault.Memory a = tt

-- the part leaves something, and the whole nothing
pub ends : {A B S : Type 0} (o : Outcome (A × S)) (now : S) (whole : Outcome B) (r : Result B Fault) (y x : Fault) → r ≡ Err y → y ≡ x → StepsOutcome {A = A} (Err x) now o → ((f : Refusal) → o ≡ Err f → whole ≡ Err f) → AnswersOutcome r whole
ends {A} {B} o now whole r y x e h a k = subst {A = Result B Fault} (λ z. AnswersOutcome z whole) (sym (e ∙ ap (λ z. Err z) h)) (by x a)
  where
    by : (x : Fault) → StepsOutcome {A = A} (Err x) now o → AnswersOutcome {A = B} (Err x) whole
    by (fault.Refused f) a = k f a
    by fault.Memory a = tt

-- what a `?` gives back is the fault of a part
pub halts : {A B : Type 0} (o : Outcome A) (whole : Outcome B) (r : Result B Fault) (y : Fault) → IsErrAnd r (λ z. z ≡ y) → AnswersOutcome {A = A} (Err y) o → ((f : Refusal) → o ≡ Err f → whole ≡ Err f) → AnswersOutcome r whole
halts o whole r y is h k =
    let p = err_from_is_err_and r is in stops o whole r p.0 y p.1 p.2 h k

pub step_halts : {A B S T : Type 0} (o : Outcome (A × S)) (now : S) (whole : Outcome (B × T)) (new : T) (r : Result B Fault) (y : Fault) → IsErrAnd r (λ z. z ≡ y) → StepsOutcome {A = A} (Err y) now o → ((f : Refusal) → o ≡ Err f → whole ≡ Err f) → StepsOutcome r new whole
step_halts o now whole new r y is h k =
    let p = err_from_is_err_and r is in step_stops o now whole new r p.0 y p.1 p.2 h k

-- the part leaves nothing, and the whole would
pub part_halts : {A B T : Type 0} (o : Outcome A) (whole : Outcome (B × T)) (new : T) (r : Result B Fault) (y : Fault) → IsErrAnd r (λ z. z ≡ y) → AnswersOutcome {A = A} (Err y) o → ((f : Refusal) → o ≡ Err f → whole ≡ Err f) → StepsOutcome r new whole
part_halts {A} {B} o whole new r y is h k =
    let p = err_from_is_err_and r is in subst {A = Result B Fault} (λ z. StepsOutcome z new whole) (sym (p.1 ∙ ap (λ z. Err z) p.2)) (by y h)
  where
    by : (x : Fault) → AnswersOutcome {A = A} (Err x) o → StepsOutcome {A = B} (Err x) new whole
    by (fault.Refused f) a = k f a
    by fault.Memory a = tt

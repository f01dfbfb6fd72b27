-- Phases one after another, and what an exact phase's answer owes.
use Rattle.std.proofs.Common.{◌≡◌, ◌⊎◌, inl, inr, Result, Ok, Err, subst, ap, refl}
use Rattle.ckc_base.specs.declared.places.Refusal.{Refusal}
use Rattle.ckc_base.specs.declared.fault.Fault.{Fault}
use Rattle.ckc_base.specs.declared.fault.Fault.TheVariants as fault
use Rattle.ckc_base.specs.Outcomes.{Outcome, AnswersOutcome, phase_by}
use Rattle.ckc_base.specs.Phases.{Phase, ◌>=>◌, IsExact, Answers, Exact}

module _ {A B C : Type 0} (p : Phase A B) (q : Phase B C) (exact : IsExact p) (next : IsExact q) where
  made_of_both : (a : A) (c other : C) → (p >=> q).Makes a c → (p >=> q).Makes a other → c ≡ other
  made_of_both a c other m n = next.made_once n.0 c other (subst (λ b. q.Makes b c) (exact.made_once a m.0 n.0 m.1 n.1) m.2) n.2

  refused_of_both : (a : A) (r other : Refusal) → (p >=> q).Refuses a r → (p >=> q).Refuses a other → r ≡ other
  refused_of_both a r other (inl f) (inl g) = exact.refused_once a r other f g
  refused_of_both a r other (inl f) (inr g) = absurd (exact.never_both a g.0 r g.1 f)
  refused_of_both a r other (inr f) (inl g) = absurd (exact.never_both a f.0 other f.1 g)
  refused_of_both a r other (inr f) (inr g) = next.refused_once g.0 r other (subst (λ b. q.Refuses b r) (exact.made_once a f.0 g.0 f.1 g.1) f.2) g.2

  not_both : (a : A) (c : C) (r : Refusal) → (p >=> q).Makes a c → (p >=> q).Refuses a r → ⊥
  not_both a c r m (inl f) = exact.never_both a m.0 r m.1 f
  not_both a c r m (inr f) = next.never_both f.0 c r (subst (λ b. q.Makes b c) (exact.made_once a m.0 f.0 m.1 f.1) m.2) f.2

  -- what the first phase makes goes to the second
  one_more : (a : A) → ((b : B) × p.Makes a b) ⊎ ((r : Refusal) × p.Refuses a r) → ((c : C) × (p >=> q).Makes a c) ⊎ ((r : Refusal) × (p >=> q).Refuses a r)
  one_more a (inr f) = inr (f.0, inl f.1)
  one_more a (inl m) = then_one a m.0 m.1 (next.one_of_both m.0)
    where
      then_one : (a : A) (b : B) → p.Makes a b → ((c : C) × q.Makes b c) ⊎ ((r : Refusal) × q.Refuses b r) → ((c : C) × (p >=> q).Makes a c) ⊎ ((r : Refusal) × (p >=> q).Refuses a r)
      then_one a b made (inl n) = inl (n.0, (b, made, n.1))
      then_one a b made (inr f) = inr (f.0, inr (b, made, f.1))

  -- Exact phases one after another are an exact phase.
  pub then_exact : IsExact (p >=> q)
  then_exact = record { made_once = made_of_both; refused_once = refused_of_both; never_both = not_both; one_of_both = λ a. one_more a (exact.one_of_both a) }

  -- What an answer of the first phase that goes on owes: the answer of the second one is that of both.
  pub answers_on : (a : A) (b : B) (answer : Result C Fault) → p.Makes a b → Answers q b answer → Answers (p >=> q) a answer
  answers_on a b (Ok c) made answers = (b, made, answers)
  answers_on a b (Err (fault.Refused r)) made answers = inr (b, made, answers)
  answers_on a b (Err fault.Memory) made answers = tt

-- An answer of an exact phase is exact, both ways.
pub exact_of : {A B : Type 0} (p : Phase A B) → IsExact p → (a : A) (answer : Result B Fault) → Answers p a answer → Exact p a answer
exact_of p exact a (Ok b) answers = record {
  answers = answers;
  all_made = λ wanted m. ap Ok (exact.made_once a wanted b m answers);
  all_refused = λ r f. absurd (exact.never_both a b r answers f);
}
exact_of p exact a (Err (fault.Refused r)) answers = record {
  answers = answers;
  all_made = λ wanted m. absurd (exact.never_both a wanted r m answers);
  all_refused = λ wanted f. ap (λ x. Err (fault.Refused x)) (exact.refused_once a wanted r f answers);
}
exact_of p exact a (Err fault.Memory) answers = record { answers = tt; all_made = λ b m. tt; all_refused = λ r f. tt }

same_made : {B : Type 0} (o : Outcome B) (b other : B) → o ≡ Ok b → o ≡ Ok other → b ≡ other
same_made o b other p q = cc

same_refused : {B : Type 0} (o : Outcome B) (r other : Refusal) → o ≡ Err r → o ≡ Err other → r ≡ other
same_refused o r other p q = cc

not_both_same : {B : Type 0} (o : Outcome B) (b : B) (r : Refusal) → o ≡ Ok b → o ≡ Err r → ⊥
not_both_same o b r p q = cc

-- an outcome is a thing or a first error
pub one_outcome : {B : Type 0} (o : Outcome B) → ((b : B) × (o ≡ Ok b)) ⊎ ((r : Refusal) × (o ≡ Err r))
one_outcome (Ok b) = inl (b, refl)
one_outcome (Err r) = inr (r, refl)

-- A phase that a function gives is exact.
pub phase_by_exact : {A B : Type 0} (f : A → Outcome B) → IsExact (phase_by f)
phase_by_exact f = record {
  made_once = λ a b other. same_made (f a) b other;
  refused_once = λ a r other. same_refused (f a) r other;
  never_both = λ a b r. not_both_same (f a) b r;
  one_of_both = λ a. one_outcome (f a);
}

-- What answers the outcome of a function answers its phase.
pub answers_by : {A B : Type 0} (f : A → Outcome B) (a : A) (answer : Result B Fault) → AnswersOutcome answer (f a) → Answers (phase_by f) a answer
answers_by f a (Ok b) given = given
answers_by f a (Err (fault.Refused r)) given = given
answers_by f a (Err fault.Memory) given = tt

-- The limits of a text and the phases up to its plain tree are exact, and effects are refused with one code.
use Rattle.std.proofs.Common.{◌≡◌, ◌⊎◌, inl, inr, ◌≤◌, ℕ, refl, ap, sym, ◌∙◌, subst, List, [], ◌∷◌, Result}
use Rattle.std.proofs.lemmas.Result.{err_from_is_err_and}
use Rattle.std.specs.Prelude.{Ok, Err, IsErrAnd}
use Rattle.ckc_base.specs.declared.fault.Fault.{Fault}
use Rattle.ckc_base.specs.declared.fault.Fault.TheVariants as fault
use Rattle.ckc_base.specs.declared.places.Pos.{Pos}
use Rattle.ckc_base.specs.declared.places.Refusal.{Refusal}
use Rattle.ckc_base.specs.Outcomes.{bind}
use Rattle.ckc_base.specs.Phases.{Phase, IsExact, Answers, Exact, viewed, ◌>=>◌}
use Rattle.ckc_base.proofs.Phases.{phase_by_exact, then_exact, answers_on, exact_of}
use Rattle.ckc_syntax.specs.declared.tree.Name.{Name}
use Rattle.ckc_syntax.specs.declared.tree.NamedText.{NamedText}
use Rattle.ckc_syntax.specs.Trees.{NamedTree, Tree as SpelledTree}
use Rattle.ckc_syntax_limits.specs.Phase.{limiting}
use Rattle.ckc_syntax_limits.proofs.Limiting.{limiting_exact, limiting_codes}
use Rattle.ckc_resolve.specs.Phase.{naming, text_named}
use Rattle.ckc_resolve.proofs.CodedItems.{refused_codes}
use Rattle.ckc_plain.specs.Codes.{misplaced_effect, IsCode}
use Rattle.ckc_plain_barred.specs.Barred.{barred}
use Rattle.ckc_plain_bodies.specs.Statements.{plain}
use Rattle.ckc_plain.specs.Phase.{text_plain, plaining, relimiting, resolving, unless_some}

abbrev text_of : NamedTree → ℕ → NamedText
text_of tree main = record { tree = tree; main = main }

same_text : (n m : NamedText) → n.tree ≡ m.tree → n.main ≡ m.main → n ≡ m
same_text n m t h = ap (λ x. text_of x n.main) t ∙ ap (λ k. text_of m.tree k) h

made_or_first : (text : NamedText) →
    ((tree : NamedTree) × (limiting {N = Name} {A = Unit {0}}).Makes text.tree tree) ⊎ ((r : Refusal) × (limiting {N = Name} {A = Unit {0}}).Refuses text.tree r) →
    ((b : NamedText) × relimiting.Makes text b) ⊎ ((r : Refusal) × relimiting.Refuses text r)
made_or_first text (inl made) = inl (record { tree = made.0; main = text.main }, (made.1, refl))
made_or_first text (inr f) = inr f

pub relimiting_exact : IsExact relimiting
relimiting_exact =
    let exact = limiting_exact {N = Name} {A = Unit {0}} in
    record {
      made_once = λ text b other m n. same_text b other (exact.made_once text.tree b.tree other.tree m.0 n.0) (m.1 ∙ sym n.1);
      refused_once = λ text r other f g. exact.refused_once text.tree r other f g;
      never_both = λ text b r m f. exact.never_both text.tree b.tree r m.0 f;
      one_of_both = λ text. made_or_first text (exact.one_of_both text.tree);
    }

pub plaining_exact : IsExact plaining
plaining_exact = phase_by_exact text_plain

pub resolving_exact : IsExact resolving
resolving_exact = then_exact naming _ (phase_by_exact text_named) (then_exact plaining relimiting plaining_exact relimiting_exact)

coded : (ps : List Pos) (text : NamedText) (r : Refusal) → bind {B = NamedText} (unless_some ps) (λ ok. Ok (record { tree = plain text.tree; main = text.main })) ≡ Err r → r.code ≡ misplaced_effect
coded [] text r f = cc
coded (p ∷ ps) text r f = cc

pub plaining_codes : (text : NamedText) (r : Refusal) → plaining.Refuses text r → r.code ≡ misplaced_effect
plaining_codes text r f = coded (barred text.tree) text r f

after_names : (text : NamedText) (r : Refusal) → (plaining >=> relimiting).Refuses text r → IsCode r.code
after_names text r (inl f) = inr (inl (plaining_codes text r f))
after_names text r (inr f) = inr (inr (limiting_codes f.0.tree r f.2))

pub resolving_codes : (tree : SpelledTree) (r : Refusal) → resolving.Refuses tree r → IsCode r.code
resolving_codes tree r (inl f) = inl (refused_codes tree r f)
resolving_codes tree r (inr f) = after_names f.0 r f.2

-- ---- what calls of the phases answer

err_first : {A B C : Type 0} (p : Phase A B) (q : Phase B C) (a : A) (e : Fault) → Answers p a (Err e) → Answers (p >=> q) a (Err e)
err_first p q a (fault.Refused r) f = inl f
err_first p q a fault.Memory f = tt

abbrev after_naming : Phase NamedText NamedText
after_naming = plaining >=> relimiting

after_naming_exact : IsExact after_naming
after_naming_exact = then_exact plaining relimiting plaining_exact relimiting_exact

pub names_end : (tree : SpelledTree) (e : Fault) → Exact naming tree (Err e) → Exact resolving tree (Err e)
names_end tree e x = exact_of resolving resolving_exact tree (Err e) (err_first naming after_naming tree e x.answers)

names_go : (tree : SpelledTree) (n : NamedText) (answer : Result NamedText Fault) → Exact naming tree (Ok n) → Answers after_naming n answer → Exact resolving tree answer
names_go tree n answer x y = exact_of resolving resolving_exact tree answer (answers_on naming after_naming (phase_by_exact text_named) after_naming_exact tree n answer x.answers y)

pub effects_end : (tree : SpelledTree) (n : NamedText) (e : Fault) → Exact naming tree (Ok n) → Exact plaining n (Err e) → Exact resolving tree (Err e)
effects_end tree n e x y = names_go tree n (Err e) x (err_first plaining relimiting n e y.answers)

pub effects_go : (tree : SpelledTree) (n m : NamedText) (answer : Result NamedText Fault) → Exact naming tree (Ok n) → Exact plaining n (Ok m) → Exact relimiting m answer → Exact resolving tree answer
effects_go tree n m answer x y z = names_go tree n answer x (answers_on plaining relimiting plaining_exact relimiting_exact n m answer y.answers z.answers)

-- an exit with the error of a call
pub stops : (tree : SpelledTree) (answer : Result NamedText Fault) (e : Fault) → IsErrAnd answer (λ other. other ≡ e) → Exact resolving tree (Err e) → Exact resolving tree answer
stops tree answer e is x = let p = err_from_is_err_and answer is in subst (Exact resolving tree) (sym (p.1 ∙ ap (λ y. Err y) p.2)) x

err_limits : (n : NamedText) (e : Fault) → Answers limiting n.tree (Err e) → Answers relimiting n (Err e)
err_limits n (fault.Refused r) f = f
err_limits n fault.Memory f = tt

pub limits_kept : (n : NamedText) → Exact limiting n.tree (Ok n.tree) → Exact relimiting n (Ok n)
limits_kept n x = exact_of relimiting relimiting_exact n (Ok n) (x.answers, refl)

pub limits_broken : (n : NamedText) (r : Result (Unit {0}) Fault) (e : Fault) → Exact limiting n.tree (viewed (λ x. n.tree) r) → r ≡ Err e → Exact relimiting n (Err e)
limits_broken n r e x is = exact_of relimiting relimiting_exact n (Err e) (err_limits n e (subst (λ z. Exact limiting n.tree (viewed (λ y. n.tree) z)) is x).answers)

-- The answers of a lexer that reads forward are those that the cut of the text gives, and the phase is exact.
use Rattle.std.proofs.Common.{◌≡◌, ◌⊎◌, ℕ, ◌≤◌, ◌<◌, false, List, length, Result, Ok, Err, sym, refl, ◌∙◌, inl, inr, ⊎_elim, arith}
use Rattle.std.proofs.lemmas.Bool.{cases_lt}
use Rattle.ckc_base.specs.declared.places.Refusal.{Refusal}
use Rattle.ckc_base.specs.declared.fault.Fault.{Fault}
use Rattle.ckc_base.specs.declared.fault.Fault.TheVariants.{Refused, Memory}
use Rattle.ckc_base.specs.Phases.{IsExact, Answers, Exact, viewed}
use Rattle.ckc_base.specs.Places.{at_start, longest_text}
use Rattle.ckc_base.proofs.Outcomes.{ok_same, err_same, err_is_ok}
use Rattle.ckc_base.proofs.Phases.{exact_of}
use Rattle.ckc_syntax.specs.declared.tokens.Token as tokens
use Rattle.ckc_syntax.specs.Spelled.{Spelled, Tokens}
use Rattle.ckc_lexer.specs.Cut.{Lexes, FirstBroken, FirstFault}
use Rattle.ckc_lexer.specs.Phase.{lexing, tokens_in}
use Rattle.ckc_lexer.specs.Places.{place_after}
use Rattle.ckc_base.specs.Outcomes.{Outcome}
use Rattle.ckc_lexer.specs.code.Reading.{IsReading, Reads, start}
use Rattle.ckc_lexer.proofs.CutLaw.{read_lexes, read_fault, lexes_read, fault_read, reads_once}
use Rattle.ckc_lexer.proofs.Total.{reads_some}

-- the first fault of a text that is not too long
broken_of : (text : List ℕ) (fault : Refusal) → length text ≤ longest_text → FirstFault text fault → FirstBroken text fault
broken_of text fault le (inl f) = absurd (omega (arith, f.0, le))
broken_of text fault le (inr f) = f.1

pub tokens_once : (text : List ℕ) (a b : List Spelled) → Lexes text a → Lexes text b → a ≡ b
tokens_once text a b x y = ok_same a b (reads_once (lexes_read text a x) (lexes_read text b y))

made_once : (text : List ℕ) (a b : Tokens) → lexing.Makes text a → lexing.Makes text b → a ≡ b
made_once text a b x y = λ j. record { list = tokens_once text a.list b.list x.1 y.1 j; end = (x.2 ∙ sym y.2) j }

fault_once : (text : List ℕ) (a b : Refusal) → FirstFault text a → FirstFault text b → a ≡ b
fault_once text a b (inl x) (inl y) = x.1 ∙ sym y.1
fault_once text a b (inl x) (inr y) = absurd (omega (arith, x.0, y.0))
fault_once text a b (inr x) (inl y) = absurd (omega (arith, x.0, y.0))
fault_once text a b (inr x) (inr y) = err_same {A = List Spelled} a b (reads_once (fault_read text a x.1) (fault_read text b y.1))

never_both : (text : List ℕ) (a : Tokens) (b : Refusal) → lexing.Makes text a → FirstFault text b → ⊥
never_both text a b x y = err_is_ok b a.list (reads_once (fault_read text b (broken_of text b x.0 y)) (lexes_read text a.list x.1))

-- how a text of this length ends when it is read
read_so : (text : List ℕ) → length text ≤ longest_text → (o : Outcome (List Spelled)) → Reads start false text o → ((a : Tokens) × lexing.Makes text a) ⊎ ((b : Refusal) × FirstFault text b)
read_so text le (Ok found) r = inl (record { list = found; end = place_after text }, (le, read_lexes text found r, refl))
read_so text le (Err fault) r = inr (fault, inr (le, read_fault text fault r))

-- each text has tokens or a first fault
one_of_both : (text : List ℕ) → ((a : Tokens) × lexing.Makes text a) ⊎ ((b : Refusal) × FirstFault text b)
one_of_both text = ⊎_elim
    (λ (more : longest_text < length text). inr (at_start 201, inl (more, refl)))
    (λ (le : length text ≤ longest_text). let x = reads_some start false text in read_so text le x.0 x.1)
    (cases_lt longest_text (length text))

pub lexing_exact : IsExact lexing
lexing_exact = record { made_once = made_once; refused_once = fault_once; never_both = never_both; one_of_both = one_of_both }

-- a reading of a text is the answer of the phase
answers_of : (text : List ℕ) → length text ≤ longest_text → (r : Result (List tokens.Token) Fault) → IsReading text r → Answers lexing text (viewed (tokens_in text) r)
answers_of text le (Ok found) h = (le, read_lexes text (tokens_in text found).list h, refl)
answers_of text le (Err Memory) h = tt
answers_of text le (Err (Refused fault)) h = inr (le, read_fault text fault h)

pub reading_exact : (text : List ℕ) → length text ≤ longest_text → (r : Result (List tokens.Token) Fault) → IsReading text r → Exact lexing text (viewed (tokens_in text) r)
reading_exact text le r h = exact_of lexing lexing_exact text (viewed (tokens_in text) r) (answers_of text le r h)

pub long_exact : (text : List ℕ) → longest_text < length text → Exact lexing text (Err (Refused (at_start 201)))
long_exact text more = exact_of lexing lexing_exact text (Err (Refused (at_start 201))) (inl (more, refl))

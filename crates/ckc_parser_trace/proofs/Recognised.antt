-- The answers of the first pass.
use Rattle.std.proofs.Common.{◌≡◌, ℕ, suc, length, List, [], ◌∷◌, ◌++◌, refl, sym, ap, subst, ◌∙◌, None, append-nil, add-zero, Result, Ok, Err}
use Rattle.ckc_base.specs.declared.places.Pos.{Pos}
use Rattle.ckc_base.specs.declared.places.Refusal.{Refusal}
use Rattle.ckc_base.specs.declared.fault.Fault.{Fault}
use Rattle.ckc_base.specs.declared.fault.Fault.TheVariants as fault
use Rattle.ckc_syntax.specs.Spelled.{Spelled}
use Rattle.ckc_grammar.specs.Text.{FirstFault, syntax_error}
use Rattle.ckc_parser_grammar.specs.declared.parts.Stop.{Stop}
use Rattle.ckc_parser_grammar.specs.declared.parts.Stop.TheVariants as stop
use Rattle.ckc_parser_grammar.specs.code.Grammar.{Symbol, n}
use Rattle.ckc_parser_grammar.specs.code.Derives.{Sign}
use Rattle.ckc_parser_grammar.specs.code.Reading.{kind_of}
use Rattle.ckc_parser_grammar.specs.code.Signs.{signs, signs_after}
use Rattle.ckc_parser_grammar.specs.code.Marked.{place_of}
use Rattle.ckc_parser_grammar.specs.code.Text.{start}
use Rattle.ckc_parser_grammar.specs.code.Trace.{Event, events, values_of, tokens_in}
use Rattle.ckc_parser_trace.specs.code.Turns.{turn}
use Rattle.ckc_parser_trace.specs.code.Runs.{tokens_of, Lays, done, TakesOne, Runs, Traces, Ends, IsFaultOf, Steps, Recognises}
use Rattle.ckc_parser_trace.proofs.Running.{begin, stopped, emptied}
use Rattle.ckc_parser_trace.proofs.Top.{more_answer, stop_answer}

tokens_after : (x : Spelled) (xs : List Spelled) → tokens_of (signs_after x xs) ≡ xs
tokens_after x [] = refl
tokens_after x (y ∷ ys) = ap (λ z. y ∷ z) (tokens_after y ys)

tokens_are : (xs : List Spelled) → tokens_of (signs xs) ≡ xs
tokens_are [] = refl
tokens_are (x ∷ xs) = ap (λ z. x ∷ z) (tokens_after x xs)

length_of : (a : List Sign) → length (tokens_of a) ≡ length a
length_of [] = refl
length_of (x ∷ a) = ap suc (length_of a)

whole_of : (xs : List Spelled) (bytes : List ℕ) → TakesOne (n start) (signs xs) (events bytes) [] → Traces xs bytes
whole_of xs bytes o = record {
  value = o.value;
  takes = o.takes;
  makes = ap (λ z. values_of z xs []) (sym (append-nil (events bytes))) ∙ ap (λ z. values_of (events bytes ++ []) z []) (sym (tokens_are xs)) ∙ o.makes [] [];
  counts = sym (add-zero (tokens_in (events bytes))) ∙ o.counts ∙ sym (length_of (signs xs)) ∙ ap length (tokens_are xs);
  lays = subst (λ z. Lays (n start ∷ []) z xs []) (append-nil (events bytes)) (subst (λ z. Lays (n start ∷ []) (events bytes ++ []) z []) (tokens_are xs) (o.lays [] [] [] done));
}

pub started : (xs : List Spelled) (a : List Sign) → a ≡ signs xs → Runs (signs xs) (n start ∷ []) a []
started xs a e = subst (λ z. Runs (signs xs) (n start ∷ []) z []) (sym e) (begin (signs xs))

traced : (xs : List Spelled) (a : List Sign) (trace bytes : List ℕ) (ss : List Symbol) → Runs (signs xs) ss a (events trace) → ss ≡ [] → bytes ≡ trace → a ≡ [] → Traces xs bytes
traced xs a trace bytes ss q s w e =
    subst (λ z. Traces xs z) (sym w) (whole_of xs trace (subst (λ z. TakesOne (n start) (signs xs) (events trace) z) e (emptied (signs xs) a (events trace) (subst (λ z. Runs (signs xs) z a (events trace)) s q))))

left_over : (xs : List Spelled) (end : Pos) (a : List Sign) (es : List Event) (ss : List Symbol) (r : Refusal) → Runs (signs xs) ss a es → ss ≡ [] → r.code ≡ syntax_error → r.pos ≡ place_of a end → (a ≡ [] → ⊥) → FirstFault xs end r
left_over xs end a es ss r q s c k h =
    let o = emptied (signs xs) a es (subst (λ z. Runs (signs xs) z a es) s q) in
    (c, more_answer xs end o.value (signs xs) a r.pos refl o.takes h k)

refused : (xs : List Spelled) (end : Pos) (s : Symbol) (ss ts : List Symbol) (a b : List Sign) (es : List Event) (r : Refusal) → Runs (signs xs) ts a es → ts ≡ s ∷ ss → turn s (kind_of a) ≡ None → b ≡ a → r.code ≡ syntax_error → r.pos ≡ place_of b end → FirstFault xs end r
refused xs end s ss ts a b es r q w e same c k =
    (c, stop_answer xs end (signs xs) a r.pos refl (stopped (signs xs) s ss a es (subst (λ z. Runs (signs xs) z a es) w q) e) (k ∙ ap (λ z. place_of z end) same))

pub ended_answer : (xs : List Spelled) (end : Pos) (a : List Sign) (trace : List ℕ) (ss : List Symbol) (r : Result (List ℕ) Fault) → Runs (signs xs) ss a (events trace) → ss ≡ [] → Ends a end trace r → Recognises xs end r
ended_answer xs end a trace ss (Ok x) q s e = traced xs a trace x ss q s e.0 e.1
ended_answer xs end a trace ss (Err (fault.Refused r)) q s e = left_over xs end a (events trace) ss r q s e.0 e.1 e.2
ended_answer xs end a trace ss (Err fault.Memory) q s e = tt

pub stopped_answer : (xs : List Spelled) (end : Pos) (s : Symbol) (ss ts us : List Symbol) (a b : List Sign) (es fs : List Event) (w : Stop) (f : Fault) → Runs (signs xs) ts a es → ts ≡ s ∷ ss →
    Steps s a ss es (Err w) b us fs → IsFaultOf w b end f → Recognises xs end (Err f)
stopped_answer xs end s ss ts us a b es fs stop.Syntax (fault.Refused r) q e h k = refused xs end s ss ts a b es r q e h.0 h.1 k.0 k.1
stopped_answer xs end s ss ts us a b es fs stop.Syntax fault.Memory q e h k = absurd k
stopped_answer xs end s ss ts us a b es fs stop.Memory (fault.Refused r) q e h k = absurd k
stopped_answer xs end s ss ts us a b es fs stop.Memory fault.Memory q e h k = tt

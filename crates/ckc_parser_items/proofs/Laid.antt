-- What a trace plays on the stacks is what is held for the values that it makes.
use Rattle.std.proofs.Common.{◌≡◌, ℕ, suc, length, List, [], ◌∷◌, ◌++◌, refl, sym, ap, subst, ◌∙◌, append_assoc}
use Rattle.ckc_syntax.specs.Spelled.{Spelled}
use Rattle.ckc_parser_grammar.specs.code.Grammar.{Part, Symbol, t, n, Rule, left, right}
use Rattle.ckc_parser_grammar.specs.code.Values.{Value, token, made}
use Rattle.ckc_parser_grammar.specs.code.Trace.{Event, opened, closed, values_of}
use Rattle.ckc_parser_trace.specs.code.Runs.{Lays}
use Rattle.ckc_parser_trace.specs.code.Runs as L
use Rattle.ckc_parser_trace.proofs.Running.{closed_of}
use Rattle.ckc_parser_values.specs.declared.held.Held.{Held}
use Rattle.ckc_parser_values.specs.code.Kept.{Kept, KeptAll, worth, worths, put, put_all, put_one, worth_of, close}
use Rattle.ckc_parser_values.specs.code.Programs.{run, program, played}
use Rattle.ckc_parser_values.proofs.Plays.{makes, plays}

-- what is held for symbols, by the events that stand for them
pub record Laid (ss : List Symbol) (es : List Event) (xs : List Spelled) : Type 0 where
  pub kept : KeptAll ss
  pub values : (vs : List Value) → values_of es xs vs ≡ worths ss kept ++ vs
  pub stacks : (w : Held) → played es xs w ≡ put_all ss kept w

-- what is held for two lists of symbols, in two
record Halves (ss ts : List Symbol) (kept : KeptAll (ss ++ ts)) : Type 0 where
  front : KeptAll ss
  back : KeptAll ts
  values : worths (ss ++ ts) kept ≡ worths ss front ++ worths ts back
  stacks : (w : Held) → put_all (ss ++ ts) kept w ≡ put_all ss front (put_all ts back w)

halves : (ss ts : List Symbol) (kept : KeptAll (ss ++ ts)) → Halves ss ts kept
halves [] ts kept = record { front = tt; back = kept; values = refl; stacks = λ w. refl }
halves (s ∷ ss) ts kept =
    let h = halves ss ts kept.1 in
    record { front = (kept.0, h.front); back = h.back; values = ap (λ z. worth_of s kept.0 ∷ z) h.values; stacks = λ w. ap (λ z. put_one s kept.0 z) (h.stacks w) }

as_many : (ss : List Symbol) (kept : KeptAll ss) → length (worths ss kept) ≡ length ss
as_many [] kept = refl
as_many (s ∷ ss) kept = ap suc (as_many ss kept.1)

laid_by : (r : Rule) (ss : List Symbol) (es : List Event) (xs : List Spelled) → Laid (right r ++ ss) es xs → Laid (n (left r) ∷ ss) (opened r ∷ es) xs
laid_by r ss es xs q =
    let h = halves (right r) ss q.kept in record {
      kept = (close r h.front, h.back);
      values = λ vs.
          ap (λ z. closed r z) (q.values vs ∙ ap (λ z. z ++ vs) h.values ∙ append_assoc (worths (right r) h.front) (worths ss h.back) vs)
          ∙ closed_of r (worths (right r) h.front) (worths ss h.back ++ vs) (as_many (right r) h.front)
          ∙ ap (λ z. z ∷ (worths ss h.back ++ vs)) (makes r h.front);
      stacks = λ w. ap (λ z. run (program r) z) (q.stacks w ∙ h.stacks w) ∙ plays r h.front (put_all ss h.back w);
    }

pub laid : {ss : List Symbol} {es : List Event} {xs ys : List Spelled} → Lays ss es xs ys → Laid ss es xs
laid L.done = record { kept = tt; values = λ vs. refl; stacks = λ w. refl }
laid (L.read {c = c} {x = x} d) =
    let q = laid d in
    record { kept = (x, q.kept); values = λ vs. ap (λ z. token x ∷ z) (q.values vs); stacks = λ w. ap (λ z. put_one (t c) x z) (q.stacks w) }
laid (L.by {ss = ss} {es = es} {xs = xs} r e d) = subst (λ p. Laid (n p ∷ ss) (opened r ∷ es) xs) e (laid_by r ss es xs (laid d))

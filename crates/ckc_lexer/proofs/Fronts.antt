-- Fronts of a text: the longest one that is spelled in some way, and runs of bytes.
use Rattle.std.proofs.Common.{◌≡◌, ℕ, ◌<◌, ◌≤◌, Bool, true, List, length, take, get_or, sym, ap, ◌∙◌, ⊎_elim, arith, length-take-le, get_or-take}
use Rattle.std.proofs.lemmas.Bool.{false≢true, cases_order}
use Rattle.ckc_syntax.specs.Bytes.{AllBytes}
use Rattle.ckc_syntax.specs.Longest.{Longest}
use Rattle.ckc_lexer.specs.code.Longest.{IsRun}

-- a run passes the test
pub run_all : {test : ℕ → Bool} {text : List ℕ} {n : ℕ} → IsRun test text n → AllBytes test (take n text)
run_all {test} {text} {n} run k h =
    let e = length-take-le n text run.within in
    let lt : k < n = omega arith in
    ap test (get_or-take n text k 0 lt) ∙ run.inside k lt

-- no longer front does
pub run_stops : {test : ℕ → Bool} {text : List ℕ} {n : ℕ} (m : ℕ) → IsRun test text n → n < m → m ≤ length text → AllBytes test (take m text) → ⊥
run_stops {test} {text} {n} m run lt le all =
    let e = length-take-le m text le in
    false≢true (sym (run.after (omega arith)) ∙ (sym (ap test (get_or-take m text n 0 lt)) ∙ all n (omega arith)))

-- a run that begins with a byte that passes is not empty
pub run_some : {test : ℕ → Bool} {text : List ℕ} {n : ℕ} → IsRun test text n → 0 < length text → test (get_or text 0 0) ≡ true → 0 < n
run_some {test} {text} {n} run some first = ⊎_elim
    (λ e. absurd (let none : n ≡ 0 = e in false≢true (sym (run.after (omega arith)) ∙ (ap (λ i. test (get_or text i 0)) none ∙ first))))
    (⊎_elim (λ lt. absurd (let k : n < 0 = lt in omega arith)) (λ gt. gt))
    (cases_order n 0)

-- the longest front that passes a test spells what it spells
pub run_longest : {A : Type 0} (test : ℕ → Bool) (P : List ℕ → A → Type 0) {text : List ℕ} {n : ℕ} {a : A} → IsRun test text n → 0 < length text → test (get_or text 0 0) ≡ true → P (take n text) a → Longest (λ w x. AllBytes test w × P w x) text n a
run_longest test P run some first s = record {
  some = run_some run some first;
  within = run.within;
  spelled = (run_all run, s);
  longest = λ m other lt le t. run_stops m run lt le t.0;
}

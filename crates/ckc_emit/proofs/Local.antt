-- The states of a machine that runs emitted code: registers and memory as functions of numbers. The data region is
-- seen by bytes, the stack by words.
use Rattle.std.proofs.Common.{◌≡◌, ◌≢◌, ℕ, zero, suc, ◌*◌, ◌/◌, ◌%◌, ◌≤◌, ◌<◌, ◌==◌, nat_lt, if◌then◌else◌, List, [], ◌∷◌, Some, None, refl, sym, ap, ◌∙◌, arith}
use Rattle.std.specs.Prelude.{slice_index, slice_set, replicate}
use Rattle.std.specs.Int.{byte_at}
use Rattle.std.proofs.lemmas.Bool.Decides.{nat_tests}
use Rattle.ckc_rv.specs.Machine.{Parts, Memory, State, flat, data_start, stack_start, memory_end}

-- ---- functions and lists

-- the function with another value at a number
unfoldable pub changed : (ℕ → ℕ) → ℕ → ℕ → ℕ → ℕ
changed f a v q = if q == a then v else f q

pub changed_same : (f : ℕ → ℕ) (a v q : ℕ) → q ≡ a → changed f a v q ≡ v
unfolding changed
changed_same f a v q e = grind (arith, nat_tests)

pub changed_other : (f : ℕ → ℕ) (a v q : ℕ) → q ≢ a → changed f a v q ≡ f q
unfolding changed
changed_other f a v q e = grind (arith, nat_tests)

-- the first n values of a function
unfoldable pub table : ℕ → (ℕ → ℕ) → List ℕ
table zero f = []
table (suc n) f = f 0 ∷ table n (λ r. f (suc r))

pub table_at : (n : ℕ) (f : ℕ → ℕ) (r : ℕ) → r < n → slice_index (table n f) r ≡ f r
unfolding table
table_at zero f r h = absurd (omega arith)
table_at (suc n) f zero h = refl
table_at (suc n) f (suc r) h = table_at n (λ r. f (suc r)) r (omega arith)

table_same : (n : ℕ) (f g : ℕ → ℕ) → ((r : ℕ) → r < n → f r ≡ g r) → table n f ≡ table n g
unfolding table
table_same zero f g h = refl
table_same (suc n) f g h =
    ap (λ v. v ∷ table n (λ r. f (suc r))) (h 0 (omega arith))
    ∙ ap (λ l. g 0 ∷ l) (table_same n (λ r. f (suc r)) (λ r. g (suc r)) (λ r k. h (suc r) (omega arith)))

suc_apart : (r q : ℕ) → q ≢ r → suc q ≢ suc r
suc_apart r q h e = h (omega arith)

changed_suc : (f : ℕ → ℕ) (r v q : ℕ) → changed (λ k. f (suc k)) r v q ≡ changed f (suc r) v (suc q)
unfolding changed
changed_suc f r v q = grind (arith, nat_tests)

pub table_set : (n : ℕ) (f : ℕ → ℕ) (r v : ℕ) → r < n → slice_set (table n f) r v ≡ table n (changed f r v)
unfolding table
table_set zero f r v h = absurd (omega arith)
table_set (suc n) f zero v h =
    ap (λ x. x ∷ table n (λ r. f (suc r))) (sym (changed_same f 0 v 0 refl))
    ∙ ap (λ l. changed f 0 v 0 ∷ l) (table_same n (λ r. f (suc r)) (λ r. changed f 0 v (suc r)) (λ r k. sym (changed_other f 0 v (suc r) (omega arith))))
table_set (suc n) f (suc r) v h =
    ap (λ l. f 0 ∷ l) (table_set n (λ r. f (suc r)) r v (omega arith) ∙ table_same n (changed (λ k. f (suc k)) r v) (λ k. changed f (suc r) v (suc k)) (λ k _. changed_suc f r v k))
    ∙ ap (λ x. x ∷ table n (λ k. changed f (suc r) v (suc k))) (sym (changed_other f (suc r) v 0 (omega arith)))

pub table_zeros : (n : ℕ) → replicate n 0 ≡ table n (λ r. 0)
unfolding table
table_zeros zero = refl
table_zeros (suc n) = ap (λ l. 0 ∷ l) (table_zeros n)

-- ---- states

-- the registers, the bytes of the data region, the words of the stack, and what is left of the input
pub record Local : Type 0 where
  pub x : ℕ → ℕ
  pub bytes : ℕ → ℕ
  pub words : ℕ → ℕ
  pub input : List ℕ

unfoldable pub memory_of : Parts → (ℕ → ℕ) → (ℕ → ℕ) → Memory
memory_of parts bytes words q =
    if nat_lt q data_start then flat parts q
    else if nat_lt q stack_start then Some (bytes q)
    else if nat_lt q memory_end then Some (byte_at (q % 4) (words (q / 4 * 4)))
    else None

abbrev pub state_of : Parts → Local → ℕ → State
state_of parts l pc = record { x = table 32 l.x; pc = pc; memory = memory_of parts l.bytes l.words; input = l.input }

module _ (parts : Parts) (bytes words : ℕ → ℕ) where
  pub memory_below : (q : ℕ) → q < data_start → memory_of parts bytes words q ≡ flat parts q
  unfolding memory_of
  memory_below q h = grind (arith, nat_tests)

  pub memory_data : (q : ℕ) → data_start ≤ q → q < stack_start → memory_of parts bytes words q ≡ Some (bytes q)
  unfolding memory_of
  memory_data q h k = grind (arith, nat_tests)

  pub memory_stack : (q : ℕ) → stack_start ≤ q → q < memory_end → memory_of parts bytes words q ≡ Some (byte_at (q % 4) (words (q / 4 * 4)))
  unfolding memory_of
  memory_stack q h k = grind (arith, nat_tests)

  pub memory_above : (q : ℕ) → memory_end ≤ q → memory_of parts bytes words q ≡ None
  unfolding memory_of
  memory_above q h = grind (arith, nat_tests)

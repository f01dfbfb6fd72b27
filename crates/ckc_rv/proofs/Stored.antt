-- What a memory has after a store.
use Rattle.std.proofs.Common.{◌≡◌, ◌≢◌, ◌⊎◌, inl, inr, ℕ, zero, suc, ◌+◌, ◌/◌, ◌%◌, ◌≤◌, ◌<◌, Some, refl, ap, ◌∙◌, arith}
use Rattle.std.specs.Int.{byte_at}
use Rattle.std.proofs.lemmas.Bool.Decides.{nat_tests}
use Rattle.ckc_rv.specs.Machine.{Memory, stored, with_byte}

pub with_byte_same : (m : Memory) (a byte q : ℕ) → q ≡ a → with_byte m a byte q ≡ Some byte
unfolding with_byte
with_byte_same m a byte q e = grind (arith, nat_tests)

pub with_byte_other : (m : Memory) (a byte q : ℕ) → q ≢ a → with_byte m a byte q ≡ m q
unfolding with_byte
with_byte_other m a byte q e = grind (arith, nat_tests)

byte_next : (value i : ℕ) → i < 3 → byte_at i (value / 256) ≡ byte_at (suc i) value
byte_next value zero h = omega arith
byte_next value (suc zero) h = omega arith
byte_next value (suc (suc zero)) h = omega arith
byte_next value (suc (suc (suc i))) h = absurd (omega arith)

pub stored_inside : (n : ℕ) (m : Memory) (a value i : ℕ) → n ≤ 4 → i < n → stored m n a value (a + i) ≡ Some (byte_at i value)
unfolding stored
stored_inside zero m a value i fits h = absurd (omega arith)
stored_inside (suc n) m a value zero fits h = with_byte_same (stored m n (a + 1) (value / 256)) a (value % 256) (a + 0) (omega arith)
stored_inside (suc n) m a value (suc i) fits h =
    let on : a + suc i ≡ a + 1 + i = omega arith in
    with_byte_other (stored m n (a + 1) (value / 256)) a (value % 256) (a + suc i) (omega arith)
    ∙ ap (stored m n (a + 1) (value / 256)) on ∙ stored_inside n m (a + 1) (value / 256) i (omega arith) (omega arith) ∙ ap Some (byte_next value i (omega arith))

pub stored_outside : (n : ℕ) (m : Memory) (a value q : ℕ) → (q < a) ⊎ (a + n ≤ q) → stored m n a value q ≡ m q
unfolding stored
stored_outside zero m a value q o = refl
stored_outside (suc n) m a value q o =
    let apart : q ≢ a = elim o as (λ _. q ≢ a) [ inl p ↦ omega arith | inr p ↦ omega arith ] in
    let later : (q < a + 1) ⊎ (a + 1 + n ≤ q) = elim o as (λ _. (q < a + 1) ⊎ (a + 1 + n ≤ q)) [ inl p ↦ inl (omega arith) | inr p ↦ inr (omega arith) ] in
    with_byte_other (stored m n (a + 1) (value / 256)) a (value % 256) q apart ∙ stored_outside n m (a + 1) (value / 256) q later

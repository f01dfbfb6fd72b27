-- Cases of tests and of two numbers.
use Rattle.std.proofs.Common.{◌≡◌, ℕ, ◌+◌, ◌<◌, Bool, true, false, refl, ◌⊎◌, inl, inr, ⊎_elim, arith}
use Rattle.std.proofs.lemmas.Bool.{cases_lt}

pub bool_cases : (b : Bool) → (b ≡ true) ⊎ (b ≡ false)
bool_cases true = inl refl
bool_cases false = inr refl

pub last_or_before : (j k : ℕ) → j < k + 1 → (j < k) ⊎ (j ≡ k)
last_or_before j k h = ⊎_elim (λ l. inl l) (λ g. inr (omega arith)) (cases_lt j k)

-- one is less than the other, or they are equal
pub order : (j k : ℕ) → (j < k) ⊎ ((k < j) ⊎ (j ≡ k))
order j k = ⊎_elim (λ l. inl l) (λ g. inr (⊎_elim (λ l. inl l) (λ h. inr (omega arith)) (cases_lt k j))) (cases_lt j k)

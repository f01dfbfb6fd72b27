-- A comparison is decided in one of three ways.
use Rattle.std.proofs.Common.{◌⊎◌, inl, inr, Bool, true, false, Result}
use Rattle.std.specs.Prelude.{IfOk}
use Rattle.std.specs.Bool.{MatchBool}
use Rattle.std.proofs.lemmas.Result.{IfOk-weaker}

module _ (A F W : Type 0) (never : A → ⊥) (lost : F) where
  abbrev Decided : Type 0
  Decided = A ⊎ ((F → ⊥) ⊎ W)

  neither : (W → ⊥) → Decided → ⊥
  neither without (inl a) = never a
  neither without (inr (inl kept)) = kept lost
  neither without (inr (inr w)) = without w

  third : (within : Bool) → MatchBool within W (W → ⊥) → MatchBool within Decided (Decided → ⊥)
  third true w = inr (inr w)
  third false without = neither without

  -- the first two do not decide it, so the third answers
  pub by_third : {E : Type 0} (answer : Result Bool E) → IfOk answer (λ within. MatchBool within W (W → ⊥))
      → IfOk answer (λ decided. MatchBool decided (A ⊎ ((F → ⊥) ⊎ W)) ((A ⊎ ((F → ⊥) ⊎ W)) → ⊥))
  by_third answer h = IfOk-weaker answer (λ within. MatchBool within W (W → ⊥)) (λ decided. MatchBool decided Decided (Decided → ⊥)) third h

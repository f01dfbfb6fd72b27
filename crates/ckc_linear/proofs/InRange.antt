-- What keeps facts in range.
use Rattle.std.proofs.Common.{◌≡◌, ℕ, ℤ, ◌^◌, List, [], ◌∷◌, ◌++◌, map}
use Rattle.std.specs.Prelude.{Result, Ok, Err, OnOk, OnErr}
use Rattle.std.specs.List.{All}
use Rattle.std.proofs.lemmas.List.Elements.{All-map, All-push, All-same}
use Rattle.ckc_linear.specs.declared.facts.Fact.{Fact}
use Rattle.ckc_linear.specs.Facts.{IsInRange, IsWithin, shifted}

-- one more fact, or the same ones if there is no memory
pub added_in_range : {E : Type 0} (vars : ℕ) (r : Result (Unit {0}) E) (before after : List Fact) (f : Fact) → All (IsInRange vars) before → IsInRange vars f →
    OnOk r (after ≡ before ++ f ∷ []) → OnErr r (after ≡ before) → All (IsInRange vars) after
added_in_range vars (Ok u) before after f all one ok err = All-same (IsInRange vars) after _ ok (All-push (IsInRange vars) before f all one)
added_in_range vars (Err e) before after f all one ok err = All-same (IsInRange vars) after before err all

-- a shift leaves the variables of a fact
pub shifted_in_range : (vars x : ℕ) (c : ℤ) (facts : List Fact) → All (IsInRange vars) facts →
    All (λ f. IsWithin (2 ^ 50) (shifted x c f).c) facts → All (IsInRange vars) (map (shifted x c) facts)
shifted_in_range vars x c facts before after =
    let each : All (λ f. IsInRange vars (shifted x c f)) facts =
    λ k d h. record { left = (before k d h).left; right = (before k d h).right; number = after k d h } in
    All-map (IsInRange vars) (shifted x c) facts each

-- Facts that stay small.
use Rattle.std.proofs.Common.{◌≡◌, ℕ, ◌^◌, List, ℤ, pos, neg_ℤ, true, subst, sym}
use Rattle.std.specs.Prelude.{int_le}
use Rattle.std.specs.List.{All, filter}
use Rattle.std.proofs.lemmas.List.Elements.{filter_passes}
use Rattle.ckc_linear.specs.declared.facts.Fact.{Fact}
use Rattle.ckc_linear.specs.Facts.{IsWithin, shifted}
use Rattle.ckc_bounds_known.specs.Shown.{is_within}
use Rattle.ckc_bounds_points.specs.Flow.{stays_small}
use Rattle.ckc_bounds_known.proofs.Reaching.{and_cases, most_by}

pub within_by : (limit : ℕ) (n : ℤ) → is_within limit n ≡ true → IsWithin limit n
within_by limit n h =
    let both = and_cases (int_le (neg_ℤ (pos limit)) n) (int_le n (pos limit)) h in
    record { low = most_by (neg_ℤ (pos limit)) n both.0; high = most_by n (pos limit) both.1 }

-- what is kept stays small if it is shifted
pub kept_small : (x : ℕ) (c d : ℤ) (before after : List Fact) → after ≡ filter (stays_small x c) before → c ≡ d →
    All (λ f. IsWithin (2 ^ 50) (shifted x d f).c) after
kept_small x c d before after is same =
    let passes : All (λ f. stays_small x c f ≡ true) (filter (stays_small x c) before) = filter_passes (stays_small x c) before in
    let each : All (λ f. IsWithin (2 ^ 50) (shifted x c f).c) (filter (stays_small x c) before) =
    λ k f h. within_by (2 ^ 50) _ (and_cases _ _ (passes k f h)).1 in
    subst (λ e. All (λ f. IsWithin (2 ^ 50) (shifted x e f).c) after) same (subst (λ fs. All (λ f. IsWithin (2 ^ 50) (shifted x c f).c) fs) (sym is) each)

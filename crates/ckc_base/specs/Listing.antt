use Rattle.std.specs.Prelude.{◌≡◌, ℕ, ◌+◌, ◌≤◌, ◌<◌, List, ◌++◌, All, flat_map}
use Rattle.ckc_base.specs.Follows.{IsPrefix}
use Rattle.ckc_base.specs.Steps.{System, meaning}
use Rattle.ckc_base.specs.States.{state_at}

-- what a system has seen done after n steps, where f gives what is seen of an event
abbrev pub seen_trace : {E G S : Type 0} → (E → List G) → System E S → S → ℕ → List G
seen_trace f a s n = flat_map f (meaning a s n).trace

-- The step i of the lower run b stands at the step n of the upper run a: all that is seen at n is seen at i, all that
-- is seen at i is seen by the upper step after n, and the lower state stands beside the upper one.
pub record StandsAt {E F G S T : Type 0} (a : System E S) (b : System F T) (f : E → List G) (g : F → List G) (Beside : S → T → Type 0)
    (s : S) (t : T) (i n : ℕ) : Type 0 where
  pub reached : IsPrefix (seen_trace f a s n) (seen_trace g b t i)
  pub not_passed : IsPrefix (seen_trace g b t i) (seen_trace f a s (n + 1))
  pub beside : Beside (state_at a s n) (state_at b t i)

-- A list of k + 1 step numbers of the upper run a that never falls, the number `at i` for each step i from 0 to k of
-- the lower run b: step i of b stands at it, and each event of step i + 1 of b is allowed in the upper state there.
pub record Listing {E F G S T : Type 0} (a : System E S) (b : System F T) (f : E → List G) (g : F → List G)
    (May : S → F → Type 0) (Beside : S → T → Type 0) (s : S) (t : T) (k : ℕ) : Type 0 where
  pub at : ℕ → ℕ
  pub never_falls : (i : ℕ) → i < k → at i ≤ at (i + 1)
  pub stands : (i : ℕ) → i ≤ k → StandsAt a b f g Beside s t i (at i)
  pub allowed : (i : ℕ) → i < k → (new : List F) → (meaning b t (i + 1)).trace ≡ (meaning b t i).trace ++ new → All (May (state_at a s (at i))) new

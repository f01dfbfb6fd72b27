-- What tables tell of the ways of passing blocks.
use Rattle.std.specs.Prelude.{◌≡◌, ◌⊎◌, ◌<◌, ℕ, zero, suc, List, length, get_or, slice_get, Option, Some, None}
use Rattle.ckc_tac.specs.declared.code.TacBlock.{TacBlock}
use Rattle.ckc_passes_jumps.specs.Jumps.{passes_to, Leads}

-- The way from the block b passes so many blocks and ends at the block c.
abbrev pub Way : List TacBlock → (n b c : ℕ) → Type 0
Way blocks zero b c = (block : TacBlock) × (slice_get blocks b ≡ Some block) × (passes_to block ≡ None) × (b ≡ c)
Way blocks (suc n) b c =
    (block : TacBlock) × (to : ℕ) × (slice_get blocks b ≡ Some block) × (passes_to block ≡ Some to) × Way blocks n to c

-- where the way from a block ends, or that it does not
abbrev pub IsAnswer : List TacBlock → ℕ → Option ℕ → Type 0
IsAnswer blocks b (Some c) = Leads blocks b c
IsAnswer blocks b None = (c : ℕ) → Leads blocks b c → ⊥

-- The walk that came to a block is one of those before, and its end is the end of the way from the block.
pub record IsBefore (blocks : List TacBlock) (ends : List (Option ℕ)) (b w : ℕ) : Type 0 where
  pub before : w < length ends
  pub answer : IsAnswer blocks b (get_or ends w None)

-- That is so of each block that a walk came to.
pub record AreRight (blocks : List TacBlock) (walks : List (Option ℕ)) (ends : List (Option ℕ)) : Type 0 where
  pub long : length walks ≡ length blocks
  pub right : (p w : ℕ) → get_or walks p None ≡ Some w → IsBefore blocks ends p w

-- and after one more walk, from this block, with this end
pub record IsWalked (blocks : List TacBlock) (b : ℕ) (walks : List (Option ℕ)) (ends : List (Option ℕ)) (end : Option ℕ) : Type 0 where
  pub long : length walks ≡ length blocks
  pub right : (p w : ℕ) → get_or walks p None ≡ Some w → IsBefore blocks ends p w ⊎ ((w ≡ length ends) × IsAnswer blocks p end)
  pub answer : IsAnswer blocks b end

-- A walk that came to the block p stands at the block `at` now: their ways end alike, and that from `at` is shorter.
pub record IsOnWay (blocks : List TacBlock) (p at : ℕ) : Type 0 where
  pub back : (c : ℕ) → Leads blocks at c → Leads blocks p c
  pub less : (n c : ℕ) → Way blocks n p c → (m : ℕ) × (m < n) × Way blocks m at c

-- in the middle of a walk from the block b, at the block `at`
pub record IsWalking (blocks : List TacBlock) (b at : ℕ) (walks : List (Option ℕ)) (ends : List (Option ℕ)) : Type 0 where
  pub long : length walks ≡ length blocks
  pub right : (p w : ℕ) → get_or walks p None ≡ Some w → IsBefore blocks ends p w ⊎ ((w ≡ length ends) × IsOnWay blocks p at)
  pub back : (c : ℕ) → Leads blocks at c → Leads blocks b c
  pub on : (c : ℕ) → Leads blocks b c → Leads blocks at c

-- how many blocks no walk came to
abbrev pub blank : Option ℕ → ℕ
blank (Some w) = 0
blank None = 1

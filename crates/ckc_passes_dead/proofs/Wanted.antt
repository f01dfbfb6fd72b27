-- What is wanted in front of operations is live in the code as it was, and is what is live in what is left of them.
use Rattle.std.proofs.Common.{◌≡◌, ◌≢◌, inl, inr, ℕ, true, List, [], ◌∷◌, Some, sym, subst, ◌∙◌}
use Rattle.ckc_tac.specs.declared.code.TacBlock.{TacBlock}
use Rattle.ckc_tac.specs.declared.code.TacEnd.{TacEnd}
use Rattle.ckc_tac.specs.declared.code.TacOp.{TacOp}
use Rattle.ckc_tac.specs.declared.code.TacOp.TheVariants.{Const, Copy, Bin, High, Load, Store, Check, Call, Get, Put, Alloc}
use Rattle.ckc_flow.specs.Live.{IsLive, read_here, read_later, target_of, reads}
use Rattle.ckc_passes.specs.Passes.{Becomes, ended, kept, dropped}
use Rattle.ckc_passes_dead.specs.Dead.{plain_target, IsUnwanted, IsWantedBefore, IsWanted, IsDead, dead_pass}

-- the register of a plain operation is its target
pub plain_is_target : (op : TacOp) (t : ℕ) → plain_target op ≡ Some t → target_of op ≡ Some t
plain_is_target (Const q n) t e = e
plain_is_target (Copy q a) t e = e
plain_is_target (Bin op q a b) t e = e
plain_is_target (High is_signed q a b) t e = e
plain_is_target (Load width q a n) t e = absurd cc
plain_is_target (Store width a n b) t e = absurd cc
plain_is_target (Check check at comparison a b) t e = absurd cc
plain_is_target (Call target callee arguments at) t e = absurd cc
plain_is_target (Get q) t e = absurd cc
plain_is_target (Put a) t e = absurd cc
plain_is_target (Alloc q a size) t e = absurd cc

pub same_some : (t r : ℕ) → Some t ≡ Some r → t ≡ r
same_some t r e = cc

-- a register that is wanted after an operation which is not is not the target of that
pub apart_from_target : (Wanted : ℕ → Type 0) (op : TacOp) (r : ℕ) → IsUnwanted Wanted op → Wanted r → target_of op ≢ Some r
apart_from_target Wanted op r (t, plain, unwanted) wanted e =
    unwanted (subst Wanted (same_some r t (sym e ∙ plain_is_target op t plain)) wanted)

module _ (blocks : List TacBlock) where
  live_before : (end : TacEnd) (ops : List TacOp) (op : TacOp) (r : ℕ) → ((q : ℕ) → IsWanted blocks end ops q → IsLive blocks q ops end)
      → IsWantedBefore (IsWanted blocks end ops) op r → IsLive blocks r (op ∷ ops) end
  live_before end ops op r h (inl (dead, wanted)) = read_later (apart_from_target (IsWanted blocks end ops) op r dead wanted) (h r wanted)
  live_before end ops op r h (inr (alive, inl read)) = read_here read
  live_before end ops op r h (inr (alive, inr (apart, wanted))) = read_later apart (h r wanted)

  -- what is wanted is live in the code as it was
  pub wanted_is_live : (end : TacEnd) (ops : List TacOp) (r : ℕ) → IsWanted blocks end ops r → IsLive blocks r ops end
  wanted_is_live end [] r wanted = wanted
  wanted_is_live end (op ∷ ops) r wanted = live_before end ops op r (λ q. wanted_is_live end ops q) wanted

  -- ---- what is left

  kept_live : (end : TacEnd) (ops left : List TacOp) (op low : TacOp) (r : ℕ) → low ≡ op → (IsDead blocks end ops op → ⊥)
      → (IsWanted blocks end ops r → IsLive blocks r left end) → IsWantedBefore (IsWanted blocks end ops) op r → IsLive blocks r (low ∷ left) end
  kept_live end ops left op low r e alive h (inl (dead, wanted)) = absurd (alive dead)
  kept_live end ops left op low r e alive h (inr (too, inl read)) = read_here (subst (λ o. reads r o ≡ true) (sym e) read)
  kept_live end ops left op low r e alive h (inr (too, inr (apart, wanted))) =
      read_later (subst (λ o. target_of o ≢ Some r) (sym e) apart) (h wanted)

  dropped_live : (end : TacEnd) (ops left : List TacOp) (op : TacOp) (r : ℕ) → IsDead blocks end ops op
      → (IsWanted blocks end ops r → IsLive blocks r left end) → IsWantedBefore (IsWanted blocks end ops) op r → IsLive blocks r left end
  dropped_live end ops left op r dead h (inl (too, wanted)) = h wanted
  dropped_live end ops left op r dead h (inr (alive, wanted)) = absurd (alive dead)

  kept_wanted : (end : TacEnd) (ops left : List TacOp) (op low : TacOp) (r : ℕ) → low ≡ op → (IsDead blocks end ops op → ⊥)
      → (IsLive blocks r left end → IsWanted blocks end ops r) → IsLive blocks r (low ∷ left) end → IsWantedBefore (IsWanted blocks end ops) op r
  kept_wanted end ops left op low r e alive h (read_here read) = inr (alive, inl (subst (λ o. reads r o ≡ true) e read))
  kept_wanted end ops left op low r e alive h (read_later apart live) =
      inr (alive, inr (subst (λ o. target_of o ≢ Some r) e apart, h live))

  -- what is wanted is live in what is left
  pub wanted_is_left : {done ops : List TacOp} {end : TacEnd} {left : List TacOp} {low_end : TacEnd}
      → Becomes dead_pass blocks done ops end left low_end → (r : ℕ) → IsWanted blocks end ops r → IsLive blocks r left end
  wanted_is_left (ended e) r wanted = wanted
  wanted_is_left (kept {ops = ops} {lower = lower} {op = op} {low = low} {end = end} k rest) r wanted =
      kept_live end ops lower op low r k.0 k.1 (wanted_is_left rest r) wanted
  wanted_is_left (dropped {ops = ops} {lower = lower} {op = op} {end = end} d rest) r wanted =
      dropped_live end ops lower op r d (wanted_is_left rest r) wanted

  -- and the other way round
  pub left_is_wanted : {done ops : List TacOp} {end : TacEnd} {left : List TacOp} {low_end : TacEnd}
      → Becomes dead_pass blocks done ops end left low_end → (r : ℕ) → IsLive blocks r left end → IsWanted blocks end ops r
  left_is_wanted (ended e) r live = live
  left_is_wanted (kept {ops = ops} {lower = lower} {op = op} {low = low} {end = end} k rest) r live =
      kept_wanted end ops lower op low r k.0 k.1 (left_is_wanted rest r) live
  left_is_wanted (dropped {ops = ops} {lower = lower} {op = op} {end = end} d rest) r live =
      inl (d, left_is_wanted rest r live)

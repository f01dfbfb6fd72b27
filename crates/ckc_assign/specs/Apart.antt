-- Which registers of a function must have places of their own, and which ones calls keep.
use Rattle.std.specs.Prelude.{◌≡◌, ◌≢◌, ◌↔◌, ℕ, ◌+◌, ◌<◌, true, false, List, ◌∷◌, ◌++◌, get_or, slice_get, sum_by, Option, Some}
use Rattle.ckc_base.specs.declared.places.Pos.{Pos}
use Rattle.ckc_tac.specs.declared.code.TacBlock.{TacBlock}
use Rattle.ckc_tac.specs.declared.code.TacFunc.{TacFunc}
use Rattle.ckc_tac.specs.declared.code.TacOp.{TacOp}
use Rattle.ckc_tac.specs.declared.code.TacOp.TheVariants.{Call}
use Rattle.ckc_flow.specs.Live.{IsLive, target_of}
use Rattle.ckc_frame.specs.declared.code.PlacedFunc.{PlacedFunc}
use Rattle.ckc_frame.specs.Meaning.{calls_in_front, is_call}
use Rattle.ckc_frame.specs.Places.{home, marks_of}

-- A place of the code: in the block with this number, after some of its operations and in front of the others.
pub record IsPoint (f : TacFunc) (b : ℕ) (block : TacBlock) (front ops : List TacOp) : Type 0 where
  pub there : slice_get f.blocks b ≡ Some block
  pub split : block.ops ≡ front ++ ops

-- Two registers have two places of the frame if both are live, if one is written and the other is live after
-- that, and if one is a parameter and the other is live at the entry.
pub record HasOwnPlaces (f : PlacedFunc) : Type 0 where
  pub live : (b : ℕ) (block : TacBlock) (front ops : List TacOp) (r q : ℕ) → IsPoint f.code b block front ops
      → r < f.code.regs → q < f.code.regs → r ≢ q → IsLive f.code.blocks r ops block.end → IsLive f.code.blocks q ops block.end
      → home f.homes r ≢ home f.homes q
  pub written : (b : ℕ) (block : TacBlock) (front ops : List TacOp) (op : TacOp) (t q : ℕ) → IsPoint f.code b block front (op ∷ ops)
      → t < f.code.regs → q < f.code.regs → t ≢ q → target_of op ≡ Some t → IsLive f.code.blocks q ops block.end
      → home f.homes t ≢ home f.homes q
  pub entered : (block : TacBlock) (r q : ℕ) → slice_get f.code.blocks 0 ≡ Some block
      → r < f.code.params → r < f.code.regs → q < f.code.regs → r ≢ q → IsLive f.code.blocks q block.ops block.end
      → home f.homes r ≢ home f.homes q

-- how many calls stand in front of a place, in the order of the code
abbrev pub calls_before : TacFunc → ℕ → List TacOp → ℕ
calls_before f b front = calls_in_front f.blocks b + sum_by is_call front

-- A call keeps exactly the registers that are live after it, its target apart.
pub record KeepsLive (f : PlacedFunc) : Type 0 where
  pub keeps : (b : ℕ) (block : TacBlock) (front ops : List TacOp) (target : Option ℕ) (callee : ℕ) (arguments : List ℕ) (at : Pos) (r : ℕ)
      → IsPoint f.code b block front (Call target callee arguments at ∷ ops) → r < f.code.regs
      → (get_or (marks_of (slice_get f.kept (calls_before f.code b front))) r false ≡ true)
      ↔ (IsLive f.code.blocks r ops block.end × (target ≢ Some r))

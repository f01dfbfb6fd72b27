-- States of the program as it was and of what the pass makes of it that stand beside one another.
use Rattle.std.specs.Prelude.{◌≡◌, ℕ, zero, suc, ◌+◌, List, [], length, slice_get, Option, Some, None}
use Rattle.std.specs.List.{AllZip}
use Rattle.ckc_tac.specs.declared.code.TacBlock.{TacBlock}
use Rattle.ckc_tac.specs.declared.code.TacOp.{TacOp}
use Rattle.ckc_tac.specs.declared.code.TacEnd.{TacEnd}
use Rattle.ckc_tac.specs.declared.code.TacEnd.TheVariants.{Jump}
use Rattle.ckc_tac.specs.Meaning.{Frame, Caller, State}
use Rattle.ckc_passes_jumps.specs.Jumps.{passed_on, passes_to, Leads, LeadsShort, IsReached, EndAfter, Left}

-- each block that an end leads to is reached
abbrev pub Reaches : List TacBlock → TacEnd → Type 0
Reaches blocks end = (c : ℕ) → LeadsShort blocks end c → IsReached blocks c

-- Operations that come next and the end of their block, above and below: the same ones; or above it passes on, on a way
-- to a block that is at its beginning below.
pub data Near (blocks : List TacBlock) : (ops : List TacOp) (end : TacEnd) (low_ops : List TacOp) (low_end : TacEnd) → Type 0 where
  standing : {ops low_ops : List TacOp} {end low_end : TacEnd} → low_ops ≡ ops → EndAfter blocks end low_end → Reaches blocks end
      → Near blocks ops end low_ops low_end
  walking : {ops low_ops : List TacOp} {end low_end : TacEnd} (to c : ℕ) (block : TacBlock) → ops ≡ [] → end ≡ Jump to
      → Leads blocks to c → IsReached blocks c → slice_get blocks c ≡ Some block → low_ops ≡ block.ops → EndAfter blocks block.end low_end
      → Near blocks ops end low_ops low_end

pub record FrameBeside (f g : Frame) : Type 0 where
  pub blocks : Left f.blocks 0 f.blocks g.blocks
  pub rest : Near f.blocks f.ops f.end g.ops g.end
  pub registers : g.registers ≡ f.registers

pub record CallerBeside (c d : Caller) : Type 0 where
  pub frame : FrameBeside c.frame d.frame
  pub target : d.target ≡ c.target

pub record Beside (s t : State) : Type 0 where
  pub frame : FrameBeside s.frame t.frame
  pub callers : AllZip CallerBeside s.callers t.callers
  pub world : t.world ≡ s.world

-- ---- how many blocks are passed before the next one that does not pass on, counted up to a number

abbrev pub next_at : Option TacBlock → Option ℕ
next_at (Some block) = passes_to block
next_at None = None

abbrev pub passings : List TacBlock → ℕ → Option ℕ → ℕ
passings blocks zero o = 0
passings blocks (suc n) None = 0
passings blocks (suc n) (Some to) = suc (passings blocks n (next_at (slice_get blocks to)))

-- No way is longer than there are blocks, so that it is counted whole.
abbrev pub passings_left : State → ℕ
passings_left s = passings s.frame.blocks (length s.frame.blocks + 2) (passed_on s.frame.ops s.frame.end)

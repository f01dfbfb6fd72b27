-- Passes that keep each operation of a block, perhaps with other reads, or drop it. Operations that are done are given
-- last first, and those that come next first.
use Rattle.std.specs.Prelude.{◌≡◌, List, [], ◌∷◌}
use Rattle.std.specs.List.{AllZip}
use Rattle.ckc_tac.specs.declared.code.Tac.{Tac}
use Rattle.ckc_tac.specs.declared.code.TacFunc.{TacFunc}
use Rattle.ckc_tac.specs.declared.code.TacBlock.{TacBlock}
use Rattle.ckc_tac.specs.declared.code.TacOp.{TacOp}
use Rattle.ckc_tac.specs.declared.code.TacEnd.{TacEnd}

-- What a pass does at a place of the code: of the blocks of the function, the operations done in the block, those that
-- come after the one here, and the end of the block, it says which operation may stand for the one here, whether that
-- may be dropped, and which end may stand for the end.
pub record Pass : Type 1 where
  pub Keeps : (blocks : List TacBlock) (done ops : List TacOp) (end : TacEnd) → TacOp → TacOp → Type 0
  pub Drops : (blocks : List TacBlock) (done ops : List TacOp) (end : TacEnd) → TacOp → Type 0
  pub Ends : (blocks : List TacBlock) (done : List TacOp) → TacEnd → TacEnd → Type 0

-- what the pass makes of the operations that come next and of the end, if some are done
pub data Becomes (p : Pass) (blocks : List TacBlock) : (done ops : List TacOp) (end : TacEnd) (lower : List TacOp) (low_end : TacEnd) → Type 0 where
  ended : {done : List TacOp} {end low_end : TacEnd} → p.Ends blocks done end low_end → Becomes p blocks done [] end [] low_end
  kept : {done ops lower : List TacOp} {op low : TacOp} {end low_end : TacEnd} → p.Keeps blocks done ops end op low
      → Becomes p blocks (op ∷ done) ops end lower low_end → Becomes p blocks done (op ∷ ops) end (low ∷ lower) low_end
  dropped : {done ops lower : List TacOp} {op : TacOp} {end low_end : TacEnd} → p.Drops blocks done ops end op
      → Becomes p blocks (op ∷ done) ops end lower low_end → Becomes p blocks done (op ∷ ops) end lower low_end

abbrev pub BlockBecomes : Pass → List TacBlock → TacBlock → TacBlock → Type 0
BlockBecomes p blocks block low = Becomes p blocks [] block.ops block.end low.ops low.end

pub record FunctionBecomes (p : Pass) (f low : TacFunc) : Type 0 where
  pub params : low.params ≡ f.params
  pub regs : low.regs ≡ f.regs
  pub blocks : AllZip (BlockBecomes p f.blocks) f.blocks low.blocks

pub record ProgramBecomes (p : Pass) (t low : Tac) : Type 0 where
  pub initial : low.initial ≡ t.initial
  pub main : low.main ≡ t.main
  pub funcs : AllZip (FunctionBecomes p) t.funcs low.funcs

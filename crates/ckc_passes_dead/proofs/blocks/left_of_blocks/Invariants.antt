use Rattle.std.proofs.Common.{List, take}
use Rattle.std.specs.List.{AllZip}
use Rattle.ckc_tac.specs.declared.code.TacFunc.{TacFunc}
use Rattle.ckc_tac.specs.WellFormed.{IsFunctionOver}
use Rattle.ckc_passes.specs.Passes.{BlockBecomes}
use Rattle.ckc_passes_dead.specs.Dead.{dead_pass}
use Rattle.ckc_passes_dead.proofs.blocks.left_of_blocks.Given as goal

abbrev pub invariant-loop-block : goal.invariant-loop-block
invariant-loop-block l = (functions : List TacFunc) → IsFunctionOver functions l.f
    → AllZip (BlockBecomes dead_pass l.f.blocks) (take l.block-index l.block-items) l.blocks.items

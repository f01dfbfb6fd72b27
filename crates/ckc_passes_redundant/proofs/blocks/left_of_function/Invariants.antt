use Rattle.std.proofs.Common.{take}
use Rattle.std.specs.List.{AllZip}
use Rattle.ckc_passes.specs.Passes.{BlockBecomes}
use Rattle.ckc_passes_redundant.specs.Redundant.{redundant_pass}
use Rattle.ckc_passes_redundant.proofs.blocks.left_of_function.Given as goal

abbrev pub invariant-loop-block : goal.invariant-loop-block
invariant-loop-block l = AllZip (BlockBecomes redundant_pass l.f.blocks) (take l.block-index l.block-items) l.blocks.items

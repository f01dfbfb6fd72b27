use Rattle.std.proofs.Common.{◌≡◌, map, take}
use Rattle.ckc_passes_fold.specs.code.Tables.{block_with}
use Rattle.ckc_passes_fold.proofs.blocks.made_blocks.Given as goal

abbrev pub invariant-loop-block : goal.invariant-loop-block
invariant-loop-block l = record {
  known : l.known ≡ l.initial.known;
  made : l.made.items ≡ map (block_with l.initial.known) (take l.block-index l.blocks);
}

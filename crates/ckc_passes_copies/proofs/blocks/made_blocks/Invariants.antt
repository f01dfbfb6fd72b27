use Rattle.std.proofs.Common.{◌≡◌, map, take}
use Rattle.ckc_passes_copies.specs.code.Tables.{block_with}
use Rattle.ckc_passes_copies.proofs.blocks.made_blocks.Given as goal

abbrev pub invariant-loop-block : goal.invariant-loop-block
invariant-loop-block l = record {
  table : l.table ≡ l.initial.table;
  made : l.made.items ≡ map (block_with l.initial.table) (take l.block-index l.blocks);
}

use Rattle.std.proofs.Common.{◌≡◌, ◌+◌, take}
use Rattle.std.specs.Prelude.{sum_by}
use Rattle.ckc_tac.specs.Sizes.{block_size}
use Rattle.ckc_test_commands.proofs.sizes.size_of_function.Given as goal

abbrev pub invariant-loop-block : goal.invariant-loop-block
invariant-loop-block l = l.total ≡ 8 + sum_by block_size (take l.block-index l.f.blocks)

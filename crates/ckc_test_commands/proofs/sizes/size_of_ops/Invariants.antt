use Rattle.std.proofs.Common.{◌≡◌, take}
use Rattle.std.specs.Prelude.{sum_by}
use Rattle.ckc_tac.specs.Sizes.{op_size}
use Rattle.ckc_test_commands.proofs.sizes.size_of_ops.Given as goal

abbrev pub invariant-loop-op : goal.invariant-loop-op
invariant-loop-op l = l.total ≡ sum_by op_size (take l.op-index l.ops)

use Rattle.std.proofs.Common.{◌≡◌, take}
use Rattle.std.specs.Prelude.{sum_by}
use Rattle.ckc_tac.specs.Sizes.{function_size}
use Rattle.ckc_test_commands.proofs.sizes.size_of.Given as goal

abbrev pub invariant-loop-f : goal.invariant-loop-f
invariant-loop-f l = l.total ≡ sum_by function_size (take l.f-index l.t.funcs)

use Rattle.std.proofs.Common.{◌≡◌, ◌+◌, drop}
use Rattle.ckc_build_elaborate.specs.Objects.{count_declared}
use Rattle.ckc_build_elaborate.proofs.functions.declared.Given as goal

abbrev pub invariant-loop-item : goal.invariant-loop-item
invariant-loop-item l = l.n + count_declared (drop l.item-index l.items) ≡ count_declared l.items

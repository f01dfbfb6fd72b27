use Rattle.std.proofs.Common.{◌≡◌, ◌++◌, drop}
use Rattle.ckc_passes.specs.code.Forward.{filled}
use Rattle.ckc_passes_fold.specs.code.Tables.{entry, ops_with}
use Rattle.ckc_passes_fold.proofs.blocks.made_ops.Given as goal

-- what is left makes the rest
abbrev pub invariant-loop-op : goal.invariant-loop-op
invariant-loop-op l = record {
  made : l.made.items ++ ops_with l.known (drop l.op-index l.ops) ≡ ops_with l.initial.known l.ops;
  known : filled entry l.op-index (drop l.op-index l.ops) l.known ≡ filled entry 0 l.ops l.initial.known;
}

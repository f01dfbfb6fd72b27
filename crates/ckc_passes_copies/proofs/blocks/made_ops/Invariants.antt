use Rattle.std.proofs.Common.{◌≡◌, ◌++◌, drop}
use Rattle.ckc_passes.specs.code.Forward.{filled}
use Rattle.ckc_passes_copies.specs.code.Tables.{entry, ops_with}
use Rattle.ckc_passes_copies.proofs.blocks.made_ops.Given as goal

-- what is left makes the rest
abbrev pub invariant-loop-i : goal.invariant-loop-i
invariant-loop-i l = record {
  made : l.made.items ++ ops_with l.i l.table (drop l.i l.ops) ≡ ops_with 0 l.initial.table l.ops;
  table : filled entry l.i (drop l.i l.ops) l.table ≡ filled entry 0 l.ops l.initial.table;
}

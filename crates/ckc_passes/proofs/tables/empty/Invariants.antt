use Rattle.std.proofs.Common.{◌≡◌, drop}
use Rattle.ckc_passes.specs.code.Forward.{emptied}
use Rattle.ckc_passes.proofs.tables.empty.Given as goal

-- the operations that are left make the rest
abbrev pub invariant-loop-op : goal.invariant-loop-op
invariant-loop-op g l = emptied l.entry (drop l.op-index l.ops) l.table ≡ emptied l.entry l.ops l.initial.table

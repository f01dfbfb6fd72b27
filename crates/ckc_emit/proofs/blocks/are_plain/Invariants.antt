use Rattle.std.proofs.Common.{◌≡◌, drop}
use Rattle.ckc_emit.specs.code.ProgramLines.{are_plain}
use Rattle.ckc_emit.proofs.blocks.are_plain.Given as goal

-- all are plain if the rest is
abbrev pub invariant-loop-op : goal.invariant-loop-op
invariant-loop-op l = record {
  rest : are_plain (drop l.op-index l.ops) ≡ are_plain l.ops;
}

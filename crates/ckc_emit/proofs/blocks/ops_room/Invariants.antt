use Rattle.std.proofs.Common.{◌≡◌, ◌≤◌, drop}
use Rattle.ckc_emit.specs.code.ProgramLines.{ops_room}
use Rattle.ckc_emit.proofs.blocks.ops_room.Given as goal

-- with that of the rest, the room is that of all
abbrev pub invariant-loop-op : goal.invariant-loop-op
invariant-loop-op l = record {
  rest : ops_room l.room (drop l.op-index l.ops) ≡ ops_room l.before l.ops;
  few : l.room ≤ 4096;
}

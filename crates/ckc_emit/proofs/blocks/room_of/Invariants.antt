use Rattle.std.proofs.Common.{◌≡◌, ◌≤◌, drop}
use Rattle.ckc_emit.specs.code.ProgramLines.{room_from}
use Rattle.ckc_emit.proofs.blocks.room_of.Given as goal

-- with that of the rest, the room is that of all
abbrev pub invariant-loop-block : goal.invariant-loop-block
invariant-loop-block l = record {
  rest : room_from l.room (drop l.block-index l.blocks) ≡ room_from 0 l.blocks;
  few : l.room ≤ 4096;
}

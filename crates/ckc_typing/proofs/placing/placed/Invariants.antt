use Rattle.std.proofs.Common.{◌≡◌, ◌≤◌, drop}
use Rattle.ckc_base.specs.MemoryMap.{data_start, statics_end}
use Rattle.ckc_typing.specs.code.Placing.{placed_behind}
use Rattle.ckc_base.proofs.Turns.{ahead}
use Rattle.ckc_typing.proofs.placing.placed.Given as goal

abbrev pub invariant-loop-o : goal.invariant-loop-o
invariant-loop-o l = record {
  kept : placed_behind l.structs data_start l.blocks ≡ ahead l.all (placed_behind l.structs l.end (drop l.o-index l.blocks));
  within : l.end ≤ statics_end;
}

use Rattle.std.proofs.Common.{◌≡◌, drop}
use Rattle.ckc_source.specs.Steps.{all_written}
use Rattle.ckc_interp_blocks.specs.Views.{shapes_of}
use Rattle.ckc_interp.specs.code.Views.{core_of}
use Rattle.ckc_interp.proofs.run.Run.write_all.Given as goal

-- what is left is written to what is written so far
abbrev pub invariant-loop-to : goal.invariant-loop-to
invariant-loop-to l = record {
  behind : all_written (drop l.to-index l.all) (core_of l.self) ≡ all_written l.all (core_of l.fn.self);
  same : shapes_of l.self.blocks ≡ shapes_of l.fn.self.blocks;
}

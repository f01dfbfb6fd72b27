use Rattle.std.proofs.Common.{◌≡◌, drop, map}
use Rattle.ckc_source.specs.Code.{assign_of}
use Rattle.ckc_source.specs.Steps.{planned}
use Rattle.ckc_interp_blocks.specs.Views.{shapes_of}
use Rattle.ckc_interp.specs.code.Views.{core_of}
use Rattle.ckc_interp.proofs.Planning.{plans}
use Rattle.ckc_interp.proofs.run.Run.plan.Given as goal

-- what is left is planned after what is planned so far
abbrev pub invariant-loop-a : goal.invariant-loop-a
invariant-loop-a l =
    let shapes = shapes_of l.fn.self.blocks in
    record {
      behind : plans l.writes.items (planned shapes (core_of l.self) (map assign_of (drop l.a-index l.assigns))) ≡ planned shapes (core_of l.fn.self) (map assign_of l.assigns);
      same : shapes_of l.self.blocks ≡ shapes;
    }

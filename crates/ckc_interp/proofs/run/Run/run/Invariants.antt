use Rattle.std.proofs.Common.{◌≡◌}
use Rattle.ckc_outside.specs.Given.{streams}
use Rattle.ckc_source.specs.Code.{program_of}
use Rattle.ckc_interp_blocks.specs.Views.{shapes_of}
use Rattle.ckc_interp.specs.code.Views.{state_of}
use Rattle.ckc_interp.specs.code.Turns.{Fed}
use Rattle.ckc_interp.proofs.Reaching.{IsAt}
use Rattle.ckc_interp.proofs.run.Run.run.Given as goal

-- The run has come as many steps as were taken, and no object failed.
abbrev pub invariant-loop-step : goal.invariant-loop-step
invariant-loop-step g l =
    record {
      shapes : shapes_of l.self.blocks ≡ l.program.shapes;
      at : Fed (g.S.Source.seen l.fn.input) (g.S.Source.seen l.input)
          (λ given left. IsAt (program_of l.program) given l._step (state_of l.self left)
          (streams (g.S.Source.seen l.fn.input) (g.O.Sink.seen l.fn.out)) (streams (g.S.Source.seen l.input) (g.O.Sink.seen l.out)) l.marks.blame);
      input_faults : (g.S.Source.seen l.input).faults ≡ (g.S.Source.seen l.fn.input).faults;
      out_faults : (g.O.Sink.seen l.out).faults ≡ (g.O.Sink.seen l.fn.out).faults;
    }

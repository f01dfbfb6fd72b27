use Rattle.std.proofs.Common.{◌≡◌, ◌+◌, ℕ, None, Some, refl, sym, ap, subst, ◌∙◌, arith}
use Rattle.ckc_base.specs.Traces.{Going}
use Rattle.ckc_source.specs.Code.{program_of}
use Rattle.ckc_source.specs.States.{State}
use Rattle.ckc_interp.specs.declared.seen.Seen.TheVariants as seen
use Rattle.ckc_outside.specs.Given.{streams}
use Rattle.ckc_interp.specs.Runs.{Comes, Interprets}
use Rattle.ckc_interp.specs.code.Turns.{Steps}
use Rattle.ckc_interp.specs.code.Views.{state_of}
use Rattle.ckc_interp.proofs.Ending.{over_steps, next_steps}
use Rattle.ckc_interp.proofs.Feeding.{fed}
use Rattle.ckc_interp.proofs.Giving.{not_asked, fed_so, fed_then}
use Rattle.ckc_interp.proofs.Reaching.{IsAt, at_start, comes_at}
use Rattle.ckc_interp.proofs.run.Run.run.Goals as goal

pub loop-step-init : goal.loop-step-init
loop-step-init g c =
    let w = streams (g.S.Source.seen c.args.input.now) (g.O.Sink.seen c.args.out.now) in
    let p = program_of c.args.program.now in
    record {
      shapes = c.requires.shapes;
      at = not_asked _ (λ given left. IsAt p given 0 (state_of c.args.self.now left) w w None)
          (λ rest. subst (λ (s : State). IsAt p rest 0 s w w None) (ap (fed rest) (sym c.requires.start)) (at_start p rest w));
      input_faults = refl;
      out_faults = refl;
    }

pub loop-step-preserved : goal.loop-step-preserved
loop-step-preserved g c =
    let p = program_of c.args.program.now in
    let i = c.loop-step._step in
    record {
      shapes = c.in-None.ensures.shapes ∙ c.loop-step.invariant.shapes;
      at = fed_then _ _ _ (λ given left. IsAt p given i (state_of c.loop-step.self left) (streams (g.S.Source.seen c.args.input.now) (g.O.Sink.seen c.args.out.now)) (streams (g.S.Source.seen c.loop-step.input) (g.O.Sink.seen c.loop-step.out)) c.loop-step.marks.blame)
          (λ left left'. Steps p (state_of c.loop-step.self left) (state_of c.step.new.self left') c.loop-step.marks.blame c.step.new.marks.blame (streams (g.S.Source.seen c.loop-step.input) (g.O.Sink.seen c.loop-step.out)) (streams (g.S.Source.seen c.step.new.input) (g.O.Sink.seen c.step.new.out)) None)
          (λ given left. IsAt p given (i + 1) (state_of c.step.new.self left) (streams (g.S.Source.seen c.args.input.now) (g.O.Sink.seen c.args.out.now)) (streams (g.S.Source.seen c.step.new.input) (g.O.Sink.seen c.step.new.out)) c.step.new.marks.blame)
          c.loop-step.invariant.at c.in-None.ensures.steps
          (λ given half left' a s. next_steps p given i c.args.limit (state_of c.loop-step.self half) (state_of c.step.new.self left') (streams (g.S.Source.seen c.args.input.now) (g.O.Sink.seen c.args.out.now)) (streams (g.S.Source.seen c.loop-step.input) (g.O.Sink.seen c.loop-step.out)) (streams (g.S.Source.seen c.step.new.input) (g.O.Sink.seen c.step.new.out)) c.loop-step.marks.blame c.step.new.marks.blame c.loop-step-test.true a s);
      input_faults = c.in-None.ensures.reads ∙ c.loop-step.invariant.input_faults;
      out_faults = c.in-None.ensures.writes ∙ c.loop-step.invariant.out_faults;
    }

pub returns-in-Some-clause-runs : goal.returns-in-Some-clause-runs
returns-in-Some-clause-runs g c =
    let p = program_of c.args.program.now in
    let i = c.loop-step._step in
    fed_then _ _ _ (λ given left. IsAt p given i (state_of c.loop-step.self left) (streams (g.S.Source.seen c.args.input.now) (g.O.Sink.seen c.args.out.now)) (streams (g.S.Source.seen c.loop-step.input) (g.O.Sink.seen c.loop-step.out)) c.loop-step.marks.blame)
    (λ left left'. Steps p (state_of c.loop-step.self left) (state_of c.step.new.self left') c.loop-step.marks.blame c.step.new.marks.blame (streams (g.S.Source.seen c.loop-step.input) (g.O.Sink.seen c.loop-step.out)) (streams (g.S.Source.seen c.step.new.input) (g.O.Sink.seen c.step.new.out)) (Some c.in-Some.seen))
    (Interprets p c.args.limit (streams (g.S.Source.seen c.args.input.now) (g.O.Sink.seen c.args.out.now)) (streams (g.S.Source.seen c.step.new.input) (g.O.Sink.seen c.step.new.out)) c.in-Some.seen)
    c.loop-step.invariant.at c.in-Some.ensures.steps
    (λ given half left' a s. over_steps p given i c.args.limit (state_of c.loop-step.self half) (state_of c.step.new.self left') (streams (g.S.Source.seen c.args.input.now) (g.O.Sink.seen c.args.out.now)) (streams (g.S.Source.seen c.loop-step.input) (g.O.Sink.seen c.loop-step.out)) (streams (g.S.Source.seen c.step.new.input) (g.O.Sink.seen c.step.new.out)) c.loop-step.marks.blame c.step.new.marks.blame c.loop-step-test.true a c.in-Some.seen s)

pub returns-clause-runs : goal.returns-clause-runs
returns-clause-runs g c =
    let p = program_of c.args.program.now in
    let i = c.loop-step._step in
    let e : i ≡ c.args.limit = omega arith in
    fed_so _ _ (λ given left. IsAt p given i (state_of c.loop-step.self left) (streams (g.S.Source.seen c.args.input.now) (g.O.Sink.seen c.args.out.now)) (streams (g.S.Source.seen c.loop-step.input) (g.O.Sink.seen c.loop-step.out)) c.loop-step.marks.blame)
    (Interprets p c.args.limit (streams (g.S.Source.seen c.args.input.now) (g.O.Sink.seen c.args.out.now)) (streams (g.S.Source.seen c.loop-step.input) (g.O.Sink.seen c.loop-step.out)) seen.Going) c.loop-step.invariant.at
    (λ given left a. subst (λ (k : ℕ). Comes p given left k k (streams (g.S.Source.seen c.args.input.now) (g.O.Sink.seen c.args.out.now)) (streams (g.S.Source.seen c.loop-step.input) (g.O.Sink.seen c.loop-step.out)) Going) e (comes_at p given i (state_of c.loop-step.self left) (streams (g.S.Source.seen c.args.input.now) (g.O.Sink.seen c.args.out.now)) (streams (g.S.Source.seen c.loop-step.input) (g.O.Sink.seen c.loop-step.out)) c.loop-step.marks.blame a))

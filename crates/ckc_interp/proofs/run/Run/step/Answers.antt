use Rattle.std.proofs.Common.{None, Some, refl, sym, ap, subst, ◌∙◌}
use Rattle.ckc_outside.specs.Given.{streams}
use Rattle.ckc_outside.proofs.Giving.{showed_nothing}
use Rattle.ckc_source.specs.Code.{program_of}
use Rattle.ckc_interp.specs.declared.seen.Seen.{Seen}
use Rattle.ckc_interp.specs.declared.seen.Seen.TheVariants as seen
use Rattle.ckc_interp.specs.code.Turns.{Fed, Steps, GetsAs, turn_asks, seen_of}
use Rattle.ckc_interp.specs.code.Views.{core_of, state_of}
use Rattle.ckc_interp.proofs.Giving.{not_asked, fed_so}
use Rattle.ckc_interp.proofs.Stepping.{quiet_steps, ends_steps, halted_steps, put_steps, get_steps}
use Rattle.ckc_interp.proofs.run.Run.step.Goals as goal

pub returns-in-Err-clause-steps : goal.returns-in-Err-clause-steps
returns-in-Err-clause-steps g c =
    let w = streams (g.S.Source.seen c.args.input.now) (g.O.Sink.seen c.args.out.now) in
    not_asked _ (λ left left'. Steps (program_of c.args.program.now) (state_of c.args.self.now left) (state_of c.turn.new.self left') c.args.marks.now.blame c.turn.new.marks.blame w w (Some seen.Memory)) (λ left. (showed_nothing w, refl))

pub returns-in-Ok-Quiet-clause-steps : goal.returns-in-Ok-Quiet-clause-steps
returns-in-Ok-Quiet-clause-steps g c =
    let w = streams (g.S.Source.seen c.args.input.now) (g.O.Sink.seen c.args.out.now) in
    let u = core_of c.turn.new.self in
    let is = c.in-Ok-Quiet.ensures in
    not_asked _ (λ left left'. Steps (program_of c.args.program.now) (state_of c.args.self.now left) (state_of c.turn.new.self left') c.args.marks.now.blame c.turn.new.marks.blame w w None)
    (λ left. quiet_steps (program_of c.args.program.now) (core_of c.args.self.now) c.args.marks.now.blame c.turn.new.marks.blame c.turn.new.marks.at is.at is.blame u w left
    (is.moves ∙ ap (λ t. turn_asks t u) c.in-Ok-Quiet.field-0-is))

pub returns-in-Ok-Ends-clause-steps : goal.returns-in-Ok-Ends-clause-steps
returns-in-Ok-Ends-clause-steps g c =
    let w = streams (g.S.Source.seen c.args.input.now) (g.O.Sink.seen c.args.out.now) in
    let u = core_of c.turn.new.self in
    let is = c.in-Ok-Ends.ensures in
    not_asked _ (λ left left'. Steps (program_of c.args.program.now) (state_of c.args.self.now left) (state_of c.turn.new.self left') c.args.marks.now.blame c.turn.new.marks.blame w w (Some (seen.Ended c.in-Ok-Ends.n)))
    (λ left. ends_steps (program_of c.args.program.now) (core_of c.args.self.now) c.args.marks.now.blame c.turn.new.marks.blame c.turn.new.marks.at is.at is.blame u w left c.in-Ok-Ends.n
    (is.moves ∙ ap (λ t. turn_asks t u) c.in-Ok-Ends.field-0-is))

pub returns-in-Ok-Halted-clause-steps : goal.returns-in-Ok-Halted-clause-steps
returns-in-Ok-Halted-clause-steps g c =
    let w = streams (g.S.Source.seen c.args.input.now) (g.O.Sink.seen c.args.out.now) in
    let u = core_of c.turn.new.self in
    let is = c.in-Ok-Halted.ensures in
    let why = c.in-Ok-Halted.why in
    subst (λ (a : Seen). Fed (g.S.Source.seen c.args.input.now) (g.S.Source.seen c.args.input.now) (λ left left'. Steps (program_of c.args.program.now) (state_of c.args.self.now left) (state_of c.turn.new.self left') c.args.marks.now.blame c.turn.new.marks.blame w w (Some a))) (sym c.seen_of.ensures.is)
    (not_asked _ (λ left left'. Steps (program_of c.args.program.now) (state_of c.args.self.now left) (state_of c.turn.new.self left') c.args.marks.now.blame c.turn.new.marks.blame w w (Some (seen_of why c.turn.new.marks.at c.turn.new.marks.blame)))
    (λ left. halted_steps (program_of c.args.program.now) (core_of c.args.self.now) c.args.marks.now.blame c.turn.new.marks.blame c.turn.new.marks.at is.at is.blame u w left why
    (is.moves ∙ ap (λ t. turn_asks t u) c.in-Ok-Halted.field-0-is)))

pub returns-in-Ok-Put-clause-steps : goal.returns-in-Ok-Put-clause-steps
returns-in-Ok-Put-clause-steps g c =
    let w = streams (g.S.Source.seen c.args.input.now) (g.O.Sink.seen c.args.out.now) in
    let w' = streams (g.S.Source.seen c.args.input.now) (g.O.Sink.seen c.put.new.out) in
    let u = core_of c.turn.new.self in
    let is = c.in-Ok-Put.ensures in
    not_asked _ (λ left left'. Steps (program_of c.args.program.now) (state_of c.args.self.now left) (state_of c.put.new.self left') c.args.marks.now.blame c.turn.new.marks.blame w w' c.put.result)
    (λ left. put_steps (program_of c.args.program.now) (core_of c.args.self.now) c.args.marks.now.blame c.turn.new.marks.blame c.turn.new.marks.at is.at is.blame u (core_of c.put.new.self) c.in-Ok-Put.to c.in-Ok-Put.n w w' left c.put.result
    (is.moves ∙ ap (λ t. turn_asks t u) c.in-Ok-Put.field-0-is) (c.put.ensures.puts (g.S.Source.seen c.args.input.now).asks))

pub returns-in-Ok-Get-clause-steps : goal.returns-in-Ok-Get-clause-steps
returns-in-Ok-Get-clause-steps g c =
    let w = streams (g.S.Source.seen c.args.input.now) (g.O.Sink.seen c.args.out.now) in
    let w' = streams (g.S.Source.seen c.get.new.input) (g.O.Sink.seen c.args.out.now) in
    let u = core_of c.turn.new.self in
    let is = c.in-Ok-Get.ensures in
    fed_so _ _ (λ left left'. GetsAs u c.in-Ok-Get.to (core_of c.get.new.self) c.turn.new.marks.at c.turn.new.marks.blame left left' c.get.result)
    (λ left left'. Steps (program_of c.args.program.now) (state_of c.args.self.now left) (state_of c.get.new.self left') c.args.marks.now.blame c.turn.new.marks.blame w w' c.get.result)
    c.get.ensures.gets
    (λ left left' h. get_steps (program_of c.args.program.now) (core_of c.args.self.now) c.args.marks.now.blame c.turn.new.marks.blame c.turn.new.marks.at is.at is.blame u (core_of c.get.new.self) c.in-Ok-Get.to w w' left left' c.get.result
    (is.moves ∙ ap (λ t. turn_asks t u) c.in-Ok-Get.field-0-is) refl c.get.ensures.asked refl h)

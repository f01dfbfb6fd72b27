use Rattle.std.proofs.Common.{refl, sym, subst, ◌∙◌, arith}
use Rattle.ckc_machine.specs.declared.observed.Observed.{Observed}
use Rattle.ckc_machine.specs.Points.{state_at}
use Rattle.ckc_machine.specs.Runs.{Runs}
use Rattle.ckc_machine.proofs.Arrivals.{arrives_putting, fails_putting, runs_going}
use Rattle.ckc_machine.proofs.machine.Machine.put.Goals as goal

pub returns-in-Ok-clause-exact : goal.returns-in-Ok-clause-exact
returns-in-Ok-clause-exact g c = λ parts given k left asks is call byte.
    let m = c.args.self.now in
    let m' = c.go_on.new.self in
    let written = (g.O.Sink.seen c.args.out.now).written in
    let written' = (g.O.Sink.seen c.put.new.self).written in
    let rest = (state_at parts given k).input in
    let answer = c.go_on.ensures.answer ∙ c.requires in
    runs_going parts given k m' left left written written' asks asks (g.O.Sink.seen c.args.out.now).puts (g.O.Sink.seen c.put.new.self).puts answer
    (arrives_putting parts given k m m' left left written written' asks asks (g.O.Sink.seen c.args.out.now).puts (g.O.Sink.seen c.put.new.self).puts c.args.byte is c.requires call byte c.go_on.ensures.code (c.go_on.ensures.state rest) answer refl c.in-Ok.ensures.told refl c.put.ensures.once)

pub returns-in-Err-clause-exact : goal.returns-in-Err-clause-exact
returns-in-Err-clause-exact g c = λ parts given k left asks is call byte.
    let m = c.args.self.now in
    let m' = c.halt.new.self in
    let written = (g.O.Sink.seen c.args.out.now).written in
    let written' = (g.O.Sink.seen c.put.new.self).written in
    let puts = (g.O.Sink.seen c.args.out.now).puts in
    let puts' = (g.O.Sink.seen c.put.new.self).puts in
    subst (λ (o : Observed). Runs parts given k 1 m' left left written written' asks asks puts puts' o) (sym c.halt.ensures.answer)
    (fails_putting parts given k m m' left left written written' asks asks puts puts' c.args.byte is c.requires call byte (λ before e. let t = c.in-Err.ensures.told before e in (t.0, omega arith, t.1)) refl c.put.ensures.once)

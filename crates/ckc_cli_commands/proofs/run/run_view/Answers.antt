use Rattle.std.proofs.Common.{◌≡◌, ◌∙◌}
use Rattle.ckc_cli_commands.specs.World.{world}
use Rattle.ckc_cli_commands.specs.code.Running.{shows}
use Rattle.ckc_cli_commands.proofs.Shows.{ran_of}
use Rattle.ckc_cli_commands.proofs.run.run_view.Goals as goal

pub returns-in-Ok-clause-ran : goal.returns-in-Ok-clause-ran
returns-in-Ok-clause-ran g c = λ parts entry code initial error error' before after.
    let input = c.args.input.now in
    let out = c.args.out.now in
    let r = c.run.ensures in
    shows c.run.result c.shown.ensures.is
    (ran_of parts c.args.limit c.in-Ok.machine c.run.new.self (c.run.new.input ≡ input)
    (world (g.S.Source.seen input) (g.O.Sink.seen out) error before)
    (world (g.S.Source.seen c.run.new.input) (g.O.Sink.seen c.run.new.out) error' after)
    c.run.result (λ given. c.in-Ok.ensures.start parts given entry code initial) r.answer r.exact r.silent r.any)

pub returns-in-Ok-clause-reads : goal.returns-in-Ok-clause-reads
returns-in-Ok-clause-reads g c = c.run.ensures.reads c.in-Ok.ensures.going ∙ c.shown.ensures.reads _

pub returns-in-Ok-clause-writes : goal.returns-in-Ok-clause-writes
returns-in-Ok-clause-writes g c = c.run.ensures.writes c.in-Ok.ensures.going ∙ c.shown.ensures.writes _

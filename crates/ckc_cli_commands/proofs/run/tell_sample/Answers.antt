use Rattle.std.proofs.Common.{◌≡◌, refl, ◌∙◌}
use Rattle.ckc_cli_commands.proofs.Sampling.{ended_told, else_shown, no_read, no_write}
use Rattle.ckc_cli_commands.proofs.run.tell_sample.Goals as goal

pub returns-in-Ended-clause-sampled : goal.returns-in-Ended-clause-sampled
returns-in-Ended-clause-sampled g c = λ parts ran.
    let out = c.args.out.now in
    let out' = c.say_ended.new.out in
    ended_told c.args.size (g.O.Sink.seen out) (g.O.Sink.seen out') (out' ≡ out) c.say_ended.result parts c.args.count c.in-Ended.value c.args.observed c.in-Ended.is ran c.say_ended.ensures.lined

pub returns-in_default-clause-sampled : goal.returns-in_default-clause-sampled
returns-in_default-clause-sampled g c = λ parts ran.
    let out = c.args.out.now in
    else_shown c.args.size (g.O.Sink.seen out) (g.O.Sink.seen out) (out ≡ out) c.shown.result parts c.args.count c.args.observed c.in_default.not-Ended ran c.shown.ensures.is refl

pub returns-in_default-clause-reads : goal.returns-in_default-clause-reads
returns-in_default-clause-reads g c = λ h n. no_read c.args.observed h n ∙ c.shown.ensures.reads n

pub returns-in_default-clause-writes : goal.returns-in_default-clause-writes
returns-in_default-clause-writes g c = λ h. no_write c.args.observed h _ ∙ c.shown.ensures.writes _

use Rattle.std.proofs.Common.{inl, refl}
use Rattle.ckc_build.specs.Meanings.{judging}
use Rattle.ckc_cli_commands.specs.Words.{Judge}
use Rattle.ckc_cli_commands.specs.Checking.{checked_line}
use Rattle.ckc_cli_commands.specs.World.{World, world, output_alone}
use Rattle.ckc_cli_commands.specs.Outcomes as outcome
use Rattle.ckc_cli_commands.specs.Causes as causes
use Rattle.ckc_cli_commands.proofs.Obeying.{faulted}
use Rattle.ckc_cli_commands.proofs.commands.check_bytes.Goals as goal

pub returns-in-Err-clause-cause : goal.returns-in-Err-clause-cause
returns-in-Err-clause-cause g c = λ text input error error' before after unkept.
    let out = c.args.out.now in
    let w : World = world input (g.O.Sink.seen out) error before in
    let w' : World = world input (g.O.Sink.seen out) error' after in
    faulted w w' (output_alone out out) c.status_of.result judging (Judge text) c.args.bytes.now c.in-Err.fault (λ r f. inl f) c.in-Err.ensures.exact.answers c.status_of.ensures.is
    (record { unkept = unkept; put = refl; took = tt })

pub returns-in-Ok-clause-cause : goal.returns-in-Ok-clause-cause
returns-in-Ok-clause-cause g c = λ text input error error' before after unkept.
    let said = c.say_checked-status.ensures in
    causes.made (outcome.PutsLine (checked_line c.in-Ok.typed)) (c.in-Ok.typed, c.in-Ok.ensures.exact.answers, refl) (said.listed, said.once, unkept, tt)

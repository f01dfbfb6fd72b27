use Rattle.std.proofs.Common.{refl, ◌∙◌}
use Rattle.ckc_source.specs.Code.{program_of}
use Rattle.ckc_build.specs.Meanings.{meanings}
use Rattle.ckc_cli_commands.specs.Words.{Interp}
use Rattle.ckc_cli_commands.specs.World.{World, world, streams}
use Rattle.ckc_cli_commands.specs.Outcomes as outcome
use Rattle.ckc_cli_commands.specs.Causes as causes
use Rattle.ckc_cli_commands.proofs.Blamed.{has_status}
use Rattle.ckc_cli_commands.proofs.Obeying.{faulted}
use Rattle.ckc_cli_commands.proofs.commands.interp_bytes.Goals as goal

pub returns-in-Err-clause-cause : goal.returns-in-Err-clause-cause
returns-in-Err-clause-cause g c = λ text error error' before after unkept.
    let input = c.args.input.now in
    let out = c.args.out.now in
    let w : World = world (g.S.Source.seen input) (g.O.Sink.seen out) error before in
    let w' : World = world (g.S.Source.seen input) (g.O.Sink.seen out) error' after in
    faulted w w' (streams input input out out) c.status_of.result meanings (Interp text c.args.limit) c.args.bytes.now c.in-Err.fault (λ r f. f) c.in-Err.ensures.exact.answers c.status_of.ensures.is
    (record { unkept = unkept; put = refl; took = refl })

pub meant-requires : goal.meant-requires
meant-requires g c = record {
  blamed =
      has_status (program_of c.in-Ok.p) (c.unchecked_code_is_to_blame.ensures.blamed c.args.bytes.now (program_of c.in-Ok.p) c.in-Ok.ensures.exact.answers)
      c.args.limit _ _ _ _ c.interp-seen.result c.interp-seen.ensures.any;
}

pub returns-in-Ok-clause-cause : goal.returns-in-Ok-clause-cause
returns-in-Ok-clause-cause g c = λ text error error' before after unkept.
    let r = c.interp-seen.ensures in
    causes.made (outcome.Interprets (program_of c.in-Ok.p) c.args.limit) (program_of c.in-Ok.p, c.in-Ok.ensures.exact.answers, refl)
    ((c.interp-seen.result, c.meant.ensures.is, record { told = r.exact; any = r.any }), unkept)

pub returns-in-Ok-clause-reads : goal.returns-in-Ok-clause-reads
returns-in-Ok-clause-reads g c = c.interp-seen.ensures.reads ∙ c.meant.ensures.reads _

pub returns-in-Ok-clause-writes : goal.returns-in-Ok-clause-writes
returns-in-Ok-clause-writes g c = c.interp-seen.ensures.writes ∙ c.meant.ensures.writes _

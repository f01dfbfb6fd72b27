use Rattle.ckc_source.specs.Code.{program_of}
use Rattle.ckc_interp.specs.declared.seen.Seen.TheVariants as seen
use Rattle.ckc_outside.specs.Given.{streams}
use Rattle.ckc_interp.specs.Runs.{Interprets}
use Rattle.ckc_interp.proofs.Ending.{start_out}
use Rattle.ckc_interp.proofs.Giving.{not_asked}
use Rattle.ckc_interp.proofs.whole.run_from.Goals as goal

pub returns-in-Err-clause-runs : goal.returns-in-Err-clause-runs
returns-in-Err-clause-runs g c =
    let w = streams (g.S.Source.seen c.args.input.now) (g.O.Sink.seen c.args.out.now) in
    let p = program_of c.args.p.now in
    not_asked (g.S.Source.seen c.args.input.now) (Interprets p c.args.limit w w seen.Memory) (start_out p c.args.limit w)

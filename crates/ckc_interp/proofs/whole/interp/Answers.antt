use Rattle.ckc_source.specs.Code.{program_of}
use Rattle.ckc_outside.specs.Given.{streams}
use Rattle.ckc_interp.specs.Runs.{Interprets}
use Rattle.ckc_interp.proofs.Giving.{where_told, over_any}
use Rattle.ckc_interp.proofs.whole.interp.Goals as goal

pub returns-clause-exact : goal.returns-clause-exact
returns-clause-exact g c = where_told _ _ _ c.run_from.ensures.runs

pub returns-clause-any : goal.returns-clause-any
returns-clause-any g c =
    over_any (g.S.Source.seen c.args.input.now) (g.S.Source.seen c.run_from.new.input)
    (Interprets (program_of c.args.p.now) c.args.limit (streams (g.S.Source.seen c.args.input.now) (g.O.Sink.seen c.args.out.now)) (streams (g.S.Source.seen c.run_from.new.input) (g.O.Sink.seen c.run_from.new.out)) c.run_from.result) c.run_from.ensures.runs

use Rattle.std.proofs.Common.{rules, sym}
use Rattle.ckc_cli_calls.proofs.Reports.{reported, may_fail}
use Rattle.ckc_cli_calls.proofs.lines.put_line.Goals as goal

pub returns-then-not-is_empty-clause-report : goal.returns-then-not-is_empty-clause-report
returns-then-not-is_empty-clause-report g c =
    reported c.args.line.now c.put.result (g.E.Sink.seen c.args.err.now).written (g.E.Sink.seen c.put.new.self).written
    (g.E.Sink.seen c.args.err.now).faults (g.E.Sink.seen c.put.new.self).faults (sym c.if-not-is_empty.ensures) c.put.ensures.told c.put.ensures.faults

pub returns-then-not-is_empty-clause-once : goal.returns-then-not-is_empty-clause-once
returns-then-not-is_empty-clause-once g c = search rules

pub returns-then-not-is_empty-clause-faults : goal.returns-then-not-is_empty-clause-faults
returns-then-not-is_empty-clause-faults g c =
    may_fail c.args.line.now c.put.result (g.E.Sink.seen c.args.err.now).faults (g.E.Sink.seen c.put.new.self).faults (sym c.if-not-is_empty.ensures) c.put.ensures.faults

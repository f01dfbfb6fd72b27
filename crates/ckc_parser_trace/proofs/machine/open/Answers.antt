use Rattle.std.proofs.Common.{sym, ap, ◌∙◌}
use Rattle.ckc_parser_trace.specs.code.Runs.{symbols_on}
use Rattle.ckc_parser_trace.proofs.Bytes.{next_symbol, all_symbols}
use Rattle.ckc_parser_trace.proofs.machine.open.Goals as goal

pub loop-k-preserved : goal.loop-k-preserved
loop-k-preserved c =
    ap symbols_on c.in_ok-push.ensures.items
    ∙ next_symbol c.lengths.result.now c.rights.result.now c.args.rule c.in-Some.length c.loop-k.k c.in-Some-byte_at.b c.loop-k.stack.items (symbols_on c.args.stack.now.items) c.lengths.ensures c.rights.ensures
    (sym c.in-Some.is ∙ c.byte_at.ensures) c.loop-k-test.true (sym c.in-Some-byte_at.is ∙ c.byte_at-in-loop-k.ensures) c.loop-k.invariant

pub returns : goal.returns
returns c = all_symbols c.lengths.result.now c.args.rule c.in-Some.length c.loop-k.k c.loop-k.stack.items (symbols_on c.args.stack.now.items) c.lengths.ensures (sym c.in-Some.is ∙ c.byte_at.ensures) c.loop-k-test.false c.loop-k.invariant

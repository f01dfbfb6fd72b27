use Rattle.ckc_parser_trace.proofs.Moving.{numbered_row_tells}
use Rattle.ckc_parser_trace.proofs.machine.row_at.Goals as goal

pub returns : goal.returns
returns c =
    numbered_row_tells c.moves.result.0.now c.moves.result.1.now c.in_ok-row.row.now c.args.symbol c.kind_number.result c.in_ok-low.low c.in_ok-high.high c.in_ok-opened.opened c.args.kind c.moves.ensures c.requires c.kind_number.ensures
    c.in_ok-low.ensures c.in_ok-high.ensures c.in_ok-row.ensures c.in_ok-opened.ensures c.if-opened-eq0.false

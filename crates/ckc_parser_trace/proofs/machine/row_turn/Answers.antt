use Rattle.ckc_parser_trace.proofs.Bytes.{row_turn_of}
use Rattle.ckc_parser_trace.proofs.machine.row_turn.Goals as goal

pub returns : goal.returns
returns c = row_turn_of c.turns.result.now c.args.row c.kind_number.result c.args.kind c.byte_at.result c.turns.ensures c.requires c.kind_number.ensures c.byte_at.ensures

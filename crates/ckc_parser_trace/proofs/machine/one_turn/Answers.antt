use Rattle.std.proofs.Common.{sym, ◌∙◌}
use Rattle.ckc_parser_trace.proofs.Bytes.{other_one}
use Rattle.ckc_parser_trace.proofs.machine.one_turn.Goals as goal

pub returns-else-wanted-kind_number : goal.returns-else-wanted-kind_number
returns-else-wanted-kind_number c = other_one c.args.wanted c.args.kind c.if-wanted-ge-KINDS.false (λ e. c.if-wanted-kind_number.false (e ∙ sym c.kind_number.ensures))

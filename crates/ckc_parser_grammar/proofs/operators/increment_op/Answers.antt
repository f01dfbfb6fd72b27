use Rattle.ckc_parser_grammar.proofs.Others.{no_increment_op}
use Rattle.ckc_parser_grammar.proofs.operators.increment_op.Goals as goal

pub returns-in_default : goal.returns-in_default
returns-in_default c =
    let d = c.in_default in
    no_increment_op c.args.kind d.not-MinusMinus

use Rattle.ckc_parser_grammar.proofs.Others.{no_compound_op}
use Rattle.ckc_parser_grammar.proofs.operators.compound_op.Goals as goal

pub returns-in_default : goal.returns-in_default
returns-in_default c =
    let d = c.in_default in
    no_compound_op c.args.kind d.not-MinusEquals d.not-StarEquals d.not-SlashEquals d.not-PercentEquals d.not-AmpersandEquals d.not-BarEquals d.not-CaretEquals

use Rattle.std.proofs.Common.{sym}
use Rattle.ckc_parser_grammar.proofs.Others.{no_sign_op}
use Rattle.ckc_parser_grammar.proofs.operators.sign_op.Goals as goal

pub returns-in_default : goal.returns-in_default
returns-in_default c =
    let d = c.in_default in
    sym (no_sign_op c.args.kind d.not-Plus d.not-Exclamation d.not-Tilde d.not-Star d.not-Ampersand)

use Rattle.ckc_lexer.proofs.Answer.{lexing_exact}
use Rattle.ckc_lexer.proofs.laws.is_exact.Goals as goal

pub returns : goal.returns
returns c = lexing_exact

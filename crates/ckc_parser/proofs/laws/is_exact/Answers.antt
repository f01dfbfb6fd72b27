use Rattle.ckc_parser.proofs.Once.{parsing_exact}
use Rattle.ckc_parser.proofs.laws.is_exact.Goals as goal

pub returns : goal.returns
returns c = parsing_exact

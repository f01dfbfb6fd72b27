use Rattle.ckc_lexer.proofs.FaultCodes.{fault_codes}
use Rattle.ckc_lexer.proofs.laws.codes.Goals as goal

pub returns : goal.returns
returns c = fault_codes

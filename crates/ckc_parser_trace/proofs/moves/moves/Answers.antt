use Rattle.std.proofs.Common.{refl}
use Rattle.ckc_parser_trace.proofs.moves.moves.Goals as goal

pub returns : goal.returns
returns c = refl

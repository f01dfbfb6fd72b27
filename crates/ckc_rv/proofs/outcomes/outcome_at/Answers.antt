use Rattle.std.proofs.Common.{arith}
use Rattle.std.proofs.lemmas.Bool.Decides.{nat_tests}
use Rattle.ckc_rv.specs.code.Decoded.{by_opcode}
use Rattle.ckc_rv.proofs.Rows.{decoded_by}
use Rattle.ckc_rv.proofs.outcomes.outcome_at.Goals as goal

pub returns-in_default : goal.returns-in_default
unfolding by_opcode
returns-in_default c = rw (decoded_by c.args.word c.ranges.word.fits) (grind (arith, nat_tests))

use Rattle.std.proofs.Common.{refl, arith}
use Rattle.std.proofs.lemmas.Int.{ints}
use Rattle.ckc_asm_lines.proofs.LineCodes.{far_codes}
use Rattle.ckc_asm_lines.proofs.assembler.put_far.Goals as goal

pub returns : goal.returns
returns c = far_codes c.args.rd c.args.address c.args.target _ _ _ _ _ c.ranges.address.fits c.ranges.target.fits refl (omega (arith, ints)) c.in_ok-put.ensures c.in_ok-put-2.ensures

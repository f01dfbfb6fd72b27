use Rattle.std.proofs.Common.{ℕ, length, ap, arith, length-append}
use Rattle.std.proofs.lemmas.Fmt.{length-decimal-le}
use Rattle.ckc_asm_listing.proofs.texts.fence_line.Goals as goal

pub push_decimal-requires : goal.push_decimal-requires
push_decimal-requires c = omega (arith, length-decimal-le 3 c.from.result (omega arith) (omega arith) (omega arith))

pub returns-clause-length : goal.returns-clause-length
returns-clause-length c = omega (arith, ap length c.push_decimal.ensures, length-append {A = ℕ}, length-decimal-le 3 c.from.result (omega arith) (omega arith) (omega arith))

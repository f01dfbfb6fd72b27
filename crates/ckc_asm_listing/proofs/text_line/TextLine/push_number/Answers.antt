use Rattle.std.proofs.Common.{length, ap, ◌∙◌, arith, length-append}
use Rattle.std.specs.Fmt.{decimal}
use Rattle.std.proofs.lemmas.Fmt.{length-decimal-le}
use Rattle.ckc_asm_listing.proofs.text_line.TextLine.push_number.Goals as goal

pub push_decimal-requires : goal.push_decimal-requires
push_decimal-requires c = omega (arith, length-decimal-le 10 c.args.n (omega arith) (omega arith) (omega arith))

pub returns-clause-length : goal.returns-clause-length
returns-clause-length c =
    let longer = ap length c.push_decimal.ensures ∙ length-append c.args.self.now (decimal c.args.n) in
    omega (arith, longer, length-decimal-le 10 c.args.n (omega arith) (omega arith) (omega arith))

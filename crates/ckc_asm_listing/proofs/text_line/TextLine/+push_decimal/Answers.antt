use Rattle.std.proofs.Common.{◌≡◌, ◌+◌, ◌/◌, ◌%◌, [], ◌∷◌, ◌++◌, length, sym, ap, ◌∙◌, append_assoc, arith, length-append}
use Rattle.std.specs.Fmt.{decimal}
use Rattle.std.proofs.lemmas.Fmt.{decimal_digit, decimal_step}
use Rattle.ckc_asm_listing.proofs.text_line.TextLine.+push_decimal.Goals as goal
use Rattle.ckc_asm_listing.proofs.text_line.TextLine.+push_decimal.Goals.{then-n-ge10, else-n-ge10}

pub push_decimal-requires : goal.push_decimal-requires
push_decimal-requires t c =
    let n = c.args.n in
    let step = decimal_step n (omega arith) (omega arith) in
    let longer = ap length step ∙ length-append (decimal (n / 10)) ((48 + n % 10) ∷ []) in
    (omega arith, omega (arith, longer))

pub push-requires : goal.push-requires
push-requires t c =
    let n = c.args.n in
    elim c.if-n-ge10.branch [
      | then-n-ge10 w ↦
          let step = decimal_step n (omega (arith, w.if-n-ge10.true)) (omega arith) in
          let whole = ap length step ∙ length-append (decimal (n / 10)) ((48 + n % 10) ∷ []) in
          let front = ap length (w.self-is ∙ w.push_decimal.ensures) ∙ length-append c.args.self.now (decimal (n / 10)) in
          omega (arith, whole, front)
      | else-n-ge10 w ↦ omega (arith, ap length (decimal_digit n w.if-n-ge10.false), ap length w.self-is)
    ]

pub returns : goal.returns
returns t c =
    let n = c.args.n in
    elim c.if-n-ge10.branch [
      | then-n-ge10 w ↦
          c.push.ensures ∙ ap (λ l. l ++ (48 + n % 10) ∷ []) (w.self-is ∙ w.push_decimal.ensures)
          ∙ append_assoc c.args.self.now (decimal (n / 10)) ((48 + n % 10) ∷ [])
          ∙ ap (λ l. c.args.self.now ++ l) (sym (decimal_step n (omega (arith, w.if-n-ge10.true)) (omega arith)))
      | else-n-ge10 w ↦
          let last : n % 10 ≡ n = omega (arith, w.if-n-ge10.false) in
          c.push.ensures ∙ ap (λ l. l ++ (48 + n % 10) ∷ []) w.self-is
          ∙ ap (λ d. c.args.self.now ++ (48 + d) ∷ []) last
          ∙ ap (λ l. c.args.self.now ++ l) (sym (decimal_digit n w.if-n-ge10.false))
    ]

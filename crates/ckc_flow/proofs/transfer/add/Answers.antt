use Rattle.std.proofs.Common.{◌∙◌, sym, ap, set, true, false, arith}
use Rattle.std.proofs.lemmas.List.{get_or_past}
use Rattle.ckc_flow.proofs.Lists.{joined_mark, joined_none, joined_all}
use Rattle.ckc_flow.proofs.transfer.add.Goals.{then-r-other+then-other-r, else-r-other, else-r-other-via-then-r-other+else-other-r, else-r-other-via-else-r-other}
use Rattle.ckc_flow.proofs.transfer.add.Goals as goal

pub loop-r-preserved : goal.loop-r-preserved
loop-r-preserved c =
    let xs = c.args.other.now in
    let ys = c.args.row.now in
    let r = c.loop-r.r in
    elim c.if-r-other.branch [
      | then-r-other+then-other-r w ↦ w.row-is ∙ ap (λ l. set l r true) c.loop-r.invariant
          ∙ sym (joined_mark xs ys r w.if-r-other.true (omega arith) w.if-other-r.true)
      | else-r-other w ↦ w.row-is ∙ c.loop-r.invariant ∙ sym (joined_none xs ys r (omega arith) (
          elim w.else-r-other.branch [
            | else-r-other-via-then-r-other+else-other-r w' ↦ w'.if-other-r.false
            | else-r-other-via-else-r-other w' ↦ get_or_past xs r false w'.if-r-other.false
          ]))
    ]

pub returns : goal.returns
returns c = c.loop-r.invariant ∙ joined_all c.args.other.now c.args.row.now c.loop-r.r (omega arith)

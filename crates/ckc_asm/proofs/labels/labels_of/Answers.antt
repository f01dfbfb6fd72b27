use Rattle.std.proofs.Common.{arith, ap}
use Rattle.std.proofs.lemmas.Result.{err_from_is_err_and}
use Rattle.ckc_asm.specs.code.Rows.{statement_in, statements_in, word_of}
use Rattle.ckc_asm.specs.code.Reading.{known}
use Rattle.ckc_asm.proofs.LabelsBelow.{offset_more, width_small, labels_label, labels_other, labels_all, labels_same, old_label, row_at, row_label, row_unlabelled, rows_size}
use Rattle.ckc_asm.proofs.labels.labels_of.Goals as goal
use Rattle.ckc_asm.proofs.labels.labels_of.Goals.{in-Some+in_ok-put_label, in_default}

pub returns-in_err-put_label-clause-fault : goal.returns-in_err-put_label-clause-fault
returns-in_err-put_label-clause-fault c =
    let p = err_from_is_err_and c.from_residual.result c.from_residual.ensures.1 in
    let here = row_at c.args.rows.now c.loop-k.k c.index-rows-k.result c.loop-k-test.true c.index-rows-k.is in
    rw (p.1, p.2) (old_label _ _ _ _ (word_of c.in-Some.label) _ here (row_label c.index-rows-k.result c.in-Some.label c.in-Some.is) c.in_err-put_label.ensures.fault c.loop-k.invariant.labels)

pub loop-k-preserved : goal.loop-k-preserved
loop-k-preserved c =
    let here = row_at c.args.rows.now c.loop-k.k c.index-rows-k.result c.loop-k-test.true c.index-rows-k.is in
    let more = offset_more (statements_in c.args.rows.now) c.loop-k.k (statement_in c.index-rows-k.result) here in
    let small = width_small c.index-rows-k.result.item.form in
    record {
      at = omega (arith, more, c.width_of-address.ensures, c.loop-k.invariant.at);
      low = omega (arith, small, c.width_of-address.ensures, c.loop-k.invariant.low);
      labels = elim c.match-row.branch [
        | in-Some+in_ok-put_label w ↦
            labels_same _ _ _ _ (λ name. ap (λ m. known m name) w.labels-is)
            (labels_label (known c.loop-k.labels) (known w.put_label.new.labels) _ _ _ (word_of w.in-Some.label) c.loop-k.address here (row_label c.index-rows-k.result w.in-Some.label w.in-Some.is) c.loop-k.invariant.at
            w.in_ok-put_label.ensures.fresh w.in_ok-put_label.ensures.next c.loop-k.invariant.labels)
        | in_default w ↦ labels_same _ _ _ _ (λ name. ap (λ m. known m name) w.labels-is) (labels_other _ _ _ _ here (row_unlabelled c.index-rows-k.result w.in_default.is) c.loop-k.invariant.labels)
      ];
    }

pub returns-clause-labels : goal.returns-clause-labels
returns-clause-labels c = labels_all _ _ _ (omega (arith, rows_size c.args.rows.now)) c.loop-k.invariant.labels

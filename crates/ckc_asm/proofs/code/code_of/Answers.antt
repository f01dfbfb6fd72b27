use Rattle.std.proofs.Common.{arith}
use Rattle.std.proofs.lemmas.Result.{err_from_is_err_and}
use Rattle.ckc_asm.specs.code.Rows.{statement_in, statements_in}
use Rattle.ckc_asm.proofs.LabelsBelow.{row_at, rows_size, offset_more, width_small}
use Rattle.ckc_asm.proofs.LabelUses.{named_known, no_word, words_more, words_all}
use Rattle.ckc_asm.proofs.code.code_of.Goals as goal

pub put_statement-requires : goal.put_statement-requires
put_statement-requires c =
    let here = row_at c.args.rows.now c.loop-k.k c.index-rows-k.result c.loop-k-test.true c.index-rows-k.is in
    named_known _ _ _ (statement_in c.index-rows-k.result) c.requires.exact here c.requires.named

pub returns-in_err-put_statement-clause-fault : goal.returns-in_err-put_statement-clause-fault
returns-in_err-put_statement-clause-fault c =
    let p = err_from_is_err_and c.from_residual.result c.from_residual.ensures.1 in
    let here = row_at c.args.rows.now c.loop-k.k c.index-rows-k.result c.loop-k-test.true c.index-rows-k.is in
    rw (p.1, p.2) (no_word _ _ _ _ _ _ c.requires.exact here c.loop-k.invariant.at c.in_err-put_statement.ensures.fault c.loop-k.invariant.words.none)

pub loop-k-preserved : goal.loop-k-preserved
loop-k-preserved c =
    let here = row_at c.args.rows.now c.loop-k.k c.index-rows-k.result c.loop-k-test.true c.index-rows-k.is in
    let more = offset_more (statements_in c.args.rows.now) c.loop-k.k (statement_in c.index-rows-k.result) here in
    let small = width_small c.index-rows-k.result.item.form in
    let added = c.in_ok-put_statement.ensures.ok in
    record {
      at = omega (arith, more, c.width_of-address.ensures, c.loop-k.invariant.at);
      low = omega (arith, small, c.width_of-address.ensures, c.loop-k.invariant.low);
      words = words_more _ _ _ _ _ added.0 _ _ c.requires.exact here c.loop-k.invariant.at added.1 added.2 c.loop-k.invariant.words;
    }

pub returns-clause-code : goal.returns-clause-code
returns-clause-code c = words_all _ _ _ (omega (arith, rows_size c.args.rows.now)) c.loop-k.invariant.words

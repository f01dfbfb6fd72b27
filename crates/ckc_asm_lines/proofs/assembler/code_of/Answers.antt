use Rattle.std.proofs.Common.{◌≡◌, Some, get_or, arith}
use Rattle.std.proofs.lemmas.Option.{slice_get-get_or}
use Rattle.std.specs.List.{slice_get}
use Rattle.ckc_asm_lines.specs.declared.lines.Line.TheVariants.{Label}
use Rattle.ckc_asm_lines.proofs.PlaceTable.{code_more, offset_more}
use Rattle.ckc_asm_lines.proofs.assembler.code_of.Goals as goal

pub put_line-requires-clause-can : goal.put_line-requires-clause-can
put_line-requires-clause-can c =
    let lines = c.args.lines.now in
    let k = c.loop-line.line-index in
    let here : slice_get lines k ≡ Some (get_or lines k (Label 0)) = slice_get-get_or lines k (Label 0) c.loop-line-test.true in
    rw c.loop-line.invariant.at (c.requires.each k _ here)

pub loop-line-preserved : goal.loop-line-preserved
loop-line-preserved c =
    let lines = c.args.lines.now in
    let k = c.loop-line.line-index in
    let here : slice_get lines k ≡ Some (get_or lines k (Label 0)) = slice_get-get_or lines k (Label 0) c.loop-line-test.true in
    let more = offset_more lines k _ here in
    let added = c.in_ok-put_line.ensures in
    record {
      at = omega (arith, more, c.size-address.ensures);
      code = code_more _ _ _ _ _ added.0 _ here added.1 (rw (← c.loop-line.invariant.at) added.2) c.loop-line.invariant.code;
    }

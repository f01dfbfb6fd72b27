use Rattle.std.proofs.Common.{◌≡◌, ◌∙◌, ap, sym, get_or, slice_index, length}
use Rattle.std.specs.List.{slice_get}
use Rattle.ckc_frame.specs.declared.code.PlacedFunc.{PlacedFunc}
use Rattle.ckc_frame.specs.Places.{marks_of}
use Rattle.ckc_emit.specs.code.ProgramLines.{homes_of, label_of, codes_of}
use Rattle.ckc_emit.proofs.AddedCode.{callable}
use Rattle.ckc_emit.proofs.CallsEmitted.{at_get, whole_call_emits}
use Rattle.ckc_emit.proofs.blocks.put_whole_call.Goals as goal

pub returns : goal.returns
returns c =
    let p = c.args.p.now in
    let fs = p.funcs in
    let kept = c.args.f.now.kept in
    let called = callable (codes_of fs) fs c.args.callee (length c.args.args.now) c.requires.whole.placed c.requires.whole.code.functions c.requires.callee in
    let row_is : c.index-as_slice-calls.result ≡ get_or kept c.args.calls c.index-as_slice-calls.result = cc in
    let row : marks_of (slice_get kept c.args.calls) ≡ c.as_slice-row.result.now =
    ap marks_of (at_get kept c.args.calls c.index-as_slice-calls.result c.requires.counted row_is) ∙ sym c.as_slice-row.ensures in
    let callee_is : c.index-as_slice-callee.result ≡ get_or fs c.args.callee c.index-as_slice-callee.result = cc in
    let as_read : c.index-as_slice-callee.result ≡ get_or c.as_slice-2.result.now c.args.callee c.index-as_slice-callee.result = cc in
    let params : homes_of (slice_get fs c.args.callee) ≡ c.as_slice-params.result.now =
    ap homes_of (at_get fs c.args.callee c.index-as_slice-callee.result called.below callee_is) ∙ ap (λ (f : PlacedFunc). f.homes) as_read ∙ sym c.as_slice-params.ensures in
    let others = homes_of (slice_get fs c.args.callee) in
    let marks = marks_of (slice_get kept c.args.calls) in
    whole_call_emits c.put_result.result c.args.f.now.homes c.as_slice-homes.result.now c.as_slice-row.result.now marks c.as_slice-params.result.now others
    (slice_index c.args.labels.now c.args.callee) (label_of fs c.args.callee) c.args.args.now c.args.at c.args.target c.args.out.now.items c.put_call.new.out.items c.put_result.new.out.items
    (sym c.as_slice-homes.ensures) row params (c.requires.labelled.are c.args.callee called.below) c.in_ok-put_call.ensures c.put_result.ensures
